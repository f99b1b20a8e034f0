-- The rows of a search by depth: those of the routes of crate `ways` over the places of the calls.
use Rattle.std.specs.Prelude.{◌≡◌, List, [], ◌∷◌, ◌++◌, map, ℕ, ◌≤◌, min}
use Rattle.laws.specs.Lists.{span}
use Rattle.ways.specs.Rides.{Leg}
use Rattle.ways.specs.Routes.{Route, pass, routes}
use Rattle.profile.specs.Found.{Row}
use Rattle.search_input.specs.declared.FirstRide.{FirstRide}
use Rattle.rides.specs.Rows.{Sheet, Joins, first_at, direct_row, change_row, three_row, network_of, rows}
use Rattle.rides.specs.Sheets.{sheet_of, joins_of}
use Rattle.search_input.specs.Layout.{call_room}

-- the row to target x of a journey that had the rides p and r and goes on by these: the last two are its middle and its last ride
abbrev pub on_row : Sheet → FirstRide → ℕ → Leg ℕ → Leg ℕ → List (Leg ℕ) → Row
on_row s f x p r [] = three_row s f p.b p.a r.b r.a x
on_row s f x p r (l ∷ ls) = on_row s f x r l ls

-- the row of a first ride and these
abbrev pub row_to : Sheet → FirstRide → ℕ → List (Leg ℕ) → Row
row_to s f x [] = direct_row s f x
row_to s f x (l ∷ []) = change_row s f l.b l.a x
row_to s f x (p ∷ r ∷ ls) = on_row s f x p r ls

abbrev pub row_by : Sheet → Route ℕ → Row
row_by s r = row_to s (first_at s r.first) r.way.target r.way.rides

-- the rows of three rides, in order. n: how many calls there are
unfoldable pub three_rows : Sheet → Joins → ℕ → List Row
three_rows s joins n = map (row_by s) (pass (network_of s joins) (2 ∷ []) (span 0 n))

-- every row with at most so many changes, in order
unfoldable pub route_rows : Sheet → Joins → ℕ → ℕ → List Row
route_rows s joins depth n = map (row_by s) (routes (network_of s joins) depth (span 0 n))

-- of the lent arrays, over the first n calls, of which there are at most 512
unfoldable pub rows_of : List ℕ → List ℕ → ℕ → ℕ → List Row
rows_of f g n depth = route_rows (sheet_of f) (joins_of f g) depth (min n call_room)

-- ---- what is claimed

-- with max_transfers 0 and 1 they are the rows as they were
abbrev pub RowsUpToOne : Type 0
RowsUpToOne = (s : Sheet) (joins : Joins) (depth n : ℕ) → depth ≤ 1 → route_rows s joins depth n ≡ rows s joins depth n

-- with more, those of three rides after all of these
abbrev pub RowsThreeLast : Type 0
RowsThreeLast =
    (s : Sheet) (joins : Joins) (depth n : ℕ) → 2 ≤ depth → route_rows s joins depth n ≡ rows s joins 1 n ++ three_rows s joins n
