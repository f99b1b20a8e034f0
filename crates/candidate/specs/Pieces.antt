-- What the private functions of an offer do to the array, piece by piece.
use Rattle.std.specs.Prelude.{Result, Ok, Err, ◌≡◌, Bool, not, cond, List, [], ◌∷◌, ℕ}
use Rattle.std.specs.Prelude.{◌+◌, ◌*◌, ◌≤◌, min, max, eqb, leb, ltb, get_or, length, set, take}
use Rattle.std.specs.Prelude.{drop}
use Rattle.laws.specs.Lists.{filterb}
use Rattle.laws.specs.Arrays.{puts}
use Rattle.profile.specs.Found.{Row}
use Rattle.profile.specs.Figures.{lexb}
use Rattle.profile.specs.Kept.{SearchState, latest, settle}
use Rattle.profile.specs.Walk.{place, near, passes}
use Rattle.profile.specs.Journeys.{cov, due, no_row}
use Rattle.candidate.specs.declared.walk.Turn.{Turn}
use Rattle.candidate.specs.declared.walk.Turn.TheVariants.{On, Covered, Stops}
use Rattle.search_state.specs.Layout.{width, count_place, refused_place, size}
use Rattle.search_state.specs.View.{rows, horizon_of, limits_of}
use Rattle.profile.specs.Sizes.{kept_room, least_horizon}

-- the row r stored in slot i
abbrev pub stored : List ℕ → ℕ → Row → List ℕ
stored l i r =
    puts (set l (i * width) r.leave) (i * width) 1
    (r.arrival ∷ r.rides ∷ r.walk ∷ r.origin ∷ r.target ∷ r.board ∷ r.alight ∷ r.board2 ∷ r.alight2 ∷ r.middle_board ∷ r.middle_alight ∷ [])

-- the same, unfolded only where a proof asks for it
unfoldable pub put_row : List ℕ → ℕ → Row → List ℕ
put_row l i r = stored l i r

-- nothing but the slots differs
abbrev pub Tail : List ℕ → List ℕ → Type 0
Tail l l' = (x : ℕ) → count_place ≤ x → get_or l' x 0 ≡ get_or l x 0

-- one of the two rows covers the other
unfoldable pub near_to : Row → Row → Bool
near_to o k = near cov k o

-- the place of the first of the rows that covers o or that o covers; their number if there is none
unfoldable pub near_at : Row → List Row → ℕ
near_at o ks = place (λ k. near cov k o) ks

-- (arrival, rides, walk), compared in that order, is no larger than another such three
unfoldable pub rank_by : ℕ → ℕ → ℕ → ℕ → ℕ → ℕ → Bool
rank_by a r w b s v = lexb a b (lexb r s (leb w v))

-- what the walk of o does at row i of c, which is k
unfoldable pub turn_of : ℕ → ℕ → Row → Row → Turn
turn_of i c o k = cond (ltb i c) (cond (cov k o) Covered (cond (cov o k) Stops On)) Stops

-- slot c, behind the c kept rows, leaves when o does: only there is it asked whether the walk is at its end
unfoldable pub Ends : List ℕ → ℕ → Row → Type 0
Ends l c o = get_or l (c * width) 0 ≡ o.leave

-- no row from i up to r covers o or is covered by it
pub record Skipped (o : Row) (ks : List Row) (i r : ℕ) : Type 0 where
  pub same : i + near_at o (drop i ks) ≡ r + near_at o (drop r ks)
  pub up : i ≤ r

-- the walk passes o over
unfoldable pub passing : Row → List Row → Bool
passing o ks = passes cov o ks

-- what the walk of o over the rows finds: the place of a row that covers o; else where the numbers of the first that o covers start
unfoldable pub walk_end : Row → List Row → Result ℕ ℕ
walk_end o ks = cond (passing o ks) (Ok (near_at o ks)) (Err (near_at o ks * width))

-- which rows stay: those that o does not cover; or those due by h
unfoldable pub uncovered : Row → Row → Bool
uncovered o k = not (cov o k)

unfoldable pub in_time : ℕ → Row → Bool
in_time h k = leb (due k) h

-- l' has the rows of the first i of l that stay, n in number, then others; from i on it is l
pub record Packed (p : Row → Bool) (l l' : List ℕ) (i n : ℕ) : Type 0 where
  pub long : length l' ≡ size
  pub list : take n (rows l') ≡ filterb p (take i (rows l))
  pub small : n ≤ i
  pub tail : Tail l l'
  pub upper : (k : ℕ) → i ≤ k → get_or (rows l') k no_row ≡ get_or (rows l) k no_row

-- the search is not refused
unfoldable pub Open : List ℕ → Type 0
Open l = get_or l refused_place 0 ≡ 0

unfoldable pub latest_due : List Row → ℕ
latest_due ks = latest due ks

-- the rows ks are to be kept
unfoldable pub settled : List ℕ → List Row → SearchState Row
settled l ks = settle due kept_room least_horizon ks (horizon_of l) (limits_of l)

-- ---- from when on an offer is passed over

-- from when on the row k equals or beats what has so many rides and such a walk and leaves no later
unfoldable pub covers_from : Row → ℕ → ℕ → ℕ
covers_from k r w = cond (lexb k.rides r (leb k.walk w)) k.arrival (k.arrival + 1)

-- from when on k is not equalled or beaten by what has so many rides and such a walk and leaves no earlier
unfoldable pub stays_from : Row → ℕ → ℕ → ℕ
stays_from k r w = cond (lexb r k.rides (leb w k.walk)) (k.arrival + 1) k.arrival

-- from when on a walk that begins at k passes over what leaves so; t: from when on one that begins behind k does
unfoldable pub row_from : ℕ → ℕ → ℕ → Row → ℕ → ℕ
row_from leave r w k t =
    cond (ltb k.leave leave) (max t (stays_from k r w)) (cond (eqb k.leave leave) (covers_from k r w) (min t (covers_from k r w)))

-- the same of a walk over these rows; t: what counts where none decides
unfoldable pub rows_from : ℕ → ℕ → ℕ → ℕ → List Row → ℕ
rows_from leave r w t [] = t
rows_from leave r w t (k ∷ ks) = row_from leave r w k (rows_from leave r w t ks)
