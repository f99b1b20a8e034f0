-- When two sheets give the same rows: so that what is claimed of rows by one description of the calls holds by another.
use Rattle.std.specs.Prelude.{◌≡◌, ℕ, ◌≤◌, ◌<◌}
use Rattle.rides.specs.Rows.{Sheet, Joins, first_of, rows}
use Rattle.rides.specs.Routes.{route_rows}

-- s and t have the same calls at the places below n, but for the numbers of their stops; these have the same origins and targets. They
-- have the same walks, and join alike where there are changes
pub record Agree (s t : Sheet) (joins joins' : Joins) (depth n : ℕ) : Type 0 where
  pub trip : (i : ℕ) → i < n → (s.at i).trip ≡ (t.at i).trip
  pub day : (i : ℕ) → i < n → (s.at i).day ≡ (t.at i).day
  pub arrival : (i : ℕ) → i < n → (s.at i).arrival ≡ (t.at i).arrival
  pub departure : (i : ℕ) → i < n → (s.at i).departure ≡ (t.at i).departure
  pub board : (i : ℕ) → i < n → (s.at i).board ≡ (t.at i).board
  pub alight : (i : ℕ) → i < n → (s.at i).alight ≡ (t.at i).alight
  pub origins : (i : ℕ) → i < n → s.origins (s.at i).stop ≡ t.origins (t.at i).stop
  pub targets : (i : ℕ) → i < n → s.targets (s.at i).stop ≡ t.targets (t.at i).stop
  pub origin_walk : (o : ℕ) → o < 4 → s.origin_walk o ≡ t.origin_walk o
  pub target_walk : (x : ℕ) → x < 4 → s.target_walk x ≡ t.target_walk x
  pub joined : 1 ≤ depth → (i o k j : ℕ) → i < n → o < 4 → k < n → j < n → joins (first_of s i o k) j ≡ joins' (first_of t i o k) j

abbrev pub RowsAgree : Type 0
RowsAgree =
    (s t : Sheet) (joins joins' : Joins) (depth n : ℕ) → Agree s t joins joins' depth n → rows s joins depth n ≡ rows t joins' depth n

-- by depth
abbrev pub RouteRowsAgree : Type 0
RouteRowsAgree =
    (s t : Sheet) (joins joins' : Joins) (depth n : ℕ) → Agree s t joins joins' depth n
    → route_rows s joins depth n ≡ route_rows t joins' depth n
