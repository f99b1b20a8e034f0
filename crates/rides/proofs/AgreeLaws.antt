-- Sheets that agree give the same rows.
use mathlib.Core.Path.{◌≡◌, sym, ap, ◌∙◌}
use mathlib.Core.Bool.{◌&&◌}
use mathlib.Core.List.{map-id, Memᴰ}
use Prim.Native.Nat.{ℕ, ◌-◌, ◌+◌, ◌*◌, ◌<◌}
use native.Mathlib.Omega.{arith}
use lib.Dec.{eqb, leb}
use Rattle.laws.specs.Lists.{filterb, span}
use Rattle.laws.specs.Bits.{bits_of}
use Rattle.laws.proofs.Bits.{bits-set}
use Rattle.laws.proofs.Folds.{span-mem}
use Rattle.laws.proofs.Lists.{filterb-mem, filterb-cong}
use Rattle.ways.specs.Rides.{journeys}
use Rattle.ways.specs.Images.{Images, Stand}
use Rattle.ways.proofs.ImageLaws.{journeys-of-images}
use Rattle.profile.specs.Found.{Row}
use Rattle.profile.specs.Journeys.{row, row_of}
use Rattle.search_input.specs.Feed.{same_run, leave_of, arrival_of}
use Rattle.rides.specs.Rows.{Sheet, Joins, first_of, direct_row, change_row, direct_by, change_by, network_of, rows}
use Rattle.rides.specs.Agree.{Agree, RowsAgree}

-- the origins and the targets of a place are below 4
pub origin-below : (s : Sheet) (joins : Joins) (i o : ℕ) → Memᴰ o ((network_of s joins).origins i) → o < 4
unfolding network_of bits_of
origin-below s joins i o m =
    (bits-set 4 (s.origins (s.at i).stop)
    (filterb-mem (λ o. leb (s.origin_walk o * 60) (s.at i).departure) (bits_of (s.origins (s.at i).stop)) m).0).0

pub target_below : (s : Sheet) (joins : Joins) (i x : ℕ) → Memᴰ x ((network_of s joins).targets i) → x < 4
unfolding network_of bits_of
target_below s joins i x m = (bits-set 4 (s.targets (s.at i).stop) m).0

pub place-below : (n i : ℕ) → Memᴰ i (span 0 n) → i < n
place-below n i m = let (p, q) = span-mem 0 n m in omega arith

module _ (s t : Sheet) (joins joins' : Joins) (depth n : ℕ) (a : Agree s t joins joins' depth n) where
  pub same-network : Images (network_of s joins) (network_of t joins') (λ i. i) depth (span 0 n)
  unfolding network_of same_run bits_of
  same-network =
      record {
        same = λ i k mi mk. sym (same i k (place-below n i mi) (place-below n k mk));
        board = λ i m. sym (a.board i (place-below n i m));
        alight = λ i m. sym (a.alight i (place-below n i m));
        origins = λ i m. origins i (place-below n i m);
        targets = λ i m. ap bits_of (sym (a.targets i (place-below n i m)));
        joins =
            λ one i k j mi mk mj. sym
            (a.joined (omega arith) i 0 k j (place-below n i mi) (omega arith) (place-below n k mk) (place-below n j mj));
      }
    where
      same : (i k : ℕ) → i < n → k < n → same_run (s.at i) (s.at k) ≡ same_run (t.at i) (t.at k)
      same i k li lk = λ p. eqb (a.trip i li p) (a.trip k lk p) && eqb (a.day i li p) (a.day k lk p)

      walked : (i o : ℕ) → i < n → o < 4 → leb (s.origin_walk o * 60) (s.at i).departure ≡ leb (t.origin_walk o * 60) (t.at i).departure
      walked i o li lo = λ p. leb (a.origin_walk o lo p * 60) (a.departure i li p)

      origins : (i : ℕ) → i < n
          → filterb (λ o. leb (t.origin_walk o * 60) (t.at i).departure) (bits_of (t.origins (t.at i).stop))
          ≡ filterb (λ o. leb (s.origin_walk o * 60) (s.at i).departure) (bits_of (s.origins (s.at i).stop))
      origins i li =
          rw (← a.origins i li)
          (filterb-cong _ _ (bits_of (s.origins (s.at i).stop)) (λ o m. sym (walked i o li (bits-set 4 (s.origins (s.at i).stop) m).0)))

  pub same_rows : Stand (network_of s joins) (λ i. i) depth (span 0 n) (λ (r : Row). r) (direct_by s) (change_by s) (direct_by t)
      (change_by t)
  unfolding direct_row change_row row_of first_of leave_of arrival_of
  same_rows =
      record {
        alone =
            λ f x p o k. alone f.ride.b f.o f.ride.a x (place-below n _ p.0) (origin-below s joins _ _ o) (place-below n _ p.1)
            (target_below s joins _ _ k);
        changing =
            λ one f l x p o q k. changing f.ride.b f.o f.ride.a l.b l.a x (place-below n _ p.0) (origin-below s joins _ _ o)
            (place-below n _ q.1) (target_below s joins _ _ k);
      }
    where
      alone : (i o k x : ℕ) → i < n → o < 4 → k < n → x < 4 → direct_row s (first_of s i o k) x ≡ direct_row t (first_of t i o k) x
      alone i o k x li lo lk lx =
          λ p. row (a.departure i li p - a.origin_walk o lo p * 60) (a.arrival k lk p + a.target_walk x lx p * 60) 1
          (a.origin_walk o lo p) o x i k 0 0 0 0

      changing : (i o k j m x : ℕ) → i < n → o < 4 → m < n → x < 4
          → change_row s (first_of s i o k) j m x ≡ change_row t (first_of t i o k) j m x
      changing i o k j m x li lo lm lx =
          λ p. row (a.departure i li p - a.origin_walk o lo p * 60) (a.arrival m lm p + a.target_walk x lx p * 60) 2
          (a.origin_walk o lo p) o x i k j m 0 0

pub rows_agree : RowsAgree
unfolding rows
rows_agree s t joins joins' depth n a =
    sym (map-id (journeys (network_of s joins) (direct_by s) (change_by s) depth (span 0 n)))
    ∙ journeys-of-images (network_of s joins) (network_of t joins') (λ i. i) depth (span 0 n) (λ (r : Row). r) (direct_by s)
    (change_by s) (direct_by t) (change_by t)
    (same-network s t joins joins' depth n a) (same_rows s t joins joins' depth n a)
    ∙ ap (journeys (network_of t joins') (direct_by t) (change_by t) depth) (map-id (span 0 n))
