-- Last rides that need not be walked: where a row that bounds them would be passed over, so would every one of theirs.
use mathlib.Core.Path.{◌≡◌, refl}
use mathlib.Core.Bool.{Bool, true, false, cond, not, ◌&&◌}
use mathlib.Core.List.Memᴰ
use mathlib.Core.List.{List, [], Memᴰ}
use Prim.Native.Nat.{ℕ, ◌+◌, ◌≤◌}
use native.Mathlib.Omega.{arith}
use lib.Dec.{eqb}
use borrow.Author.Tests.{leb-true}
use Rattle.laws.specs.Bits.{bits_of}
use Rattle.laws.proofs.Bools.{and-true-right}
use Rattle.laws.proofs.Folds.{concat_map-mem}
use Rattle.profile.specs.Found.{Row}
use Rattle.profile.specs.Journeys.{cov, row_of}
use Rattle.candidate.proofs.PassedLaws.{cov-no-later}
use Rattle.search_input.specs.declared.FirstRide.{FirstRide}
use Rattle.rides.specs.Rows.{change_row}
use Rattle.rides.specs.Loops.{over_bits, over_run, later_from, last_at, last_alight_rows}
use Rattle.search_input.specs.Feed.{call_at, change_at, target_mask, joined}
use Rattle.rides.specs.Sheets.{joins_of, sheet_of}
use Rattle.rides.specs.Bounds.{AtTargets, AtCall, AtBoard}

pub cond-mem : {A : Type 0} {x : A} {xs : List A} (b : Bool) → Memᴰ x (cond b xs []) → (b ≡ true) × Memᴰ x xs
cond-mem true m = (refl, m)
cond-mem false m = absurd (Memᴰ.not-nil m)

-- the row covers every row of the list
abbrev pub Covers : Row → List Row → Type 0
Covers b os = (o : Row) → Memᴰ o os → cov b o ≡ true

-- the earliest that a two-ride journey after f could be, if it is due at t or later
abbrev pub earliest : FirstRide → ℕ → Row
earliest f t = row_of f.leave t 2 f.walk 0 0 0 0 0 0 0 0

module _ (feed : List ℕ) (f : FirstRide) where
  -- it covers the last rides that board at j and alight behind the place i, if none is at a target earlier
  pub rest-covered : (n j i t u : ℕ) → t ≤ u → AtBoard feed n i u
      → Covers (earliest f t) (over_run (last_alight_rows (sheet_of feed) f j) (call_at feed) n i (i + 1))
  unfolding over_run last_alight_rows over_bits last_at change_row row_of sheet_of AtBoard AtCall AtTargets
  rest-covered n j i t u h w o k =
      let (m, p, q) = concat_map-mem (last_alight_rows (sheet_of feed) f j) (later_from (call_at feed) n i (i + 1)) k in
      let (y, r) = cond-mem (call_at feed m).alight q in
      let (x, z, v) = concat_map-mem (last_at (sheet_of feed) f j m) (bits_of (target_mask feed (call_at feed m).stop)) r in
      let g = w m p y x z in
      rw (Memᴰ.eq_of_singleton v) (cov-no-later (earliest f t) (change_row (sheet_of feed) f j m x) refl (omega arith) refl refl)

  -- all of them
  pub run-covered : (n j t u : ℕ) → t ≤ u → AtBoard feed n j u
      → Covers (earliest f t) (over_run (last_alight_rows (sheet_of feed) f j) (call_at feed) n j (j + 1))
  run-covered n j t u h w = rest-covered n j j t u h w

pub joins_after : (feed changes : List ℕ) (f : FirstRide) (j : ℕ) → joins_of feed changes f j ≡ true → f.arrival ≤ (call_at feed j).departure
unfolding joins_of joined
joins_after feed changes f j e =
    let b = call_at feed j in
    let h =
    leb-true (f.arrival + change_at changes f.stop b.stop) b.departure
    (and-true-right (not (eqb f.trip b.trip && eqb f.day b.day)) _ e) in
    omega (arith, h)
