-- One turn more, and the last.
use mathlib.Core.Path.{◌≡◌, refl, ap, sym, ◌∙◌}
use Prim.Native.Nat.{ℕ, zero, suc, ◌+◌, ◌-◌, ◌%◌, ◌<◌}
use native.Mathlib.Omega.{arith}
use Rattle.load.specs.declared.Load.{Load}
use Rattle.load_c.specs.Searches.{with_mark, sum_of}

module _ (f : Load → ℕ) where
  -- each turn sets the mark anew
  pub any-mark : (n m : ℕ) (l : Load) → sum_of f n (with_mark l m) ≡ sum_of f n l
  unfolding sum_of
  any-mark zero m l = refl
  any-mark (suc n) m l = ap (λ (s : ℕ). f (with_mark l (n % 2)) + s) (any-mark n m l)

  turn : (n : ℕ) (l : Load) → sum_of f (suc n) l ≡ f (with_mark l (n % 2)) + sum_of f n (with_mark l (n % 2))
  unfolding sum_of
  turn n l = ap (λ (s : ℕ). f (with_mark l (n % 2)) + s) (sym (any-mark n (n % 2) l))

  pub next-turn :
      (left : ℕ) (l : Load) (sum h all : ℕ) → 0 < left → h ≡ f (with_mark l ((left - 1) % 2)) → sum + sum_of f left l ≡ all
      → sum + h + sum_of f (left - 1) (with_mark l ((left - 1) % 2)) ≡ all
  next-turn left l sum h all some is so =
      let one : left ≡ suc (left - 1) = omega arith in
      let step : sum_of f left l ≡ f (with_mark l ((left - 1) % 2)) + sum_of f (left - 1) (with_mark l ((left - 1) % 2)) =
      ap (λ (k : ℕ). sum_of f k l) one ∙ turn (left - 1) l in
      omega arith

  pub last_turn : (left : ℕ) (l : Load) (sum all : ℕ) → left ≡ 0 → sum + sum_of f left l ≡ all → sum ≡ all
  unfolding sum_of
  last_turn left l sum all none so =
      let nothing : sum_of f left l ≡ 0 = ap (λ (k : ℕ). sum_of f k l) none in
      omega arith
