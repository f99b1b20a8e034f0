-- An array that a closure makes place by place is a table.
use Rattle.std.specs.Array.{IsFromFnResult, IsFromFnResultFrom}
use Rattle.std.specs.Fn.{Called}
use denote.Param.Members.{Mut}
use mathlib.Core.Path.{◌≡◌, refl, sym, subst, ◌∙◌}
use mathlib.Core.List.{List}
use Prim.Native.Nat.{ℕ, zero, suc, ◌+◌, ◌≤◌, ◌<◌}
use native.Mathlib.Omega.{arith}
use lib.ListN.{get_or}
use lib.Seq.{ext_get_or}
use borrow.Author.Tests.{eqb-true, eqb-false}
use lib.Dec.{eqb}
use mathlib.Core.Bool.{Bool, true, false}
use Rattle.laws.specs.Tables.{table}
use Rattle.laws.proofs.Tables.{get_d-table, length-table}

module _ {F B : Type 0} (g : Mut F (ℕ × Unit {0}) B) (f : F) (h : ℕ → B)
    (same : (k : ℕ) (y : B) (q : F) → Called g f (k, tt) y q → (q ≡ f) × (y ≡ h k)) (d : B) (ys : List B) where
  made_at : (i n : ℕ) → IsFromFnResultFrom g f ys i n → (k : ℕ) → i ≤ k → k < i + n → get_or ys k d ≡ h k
  made_at i zero m k a b = absurd (omega arith)
  made_at i (suc n) (q, y, at, called, more) k a b =
      let s = same i y q called in
      go s.1 (λ c. made_at (i + 1) n (subst (λ (p : F). IsFromFnResultFrom g p ys (i + 1) n) s.0 more) k c (omega arith)) (eqb i k) refl
    where
      go : y ≡ h i → (i + 1 ≤ k → get_or ys k d ≡ h k) → (t : Bool) → eqb i k ≡ t → get_or ys k d ≡ h k
      go s rest true e = subst (λ (x : ℕ). get_or ys x d ≡ h x) (eqb-true i k e) (at.1 d ∙ s)
      go s rest false e = rest (omega (arith, eqb-false i k e))

  pub made-table : (n : ℕ) → IsFromFnResult g f ys n → ys ≡ table n h
  made-table n m = ext_get_or d ys (table n h) (m.long ∙ sym (length-table h n))
      (λ k b. made_at 0 n m.each k (omega arith) (omega (arith, m.long)) ∙ sym (get_d-table h d n k (omega (arith, m.long))))
