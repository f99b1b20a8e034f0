-- A call by its key.
use mathlib.Core.Path.{◌≡◌, sym, ap, ◌∙◌}
use mathlib.Core.List.{List}
use Prim.Native.Nat.{ℕ, ◌-◌, ◌<◌}
use native.Mathlib.Omega.{arith}
use lib.ListN.{length, get_or}
use borrow.Author.Tests.{eq-eqb, ne_eqb}
use Rattle.std.specs.Prelude.{None, Option, Some}
use Rattle.laws.proofs.Bools.{cond-by, cond-not}
use Rattle.calls.specs.declared.Call.{Call}
use Rattle.calls.specs.Tables.{blank_call}
use Rattle.calls.specs.declared.CallKey.{CallKey}
use Rattle.withdrawal.specs.Removal.{counted, last_of, has_key}
use Rattle.withdrawal.proofs.RemovalLaws.{last-below}
use Rattle.connection.specs.Find.{find_in}

module _ (cs : List Call) (k : CallKey) (place : Option ℕ) (e : counted place ≡ last_of (has_key k) cs) where
  pub find_none : place ≡ None → None ≡ find_in cs k
  unfolding find_in
  find_none n = sym (cond-by _ _ (eq-eqb _ 0 (sym e ∙ ap counted n)))

  pub find-within : (n : ℕ) → place ≡ Some n → n < length cs
  find-within n q = omega (arith, e, ap counted q, last-below (has_key k) cs)

  pub find-some : (n : ℕ) → place ≡ Some n → Some (get_or cs n blank_call) ≡ find_in cs k
  unfolding find_in
  find-some n q =
      let at : n ≡ last_of (has_key k) cs - 1 = omega (arith, e, ap counted q) in
      ap (λ (m : ℕ). Some (get_or cs m blank_call)) at
      ∙ sym (cond-not _ _ (ne_eqb (last_of (has_key k) cs) 0 (λ (z : last_of (has_key k) cs ≡ 0). omega (arith, e, ap counted q, z))))
