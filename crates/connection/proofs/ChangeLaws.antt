-- The last rule for a pair is the first from the right; and what is asked of a change, from what it is read from.
use mathlib.Core.Path.{◌≡◌, sym, ap, ◌∙◌}
use mathlib.Core.Bool.{Bool, true}
use mathlib.Core.List.{List}
use Prim.Native.Nat.{ℕ}
use Rattle.std.specs.Prelude.{Option}
use Rattle.calls.specs.declared.Call.{Call}
use Rattle.rules.specs.declared.Rule.{Rule}
use Rattle.transfer.specs.declared.Ends.{Ends}
use Rattle.transfer.specs.declared.Transfers.{Transfers}
use Rattle.transfer.specs.Choice.{chosen}
use Rattle.transfer.specs.Changes.{ends_of_of, transfer_of, change_of}
use Rattle.transfer.specs.Lent.{near_in}
use Rattle.connection.specs.declared.Cause.{Cause}
use Rattle.connection.specs.declared.FoundLeg.{FoundLeg}
use Rattle.connection.specs.Tests.{first_of, asking}
use Rattle.connection.specs.Find.{boards, alights}
use Rattle.connection.specs.Changes.{number_in, pair_tests, rule_at, change_tests}

module _ (i : ℕ) (t : Transfers) (from to : FoundLeg) where
  -- by the calls of the legs
  abbrev pub tests : Call → Call → Call → List (Bool × Cause)
  tests b a c = change_tests i t.rules.now t.parents.now t.places.now t.change b a c

  pub change-by : (asked : Bool) (b a c : Call) (ends : Ends) (rule : Option Rule) (number : ℕ) (seconds : Option ℕ) (r : Option Cause)
      → asked ≡ true → b ≡ boards from → a ≡ alights from → c ≡ boards to
      → ends ≡ ends_of_of t.parents.now a.stop c.stop → rule ≡ chosen ends t.rules.now → number ≡ number_in t.rules.now rule
      → seconds ≡ change_of rule (near_in t ends) t.change → r ≡ first_of (pair_tests i rule number seconds b a c)
      → r ≡ first_of (asking asked (tests (boards from) (alights from) (boards to)))
  unfolding change_tests transfer_of ends_of_of
  change-by asked b a c ends rule number seconds r ea eb el ec ee er en es e =
      let rule-is : rule ≡ rule_at t.rules.now t.parents.now a.stop c.stop = er ∙ ap (λ (x : Ends). chosen x t.rules.now) ee in
      let number_is : number ≡ number_in t.rules.now (rule_at t.rules.now t.parents.now a.stop c.stop) =
      en ∙ ap (number_in t.rules.now) rule-is in
      let seconds-is : seconds ≡ transfer_of t.rules.now t.parents.now t.places.now a.stop c.stop t.change =
      es ∙ (λ k. change_of (rule-is k) (near_in t (ee k)) t.change) in
      e ∙ (λ k. first_of (pair_tests i (rule-is k) (number_is k) (seconds-is k) b a c))
      ∙ (λ k. first_of (tests (eb k) (el k) (ec k)))
      ∙ sym (ap (λ (x : Bool). first_of (asking x (tests (boards from) (alights from) (boards to)))) ea)
