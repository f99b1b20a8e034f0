-- A rule that is taken can be handed in again, and so can those before it.
use Rattle.refusal.specs.declared.Accepted.TheVariants.{Taken}
use Rattle.std.specs.Prelude.{Ok}
use Prim.Native.Nat.{ℕ, ◌+◌, ◌<◌}
use mathlib.Core.Path.{◌≡◌, refl, sym, subst}
use mathlib.Core.Bool.{Bool}
use mathlib.Core.List.{List}
use native.Mathlib.Omega.{arith}
use lib.ListN.{length, get_or, set}
use lib.Seq.{get_or-set_same, get_or-set_other}
use borrow.Author.Tests.{leb-false, not-false}
use Rattle.laws.proofs.Slots.{below-cases}
use Rattle.refusal.specs.First.{AllFail, first_answer}
use Rattle.refusal.proofs.FirstLaws.{first_taken, answer-is-first}
use Rattle.rules.specs.declared.Rule.{Rule}
use Rattle.rules.specs.Rules.{blank_rule, rule_tests}
use Rattle.rules.specs.Sound.{rule_at}
use Rattle.written.specs.Kept.{RuleKept}

module _ (searched : Bool) (stops : ℕ) (rules : List Rule) (n : ℕ) (i : Rule)
    (taken : first_answer (rule_tests searched stops rules n i) ≡ Ok Taken) where
  rule-tests : AllFail (rule_tests searched stops rules n i)
  unfolding rule_tests
  rule-tests = first_taken _ (rule_tests searched stops rules n i) refl (answer-is-first (rule_tests searched stops rules n i)) taken

  new-rule : RuleKept i
  unfolding rule_tests
  new-rule = record { type_right = not-false _ rule-tests.1.1.0 }

  pub rule-room : n < 128
  unfolding rule_tests
  rule-room = leb-false 128 n rule-tests.1.1.1.1.0

  pub rules-kept : n < length rules → ((k : ℕ) → k < n → RuleKept (rule_at rules k)) → (k : ℕ) → k < n + 1
      → RuleKept (rule_at (set rules n i) k)
  unfolding rule_at
  rules-kept h old k g =
      below-cases (λ m. RuleKept (get_or (set rules n i) m blank_rule)) n k g
      (λ less. subst RuleKept (sym (get_or-set_other rules n k i blank_rule (λ e. omega arith))) (old k less))
      (subst RuleKept (sym (get_or-set_same rules n i blank_rule h)) new-rule)
