-- Each rule of a written load is taken again, in its place.
use Rattle.refusal.specs.declared.Accepted.TheVariants.{Taken}
use Rattle.std.specs.Prelude.{Ok}
use mathlib.Core.Path.{◌≡◌, refl, ap, ◌∙◌}
use mathlib.Core.Bool.{Bool, true, false}
use mathlib.Core.List.{List}
use Prim.Native.Nat.{ℕ, suc, ◌+◌, ◌<◌}
use native.Mathlib.Omega.{arith}
use native.Mathlib.Numerals.{add-one}
use lib.Dec.{ltb, leb}
use lib.ListN.{take, set}
use borrow.Author.Tests.{lt-ltb, lt-leb}
use Rattle.laws.specs.Lists.{anyb}
use Rattle.refusal.specs.First.{first_answer}
use Rattle.settings.specs.declared.Settings.{Settings}
use Rattle.stops.specs.declared.Stop.{Stop}
use Rattle.calls.specs.declared.Call.{Call}
use Rattle.rules.specs.declared.Rule.{Rule}
use Rattle.rules.specs.Rules.{blank_rule, same_pair, type_right_of, rule_tests}
use Rattle.rules.specs.Sound.{rule_at, RulesSound}
use Rattle.load.specs.declared.Load.{Load}
use Rattle.load.specs.Load.{with_rules}
use Rattle.load.specs.Steps.{rule_spec}
use Rattle.load.specs.FillStep.{rule}
use Rattle.steps.specs.Steps.{filling, stepped}
use Rattle.file.specs.Record.{kind_right, filled, step_in}
use Rattle.codec.specs.Kinds.{rule_body}
use Rattle.codec.proofs.BackLaws.{back}
use Rattle.written.specs.Kept.{RuleKept}
use Rattle.saved.specs.Saved.{Takes, rule_record}
use Rattle.saved.proofs.FeedLaws.{takes}
use Rattle.saved.proofs.SlotLaws.{up_to, up_more, up-taken, none_below, load_of}

-- ---- a rule that no test sends back

no_test : (searched : Bool) (n : ℕ) (rs : List Rule) (k : ℕ) (i : Rule) → searched ≡ false → ltb i.from n ≡ true → ltb i.to n ≡ true
    → type_right_of i.transfer_type i.seconds ≡ true → anyb (same_pair i.from i.to) (take k rs) ≡ false → leb 128 k ≡ false
    → first_answer (rule_tests searched n rs k i) ≡ Ok Taken
unfolding rule_tests first_answer
no_test searched n rs k i a b c d e f = rw (a, b, c, d, e, f) refl

rule-taken : (l : Load) (i : Rule) → first_answer (rule_tests l.searched l.stop_count l.rules l.rule_count i) ≡ Ok Taken
    → rule_spec l i ≡ record { answer = Ok Taken; load = with_rules l (set l.rules l.rule_count i) (l.rule_count + 1) }
unfolding rule_spec
rule-taken l i t = rw t refl

-- ---- what a record hands in

step_is : (r : Rule) → step_in (rule_record r) ≡ filling (rule r)
unfolding step_in rule_record rule_body
step_is r = ap (λ (i : Rule). filling (rule i)) (back.rule r).1

filled_is : (r : Rule) → filled false (rule_record r) ≡ true
unfolding filled rule_record rule_body
filled_is r = (back.rule r).0

-- ---- the rule of number k

module _ (n : ℕ) (rules : List Rule) (count k : ℕ) (sound : RulesSound n rules count) (below : k < count)
    (told : RuleKept (rule_at rules k)) where
  room : k < 128
  room = omega (arith, sound.few)

  -- no rule before it has its pair
  new-pair : anyb (same_pair (rule_at rules k).from (rule_at rules k).to) (take k (up_to blank_rule 128 rules k)) ≡ false
  unfolding rule_at
  new-pair =
      rw (up-taken blank_rule 128 rules sound.long k (omega (arith, room)))
      (none_below (same_pair (rule_at rules k).from (rule_at rules k).to) rules blank_rule k (omega (arith, room, sound.long))
      (λ j h. sound.alone j k h below))

  module _ (s : Settings) (stops : List Stop) (calls : List Call) (callCount : ℕ) where
    abbrev at : ℕ → Load
    at m = load_of s stops n (up_to blank_rule 128 rules m) m calls callCount

    stepped-is : rule_spec (at k) (rule_at rules k) ≡ record { answer = Ok Taken; load = at (suc k) }
    unfolding rule_at
    stepped-is =
        let r : Rule = rule_at rules k in
        let e = up_more blank_rule 128 rules sound.long k blank_rule room in
        rule-taken (at k) r
        (no_test false n (up_to blank_rule 128 rules k) k r refl (lt-ltb _ n (sound.from_known k below))
        (lt-ltb _ n (sound.to_known k below)) told.type_right new-pair (lt-leb 128 k room))
        ∙ (λ t. record {
          answer = Ok Taken;
          load = load_of s stops n (set (up_to blank_rule 128 rules k) k r)
              (add-one k t) calls callCount;
        })
        ∙ (λ t. record { answer = Ok Taken; load = load_of s stops n (e t) (suc k) calls callCount })

    pub rule-takes : Takes (at k) (rule_record (rule_at rules k)) (at (suc k))
    unfolding rule_record rule_body kind_right
    rule-takes = takes (at k) (at (suc k)) 4 _ refl (filled_is (rule_at rules k))
        (ap (stepped (at k)) (step_is (rule_at rules k)) ∙ stepped-is) refl
