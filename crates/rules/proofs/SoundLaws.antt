-- No rules are sound, and a rule that is taken keeps rules sound: its stops are known, and no rule before it is for its pair.
use Rattle.refusal.specs.declared.Accepted.TheVariants.{Taken}
use Rattle.std.specs.Prelude.{None, Option, Some, Ok}
use Prim.Native.Nat.{ℕ, ◌≤◌, ◌<◌}
use mathlib.Core.Path.{◌≡◌, refl, sym, subst, ◌∙◌}
use mathlib.Core.List.{List}
use mathlib.Core.Bool.{Bool, true, false, not, ◌&&◌}
use native.Mathlib.Omega.{arith}
use borrow.Author.Tests.{leb-true, leb-false, ltb-true}
use lib.Dec.{ltb, leb, eqb}
use lib.ListN.{length, take, set, length-set}
use lib.Seq.{get_or-set_same, get_or-set_other}
use Rattle.laws.specs.Lists.{anyb}
use Rattle.laws.proofs.Bools.{and-true-left, and-true-right}
use Rattle.laws.proofs.Slots.{blank-set, below-cases, anyb-below}
use Rattle.refusal.specs.First.{first_answer}
use Rattle.refusal.proofs.FirstLaws.{taken-all-fail, never-taken}
use Rattle.rules.specs.declared.Rule.{Rule}
use Rattle.rules.specs.Rules.{blank_rule, same_pair, type_right_of, rule_tests}
use Rattle.rules.specs.Sound.{rule_at, NoRulesSound, RuleKeepsSound, MoreStopsSound}

pub no-rules-sound : NoRulesSound
no-rules-sound stops = record {
  few = omega arith;
  long = refl;
  blank = refl;
  from_known = λ k h. absurd (omega arith);
  to_known = λ k h. absurd (omega arith);
  types = λ k h. absurd (omega arith);
  alone = λ j k h i. absurd (omega arith);
}

pub more-stops-sound : MoreStopsSound
more-stops-sound stops more rules count le s = record {
  few = s.few;
  long = s.long;
  blank = s.blank;
  from_known = λ k h. omega (arith, s.from_known k h);
  to_known = λ k h. omega (arith, s.to_known k h);
  types = s.types;
  alone = s.alone;
}

-- what a taken rule has passed
pub record Passed (b : Bool) (stops : ℕ) (rules : List Rule) (count : ℕ) (i : Rule) : Type 0 where
  pub unsearched : b ≡ false
  pub from_known : i.from < stops
  pub to_known : i.to < stops
  pub type-fits : i.transfer_type ≤ 3
  pub new : anyb (same_pair i.from i.to) (take count rules) ≡ false
  pub room : count < 128

not-false : (b : Bool) → not b ≡ false → b ≡ true
not-false true e = refl
not-false false e = sym e

type-small : (k : ℕ) (m : Option ℕ) → type_right_of k m ≡ true → k ≤ 3
type-small k (Some n) e = leb-true k 3 e
type-small k None e = leb-true k 3 (and-true-right (not (eqb k 2)) (leb k 3) e)

pub passed : (b : Bool) (stops : ℕ) (rules : List Rule) (count : ℕ) (i : Rule) → first_answer (rule_tests b stops rules count i) ≡ Ok Taken
    → Passed b stops rules count i
unfolding rule_tests
passed b stops rules count i e =
    let f = taken-all-fail (rule_tests b stops rules count i) (never-taken (rule_tests b stops rules count i) refl) e in
    let known : (ltb i.from stops && ltb i.to stops) ≡ true = not-false _ f.1.0 in
    record {
      unsearched = f.0;
      from_known = ltb-true i.from stops (and-true-left _ _ known);
      to_known = ltb-true i.to stops (and-true-right (ltb i.from stops) _ known);
      type-fits = type-small i.transfer_type i.seconds (not-false _ f.1.1.0);
      new = f.1.1.1.0;
      room = leb-false 128 count f.1.1.1.1.0;
    }

module _ (rules : List Rule) (count : ℕ) (i : Rule) (long : length rules ≡ 128) (room : count < 128) where
  at_new : rule_at (set rules count i) count ≡ i
  unfolding rule_at
  at_new = get_or-set_same rules count i blank_rule (omega arith)

  at_old : (k : ℕ) → k < count → rule_at (set rules count i) k ≡ rule_at rules k
  unfolding rule_at
  at_old k h = get_or-set_other rules count k i blank_rule (λ e. omega arith)

pub rule-keeps-sound : RuleKeepsSound
unfolding rule_at
rule-keeps-sound b stops rules count i s e =
    let p = passed b stops rules count i e in
    let new = at_new rules count i s.long p.room in
    let old = at_old rules count i s.long p.room in
    record {
      few = omega (arith, p.room);
      long = length-set rules count i ∙ s.long;
      blank = blank-set blank_rule 128 rules count i s.long p.room s.blank;
      from_known =
          λ k h. below-cases (λ m. (rule_at (set rules count i) m).from < stops) count k h
          (λ l. subst (λ (r : Rule). r.from < stops) (sym (old k l)) (s.from_known k l))
          (subst (λ (r : Rule). r.from < stops) (sym new) p.from_known);
      to_known =
          λ k h. below-cases (λ m. (rule_at (set rules count i) m).to < stops) count k h
          (λ l. subst (λ (r : Rule). r.to < stops) (sym (old k l)) (s.to_known k l))
          (subst (λ (r : Rule). r.to < stops) (sym new) p.to_known);
      types =
          λ k h. below-cases (λ m. (rule_at (set rules count i) m).transfer_type ≤ 3) count k h
          (λ l. subst (λ (r : Rule). r.transfer_type ≤ 3) (sym (old k l)) (s.types k l))
          (subst (λ (r : Rule). r.transfer_type ≤ 3) (sym new) p.type-fits);
      alone =
          λ j k l h. below-cases
          (λ m. j < m → same_pair (rule_at (set rules count i) m).from (rule_at (set rules count i) m).to (rule_at (set rules count i) j)
          ≡ false) count k h
          (λ q l'. rw (old k q, old j (omega arith)) (s.alone j k l' q))
          (λ l'. rw (new, old j l') (anyb-below (same_pair i.from i.to) rules count j blank_rule l' (omega (arith, s.long, p.room)) p.new))
          l;
    }
