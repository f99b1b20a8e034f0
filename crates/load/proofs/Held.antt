-- What a stop and a rule are answered by the stops and the rules of a load, which are the first of their arrays; the load that they leave.
use Rattle.std.specs.Prelude.{Option}
use Prim.Native.Nat.{ℕ, ◌+◌, ◌<◌}
use mathlib.Core.Path.{◌≡◌, refl, sym, ap, ◌∙◌}
use mathlib.Core.Bool.{Bool, true, false}
use mathlib.Core.List.{List}
use lib.ListN.{length, take, set}
use Rattle.refusal.specs.First.{first_answer, is_taken, Answer}
use Rattle.stops.specs.declared.Stop.{Stop}
use Rattle.stops.specs.declared.StopInput.{StopInput}
use Rattle.stops.specs.Taken.{stop_of}
use Rattle.stops.specs.Answer.{station_of, stop_tests}
use Rattle.stops.proofs.Held as stops
use Rattle.rules.specs.declared.Rule.{Rule}
use Rattle.rules.specs.Rules.{rule_tests}
use Rattle.rules.proofs.Held as rules
use Rattle.load.specs.declared.Load.{Load}
use Rattle.load.specs.Load.{with_stops, with_rules}
use Rattle.load.specs.Steps.{stepped, station_in, stop_answer, stop_spec, rule_answer, rule_spec}
use Rattle.load.proofs.StepLaws.{stop-room, stop-taken, stop-refused, rule-room, rule-taken, rule-refused}

module _ (l : Load) {xs : List Stop} (id : List ℕ) (name parent : Option (List ℕ)) (i : StopInput) {f : Option ℕ} {a : Answer} {t : Bool}
    (long : length l.stops ≡ 128) (xs-is : xs ≡ take l.stop_count l.stops) (f-is : f ≡ station_of xs 128 parent)
    (a-is : a ≡ first_answer (stop_tests l.searched xs (length xs) f id name parent i)) (t-is : t ≡ is_taken a) where
  held : f ≡ station_in l parent
  held = f-is ∙ ap (λ (ys : List Stop). station_of ys 128 parent) xs-is ∙ stops.station-taken l.stop_count l.stops long parent

  answered : a ≡ stop_answer l id name parent i
  answered =
      a-is ∙ ap (λ (ys : List Stop). first_answer (stop_tests l.searched ys (length ys) f id name parent i)) xs-is
      ∙ ap first_answer (stops.tests-taken l.stop_count l.stops long l.searched f id name parent i)
      ∙ ap (λ (g : Option ℕ). first_answer (stop_tests l.searched l.stops l.stop_count g id name parent i)) held

  pub stop-fits : t ≡ true → l.stop_count < 128
  stop-fits e = stop-room l id name parent i a answered (sym t-is ∙ e)

  pub stop-stored : {s : Stop} → s ≡ stop_of id name f i → t ≡ true
      → stepped a (with_stops l (set l.stops l.stop_count s) (l.stop_count + 1)) ≡ stop_spec l id name parent i
  stop-stored {s} s-is e =
      stop-taken l id name parent i a answered s (sym t-is ∙ e) (s-is ∙ ap (λ (g : Option ℕ). stop_of id name g i) held)

  pub stop-left : t ≡ false → stepped a l ≡ stop_spec l id name parent i
  stop-left e = stop-refused l id name parent i a answered (sym t-is ∙ e)

module _ (l : Load) {xs : List Rule} (i : Rule) {a : Answer} {t : Bool} (long : length l.rules ≡ 128)
    (xs-is : xs ≡ take l.rule_count l.rules) (a-is : a ≡ first_answer (rule_tests l.searched l.stop_count xs (length xs) i))
    (t-is : t ≡ is_taken a) where
  answered_rule : a ≡ rule_answer l i
  answered_rule =
      a-is ∙ ap (λ (ys : List Rule). first_answer (rule_tests l.searched l.stop_count ys (length ys) i)) xs-is
      ∙ ap first_answer (rules.tests-taken l.rule_count l.rules long l.searched l.stop_count i)

  pub rule-fits : t ≡ true → l.rule_count < 128
  rule-fits e = rule-room l i a answered_rule (sym t-is ∙ e)

  pub rule-stored : t ≡ true → stepped a (with_rules l (set l.rules l.rule_count i) (l.rule_count + 1)) ≡ rule_spec l i
  rule-stored e = rule-taken l i a answered_rule i (sym t-is ∙ e) refl

  pub rule-left : t ≡ false → stepped a l ≡ rule_spec l i
  rule-left e = rule-refused l i a answered_rule (sym t-is ∙ e)
