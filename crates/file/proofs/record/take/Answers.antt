-- By the kind: the load's own step.
use mathlib.Core.Path.{◌≡◌, sym, ap, ◌∙◌}
use mathlib.Core.Bool.{Bool}
use mathlib.Core.List.{List, []}
use Prim.Native.Nat.{ℕ}
use Rattle.fields.specs.declared.kind.Kind.{Kind}
use Rattle.load.specs.declared.Load.{Load}
use Rattle.load.specs.declared.StepResult.{StepResult}
use Rattle.load.specs.FillStep.{stop, call, rule}
use Rattle.load.specs.Steps.{undated, open_spec_of, stop_spec, rule_spec, unless_refused}
use Rattle.again.specs.Again.{add_spec_of}
use Rattle.steps.specs.Steps.{filling, search}
use Rattle.file.specs.Kinds.{closed_reader, stepped_as}
use Rattle.file.proofs.RecordLaws.{stays}
use Rattle.file.proofs.record.take.Goals as goal

-- what the step of the one kind is, that of the other is
of-kind : (second : Bool) (l : Load) (b : List ℕ) {k n : Kind} {s : StepResult} → k ≡ n
    → s ≡ unless_refused l (stepped_as n (closed_reader second l) b) → s ≡ unless_refused l (stepped_as k (closed_reader second l) b)
of-kind second l b e s-is = s-is ∙ ap (λ (k : Kind). unless_refused l (stepped_as k (closed_reader second l) b)) (sym e)

pub returns-in-Settings : goal.returns-in-Settings
returns-in-Settings c =
    let l = c.args.load.now in
    of-kind c.args.second l c.args.b.now c.in-Settings.is
    (c.reopen.ensures ∙ (λ k. unless_refused l (open_spec_of (undated (c.settings_by.ensures k)))))

pub returns-in-Stop : goal.returns-in-Stop
returns-in-Stop c =
    let l = c.args.load.now in
    let s = c.new_stop.ensures in
    of-kind c.args.second l c.args.b.now c.in-Stop.is
    (c.take_stop.ensures ∙ (λ k. stop_spec l (s.id k) (s.name k) (s.parent k) (s.input k)) ∙ stays l (filling (stop _ _ _ _)))

pub returns-in-Call : goal.returns-in-Call
returns-in-Call c =
    let l = c.args.load.now in
    of-kind c.args.second l c.args.b.now c.in-Call.is
    (c.take_added.ensures ∙ ap (add_spec_of l []) c.call_in.ensures ∙ stays l (filling (call [] _)))

pub returns-in-Rule : goal.returns-in-Rule
returns-in-Rule c =
    let l = c.args.load.now in
    of-kind c.args.second l c.args.b.now c.in-Rule.is
    (c.take_rule.ensures ∙ ap (rule_spec l) c.rule_in.ensures ∙ stays l (filling (rule _)))

pub returns-in-Search : goal.returns-in-Search
returns-in-Search c =
    let l = c.args.load.now in
    of-kind c.args.second l c.args.b.now c.in-Search.is (c.take_search.ensures ∙ stays l search)
