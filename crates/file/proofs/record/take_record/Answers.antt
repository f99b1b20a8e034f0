-- The record's tests, then the load's answer.
use mathlib.Core.Path.{refl, sym, ap, ◌∙◌}
use Rattle.load.specs.declared.StepResult.{StepResult}
use Rattle.load.specs.Steps.{unless_refused}
use Rattle.file.proofs.RecordLaws.{turned-away, sent_back, taken}
use Rattle.file.proofs.KindLaws.{stepped-as, stepped-closed}
use Rattle.file.proofs.TestedLaws.{refusal-is, kind-is}
use Rattle.file.proofs.record.take_record.Goals as goal

pub returns-in-Err : goal.returns-in-Err
returns-in-Err c = turned-away _ _ (refusal-is _ _ _ (sym c.tested.ensures ∙ c.in-Err.is)) refl refl

pub returns-then-is_refused : goal.returns-then-is_refused
returns-then-is_refused c =
    let r = c.args.reader.now in
    let p = kind-is _ _ _ (sym c.tested.ensures ∙ c.in-Ok.is) in
    let s = c.take-answer.ensures ∙ ap (unless_refused r.load) (stepped-closed _ r _ ∙ stepped-as _ r _ p.number p.right) in
    sent_back _ _ refl refl s c.is_refused.ensures p.goes c.if-is_refused.true

pub returns : goal.returns
returns c =
    let r = c.args.reader.now in
    let p = kind-is _ _ _ (sym c.tested.ensures ∙ c.in-Ok.is) in
    let s = c.take-answer.ensures ∙ ap (unless_refused r.load) (stepped-closed _ r _ ∙ stepped-as _ r _ p.number p.right) in
    taken _ _ refl refl s c.is_refused.ensures p.goes c.if-is_refused.false
