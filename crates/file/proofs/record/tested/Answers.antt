-- Test after test.
use mathlib.Core.Path.{◌∙◌}
use Rattle.std.proofs.lemmas.Result.{err_from_is_err_and}
use Rattle.file.proofs.TestedLaws.{empty, no-kind, wrong-kind, unfilled, passed}
use Rattle.file.proofs.record.tested.Goals as goal

pub returns-then-b-eq0 : goal.returns-then-b-eq0
returns-then-b-eq0 c = empty _ _ _ c.if-b-eq0.true

pub returns-in_err-kind : goal.returns-in_err-kind
returns-in_err-kind c =
    let p = err_from_is_err_and c.from_residual.result c.from_residual.ensures.1 in
    rw (p.1, p.2) (no-kind _ _ _ c.kind_of.ensures c.try_from.ensures c.if-b-eq0.false c.in_err-kind.was)

pub returns-then-not-kind_right : goal.returns-then-not-kind_right
returns-then-not-kind_right c =
    wrong-kind _ _ _ c.kind_of.ensures c.try_from.ensures c.if-b-eq0.false c.in_ok-kind.was c.kind_right.ensures c.if-not-kind_right.true

pub returns-then-not-is_filled : goal.returns-then-not-is_filled
returns-then-not-is_filled c =
    unfilled _ _ _ c.kind_of.ensures c.try_from.ensures c.if-b-eq0.false c.in_ok-kind.was c.kind_right.ensures
    c.if-not-kind_right.false c.is_filled.ensures c.if-not-is_filled.true

pub returns : goal.returns
returns c =
    passed _ _ _ c.kind_of.ensures c.try_from.ensures c.if-b-eq0.false c.in_ok-kind.was c.kind_right.ensures
    c.if-not-kind_right.false c.is_filled.ensures c.if-not-is_filled.false
