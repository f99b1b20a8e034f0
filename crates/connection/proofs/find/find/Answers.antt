-- The place of the last call with the key, and the call there.
use mathlib.Core.Path.{◌∙◌}
use Rattle.std.proofs.Common.{rules}
use Rattle.connection.proofs.FindLaws.{find_none, find-within, find-some}
use Rattle.connection.proofs.find.find.Goals as goal

pub returns-in_err-at : goal.returns-in_err-at
returns-in_err-at c = c.from_residual.ensures ∙ find_none c.args.calls.now c.args.key c.last_of.result c.last_of.ensures c.in_err-at.was

pub offset_bounds-calls-at : goal.offset_bounds-calls-at
offset_bounds-calls-at c =
    let h = find-within c.args.calls.now c.args.key c.last_of.result c.last_of.ensures c.in_ok-at.at c.in_ok-at.was in search rules

pub bounds-calls-at : goal.bounds-calls-at
bounds-calls-at c = find-within c.args.calls.now c.args.key c.last_of.result c.last_of.ensures c.in_ok-at.at c.in_ok-at.was

pub returns : goal.returns
returns c = find-some c.args.calls.now c.args.key c.last_of.result c.last_of.ensures c.in_ok-at.at c.in_ok-at.was
