-- Late, or what the list says.
use mathlib.Core.Path.{◌∙◌}
use native.Mathlib.Omega.{arith}
use Rattle.best.specs.Best.{kept_of}
use Rattle.verdict.proofs.VerdictLaws.{due-is, said-late, said-listed}
use Rattle.verdict.proofs.by_list.Goals as goal

pub returns-then-from-due : goal.returns-then-from-due
returns-then-from-due c =
    let l = c.args.load.now in
    said-late l.settings c.args.connection.now c.args.way.now (kept_of l) l.horizon c.arrival_of-due.result
    (due-is l.settings c.args.connection.now c.args.way.now _ _ _ _ (c.from.ensures ∙ c.walk_at-egress.ensures) c.last_leg.ensures
    c.alights-alighting.ensures
    c.arrival_of-due.ensures) (omega (arith, c.from-2.ensures, c.if-from-due.true))

pub returns : goal.returns
returns c =
    let l = c.args.load.now in
    let n = c.args.connection.now in
    let w = c.args.way.now in
    said-listed l.settings n w (kept_of l) l.horizon c.arrival_of-due.result
    (due-is l.settings n w _ _ _ _ (c.from.ensures ∙ c.walk_at-egress.ensures) c.last_leg.ensures
    c.alights-alighting.ensures c.arrival_of-due.ensures)
    _ _ _ _ _ _ _ _ _ (omega (arith, c.from-2.ensures, c.if-from-due.false)) c.first.ensures c.walk_at-walk.ensures c.from-3.ensures
    c.boards-departure.ensures c.leave_of.ensures c.ride_of.ensures c.middle_ride.ensures c.last_ride.ensures c.listed.ensures
