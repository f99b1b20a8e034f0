-- Each turn ends in an answer, or cuts the table and tries the same call anew.
use mathlib.Core.Path.{◌≡◌}
use Rattle.calls.specs.Tables.{fitted}
use Rattle.table.proofs.cuts.fit.Given as goal

abbrev pub invariant-loop-call : goal.invariant-loop-call
invariant-loop-call l =
    let i = l.timed in
    fitted l.t i.arrival i.departure i.input ≡ fitted l.initial.t i.arrival i.departure i.input

abbrev pub decreases-loop-call : goal.decreases-loop-call
decreases-loop-call l = l.t.horizon
