-- `direct_pass` meets its contract: a loop over the first rides.
use Rattle.std.proofs.Common.{ap, ◌∙◌}
use Rattle.rides.specs.Firsts.{firsts_left}
use Rattle.rides.specs.Loops.{change_rows, first_rows_of, pass_rows}
use Rattle.rides.proofs.LoopLaws.{rest-stops}
use Rattle.rides.proofs.RestLaws.{nothing, both, rest-same, rest-turn, rest-none}
use Rattle.rides.proofs.paths.direct_pass.Goals as goal

pub loop-l-init : goal.loop-l-init
loop-l-init c = (
  tt,
  tt,
  rest-same (ap firsts_left c.into_iter-l-iterator.ensures.into_iter_gives ∙ c.of-l-items.ensures _),
  c.passed_none-passed.ensures _ _,
)

pub returns-then-is_refused : goal.returns-then-is_refused
unfolding pass_rows
returns-then-is_refused c = rest-stops c.is_refused.ensures c.if-is_refused.true c.loop-l.invariant.2

pub directs_before-from-requires : goal.directs_before-from-requires
directs_before-from-requires c = c.passed_for-now.ensures 1 c.loop-l.invariant.3

pub loop-l-preserved : goal.loop-l-preserved
unfolding first_rows_of change_rows
loop-l-preserved c =
    let w = c.directs_before-from.ensures in
    (tt, tt, rest-turn c.in-Some.ensures.steps c.loop-l.invariant.2 (rw (← c.first_ride-f.ensures) (both w.offered nothing)), w.over)

pub returns : goal.returns
unfolding pass_rows
returns c = rest-none c.in-None.ensures.steps.0 c.loop-l.invariant.2
