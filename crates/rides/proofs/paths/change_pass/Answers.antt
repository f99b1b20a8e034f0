-- `change_pass` meets its contract: a loop over the first rides.
use Rattle.rides.specs.Firsts.{firsts_left}
use Rattle.rides.specs.Loops.{first_rows_of, pass_rows}
use Rattle.rides.proofs.LoopLaws.{rest-stops}
use Rattle.rides.proofs.OnwardLaws.{first-is-ride}
use Rattle.std.proofs.Common.{ap, ◌∙◌}
use Rattle.rides.proofs.RestLaws.{rest-has, rest-same, rest-turn, rest-none}
use Rattle.rides.proofs.paths.change_pass.Goals as goal

pub loop-l-init : goal.loop-l-init
loop-l-init c = (
  tt,
  tt,
  rest-same (ap firsts_left c.into_iter-l-iterator.ensures.into_iter_gives ∙ c.of-l-items.ensures _),
  c.known_none-known.ensures,
)

pub returns-then-is_refused : goal.returns-then-is_refused
unfolding pass_rows
returns-then-is_refused c = rest-stops c.is_refused.ensures c.if-is_refused.true c.loop-l.invariant.2

pub next_first-requires : goal.next_first-requires
next_first-requires c =
    let i = c.loop-l.invariant in
    (first-is-ride _ _ _ _ (rest-has c.in-Some.ensures.steps i.2), i.3)

pub loop-l-preserved : goal.loop-l-preserved
unfolding first_rows_of
loop-l-preserved c =
    let w = c.next_first.ensures in
    (tt, tt, rest-turn c.in-Some.ensures.steps c.loop-l.invariant.2 w.rows, w.known)

pub returns : goal.returns
unfolding pass_rows
returns c = rest-none c.in-None.ensures.steps.0 c.loop-l.invariant.2
