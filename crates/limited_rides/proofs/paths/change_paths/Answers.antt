-- `change_paths` meets its contract: a loop over the first rides, which ends where the search stops.
use Rattle.std.proofs.Common.{refl, ap, ◌∙◌}
use Rattle.rides.specs.Firsts.{firsts_left}
use Rattle.rides.proofs.OnwardLaws.{first-is-ride}
use Rattle.rides.proofs.RestLaws.{both, rest-has, rest-same, rest-turn, rest-none}
use Rattle.limited_rides.specs.RowEvents.{first_events, row_events}
use Rattle.limited_rides.proofs.CountLaws.{change-counted, first-counted, first-offers}
use Rattle.limited_rides.proofs.RunLaws.{offered-met, offered-fits, stopped}
use Rattle.limited_rides.proofs.TurnLaws.{rest-stops}
use Rattle.limited_rides.proofs.paths.change_paths.Goals as goal

pub loop-l-init : goal.loop-l-init
loop-l-init c = (
  tt,
  tt,
  rest-same (ap firsts_left c.into_iter-l-iterator.ensures.into_iter_gives ∙ c.of-l-items.ensures _),
  c.known_none-known.ensures,
)

pub returns-then-is_over : goal.returns-then-is_over
unfolding row_events
returns-then-is_over c = rest-stops c.is_over.ensures c.if-is_over.true c.loop-l.invariant.2

pub next_first-requires : goal.next_first-requires
next_first-requires c =
    let i = c.loop-l.invariant in
    (first-is-ride _ _ _ _ (rest-has c.in-Some.ensures.steps i.2), i.3)

pub loop-l-preserved : goal.loop-l-preserved
loop-l-preserved c =
    let w = c.next_first.ensures in (
      tt,
      tt,
      rest-turn c.in-Some.ensures.steps c.loop-l.invariant.2
          (offered-fits _ c.has_left.ensures c.if-has_left.true (first-counted _ _ _ _ c.args.joins.now.counted)
          (rw (first-offers _ _ _ _ _) w.rows) c.spend.ensures),
      w.known,
    )

pub returns-else-has_left : goal.returns-else-has_left
unfolding row_events first_events
returns-else-has_left c =
    let made = offered-met c.is_over.ensures c.if-is_over.false c.directs.ensures in
    rest-stops refl
    (stopped _ c.has_left.ensures c.if-has_left.false (change-counted _ _ _ _ c.args.joins.now.counted) c.change_rides.ensures)
    (rest-turn c.in-Some.ensures.steps c.loop-l.invariant.2 (rw (← c.first_ride-f.ensures) (both made c.change_rides.ensures)))

pub returns : goal.returns
unfolding row_events
returns c = rest-none c.in-None.ensures.steps.0 c.loop-l.invariant.2
