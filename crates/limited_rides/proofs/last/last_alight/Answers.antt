-- `last_alight` meets its contract: a join, and then its offers if the search is not over and the first ride joins it.
use Rattle.rides.specs.Loops.{last_alight_rows}
use Rattle.rides.specs.Sheets.{sheet_of}
use Rattle.rides.proofs.LoopLaws.{unalighted}
use Rattle.rides.proofs.RestLaws.{nothing}
use Rattle.limited_rides.specs.RowEvents.{ride_events}
use Rattle.limited_rides.proofs.RunLaws.{join-then, over-met, offered-met}
use Rattle.limited_rides.proofs.last.last_alight.Goals as goal

pub returns-then-is_over : goal.returns-then-is_over
unfolding ride_events sheet_of
returns-then-is_over c = rw (← c.at-a.ensures, c.if-a.true) (join-then c.spend.ensures (over-met c.is_over.ensures c.if-is_over.true))

pub returns-then-joins : goal.returns-then-joins
unfolding ride_events last_alight_rows sheet_of
returns-then-joins c =
    rw (← c.at-a.ensures, c.if-a.true, ← c.joins.ensures, c.if-joins.true, ← c.targets.ensures)
    (join-then c.spend.ensures (offered-met c.is_over.ensures c.if-is_over.false c.last_targets.ensures))

pub returns-else-joins : goal.returns-else-joins
unfolding ride_events sheet_of
returns-else-joins c = rw (← c.at-a.ensures, c.if-a.true, ← c.joins.ensures, c.if-joins.false) (join-then c.spend.ensures nothing)

pub returns-else-a : goal.returns-else-a
unfolding ride_events sheet_of
returns-else-a c = unalighted _ _ _ c.at-a.ensures c.if-a.false
