-- `alight_before` meets its contract: the targets of the stop, if the call is alightable.
use Rattle.rides.specs.Loops.{last_alight_rows}
use Rattle.rides.specs.Sheets.{sheet_of}
use Rattle.rides.proofs.LoopLaws.{unalighted}
use Rattle.rides.proofs.change.alight_before.Goals as goal

pub returns-then-a : goal.returns-then-a
unfolding last_alight_rows sheet_of
returns-then-a c = rw (← c.at-a.ensures, c.if-a.true, ← c.targets.ensures) c.targets_before.ensures

pub returns : goal.returns
unfolding last_alight_rows sheet_of
returns c = record { offered = unalighted _ _ _ c.at-a.ensures c.if-a.false; over = c.requires }
