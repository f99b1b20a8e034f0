-- The best of the rules read so far.
use lib.ListN.{take}
use Rattle.transfer_row.proofs.Reading.{Slots}
use Rattle.transfer_row.proofs.read_rules.Given as goal

abbrev pub invariant-loop-rule : goal.invariant-loop-rule
invariant-loop-rule l = Slots l.from l.parent (take l.rule-index l.rules) l.best
