-- Each place is filled with its entry.
use Rattle.laws.specs.Regions.{Region}
use Rattle.transfer.specs.Lent.{entry_in}
use Rattle.transfer_row.proofs.by_both.Given as goal

abbrev pub invariant-loop-k : goal.invariant-loop-k
invariant-loop-k l = Region (entry_in l.transfers l.from) 0 l.k l.initial.row l.row
