-- Row after row.
use Rattle.transfer.specs.Lent.{entry_in}
use Rattle.transfer_array.proofs.ChangeLaws.{RowsTo}
use Rattle.transfer_array.proofs.marked_rows.Given as goal

abbrev pub invariant-loop-from : goal.invariant-loop-from
invariant-loop-from l = RowsTo 128 l.reach (entry_in l.transfers) l.marks l.from l.changes
