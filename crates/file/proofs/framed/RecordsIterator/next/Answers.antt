-- By whether the next record is there whole.
use Rattle.std.proofs.Common.{rules}
use Rattle.file.proofs.FramedLaws.{none-left, one-left, room-left}
use Rattle.file.proofs.framed.RecordsIterator.next.Goals as goal

pub returns-in_err-b-clause-steps : goal.returns-in_err-b-clause-steps
returns-in_err-b-clause-steps c = rw c.from_residual.ensures (none-left _ c.in_err-b.ensures, none-left _ c.in_err-b.ensures)

pub slice_bounds-self-count : goal.slice_bounds-self-count
slice_bounds-self-count c = room-left _ c.in_ok-b.ensures

pub slice_bounds-self-start : goal.slice_bounds-self-start
slice_bounds-self-start c = room-left _ c.in_ok-b.ensures

pub returns-clause-steps : goal.returns-clause-steps
returns-clause-steps c = one-left _ c.in_ok-b.ensures

pub returns-clause-goes : goal.returns-clause-goes
returns-clause-goes c = search (rules, room-left _ c.in_ok-b.ensures)
