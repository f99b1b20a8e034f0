-- Two numbers and a part are put.
use Rattle.timetable.proofs.RoomLaws.{second-in, part-in, filled}
use Rattle.timetable.proofs.append.fill.Goals as goal

pub bounds-buffer-n-2 : goal.bounds-buffer-n-2
bounds-buffer-n-2 c = second-in c.args.buffer.now c.args.n _ _ c.requires.room

pub slice_bounds-copy_from_slice-end : goal.slice_bounds-copy_from_slice-end
slice_bounds-copy_from_slice-end c = part-in c.args.buffer.now c.args.n _ _ _ c.requires.room

pub returns : goal.returns
returns c = filled c.args.buffer.now c.args.n c.args.b.now c.requires.room c.copy_from_slice.ensures.after
