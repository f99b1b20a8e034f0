-- `rides_before` meets its contract: a loop over the blocks.
use Rattle.std.proofs.Common.{◌-◌, ◌*◌}
use Rattle.laws.specs.Lists.{span}
use Rattle.rides.specs.Loops.{last_board_rows}
use Rattle.rides.specs.Over.{Over}
use Rattle.rides.specs.Places.{sheet_in, joins_in}
use Rattle.rides.specs.Reach.{block_width}
use Rattle.rides.proofs.LoopLaws.{Rest}
use Rattle.rides.proofs.change.rides_before.Given as goal

abbrev pub invariant-loop-b : goal.invariant-loop-b
invariant-loop-b l =
    let n = l.last.lent.calls.n in
    let j = l.b * block_width in
    Rest l.fn.st l.st (last_board_rows (sheet_in l.last.lent) (joins_in l.last.lent) n l.f) (span 0 (n - 0)) (span j (n - j))
    × Over l.st l.f 2 l.over
