-- `block_before` meets its contract: a loop over the calls of the block.
use Rattle.std.proofs.Common.{◌-◌}
use Rattle.laws.specs.Lists.{span}
use Rattle.rides.specs.Loops.{last_board_rows}
use Rattle.rides.specs.Over.{Over}
use Rattle.rides.specs.Places.{sheet_in, joins_in}
use Rattle.rides.specs.Reach.{block_end}
use Rattle.rides.proofs.LoopLaws.{Rest}
use Rattle.rides.proofs.change.block_before.Given as goal

abbrev pub invariant-loop-j : goal.invariant-loop-j
invariant-loop-j l =
    let n = l.last.lent.calls.n in
    let end = block_end n l.from in
    Rest l.fn.st l.st (last_board_rows (sheet_in l.last.lent) (joins_in l.last.lent) n l.f) (span l.from (end - l.from)) (span l.j (end - l.j))
    × Over l.st l.f 2 l.over
