-- `put_boards` meets its contract: a loop over the calls from the right.
use Rattle.rides.specs.Reach.{BoardAt, Each}
use Rattle.rides.proofs.reach.put_boards.Given as goal

abbrev pub invariant-loop-j : goal.invariant-loop-j
invariant-loop-j l = Each (BoardAt l.calls.feed.now l.calls.n l.at) l.j l.calls.n l.boards
