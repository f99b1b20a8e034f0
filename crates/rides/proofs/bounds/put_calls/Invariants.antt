-- `put_calls` meets its contract: a loop over the calls from the right.
use Rattle.rides.specs.Bounds.{Filled}
use Rattle.rides.proofs.bounds.put_calls.Given as goal

abbrev pub invariant-loop-j : goal.invariant-loop-j
invariant-loop-j l = Filled l.bounds l.calls.feed.now l.calls.n l.j
