-- `least_of` meets its contract: a loop over the calls from the right.
use Rattle.limited_rides.proofs.DueLaws.{Due}
use Rattle.limited_rides.proofs.earliest.least_of.Given as goal

abbrev pub invariant-loop-j : goal.invariant-loop-j
invariant-loop-j l = Due l.calls.feed.now l.calls.n l.j l.next l.least
