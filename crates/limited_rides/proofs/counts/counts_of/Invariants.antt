-- `counts_of` meets its contract: a loop over the calls from the right.
use Rattle.limited_rides.proofs.MadeLaws.{Counted}
use Rattle.limited_rides.proofs.counts.counts_of.Given as goal

abbrev pub invariant-loop-j : goal.invariant-loop-j
invariant-loop-j l = Counted l.board l.calls.feed.now l.calls.n l.j l.next l.all
