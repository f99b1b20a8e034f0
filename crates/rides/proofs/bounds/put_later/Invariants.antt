-- `put_later` meets its contract: a loop over the times of departure from the right.
use Rattle.rides.proofs.BoundLaws.{From}
use Rattle.rides.proofs.bounds.put_later.Given as goal

abbrev pub invariant-loop-q : goal.invariant-loop-q
invariant-loop-q l = From l.fn.bounds l.bounds l.q
