-- Fewer are left at each call.
use lib.ListN.{length}
use Rattle.groups.proofs.+given_twice.Given as goal

abbrev pub decreases-given_twice : goal.decreases-given_twice
decreases-given_twice l = length l.given.now
