-- `put_targets` meets its contract: a loop over the calls.
use Rattle.rides.specs.Bounds.{AtCall}
use Rattle.rides.specs.Reach.{Each}
use Rattle.rides.proofs.reach.put_targets.Given as goal

abbrev pub invariant-loop-m : goal.invariant-loop-m
invariant-loop-m l = Each (AtCall l.calls.feed.now) 0 l.m l.at
