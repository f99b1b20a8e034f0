-- `next` meets its contract: what is left stays until one is found, and each turn takes a call, an origin or a boarding call away.
use Rattle.std.proofs.Common.{◌≡◌, ◌+◌, ◌-◌, ◌*◌, length}
use Rattle.laws.specs.Bits.{bits_of}
use Rattle.rides.specs.Firsts.{firsts_left}
use Rattle.rides.specs.Places.{later_left}
use Rattle.rides.proofs.firsts.FirstRidesIterator.next.Given as goal

abbrev pub invariant-seek : goal.invariant-seek
invariant-seek l = firsts_left l.fn.self ≡ firsts_left l.self

abbrev pub decreases-seek : goal.decreases-seek
decreases-seek l =
    let s = l.self in
    (s.calls.n - s.next) * 5000 + length (bits_of s.origins.left) * 1000 + length (later_left s.later)
