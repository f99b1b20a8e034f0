-- The guard of `joins_in` never decides in a load that the steps make: no call of it is at a stop past the 128th.
use Rattle.std.specs.Prelude.{◌≡◌, take}
use mathlib.Core.List.{Memᴰ}
use Rattle.calls.specs.declared.Call.{Call}
use Rattle.transfer.specs.Changes.{join_of}
use Rattle.offers.specs.Offers.{ride_of}
use Rattle.load.specs.declared.Load.{Load}
use Rattle.load.specs.Sound.{Sound}
use Rattle.search.specs.Timetable.{change_in, one_run, joins_in}

-- a ride that alights at the call a joins one that boards at c as `join` says, and nothing else is asked
abbrev pub JoinsKnown : Type 0
JoinsKnown = (l : Load) → Sound l → (b a c : Call) → Memᴰ a (take l.call_count l.calls) → Memᴰ c (take l.call_count l.calls)
    → joins_in l (ride_of b a) c ≡ join_of (change_in l a.stop c.stop) (one_run (ride_of b a) c) a.arrival c.departure
