-- A call of a sound load is at one of its stops, of which there are at most 128: so `joins_in` is `join`.
use Prim.Native.Nat.{◌<◌}
use mathlib.Core.Bool.{false}
use mathlib.Core.List.{Memᴰ}
use native.Mathlib.Omega.{arith}
use lib.Dec.{ltb}
use lib.ListN.{take}
use borrow.Author.Tests.{lt-ltb}
use Rattle.laws.proofs.Bools.{and-true, cond-by}
use Rattle.calls.specs.declared.Call.{Call}
use Rattle.calls.specs.Sound.{AtStop}
use Rattle.calls.proofs.SoundLaws.{all-mem}
use Rattle.transfer.specs.Changes.{join_of}
use Rattle.offers.specs.Offers.{ride_of}
use Rattle.load.specs.declared.Load.{Load}
use Rattle.load.specs.Sound.{Sound}
use Rattle.search.specs.Timetable.{change_in, one_run}
use Rattle.search.specs.Joins.{JoinsKnown}

call_below : (l : Load) → Sound l → (c : Call) → Memᴰ c (take l.call_count l.calls) → c.stop < 128
call_below l s c m = omega (arith, all-mem (AtStop l.stop_count) (take l.call_count l.calls) s.calls_known c m, s.stops.few)

pub joins-known : JoinsKnown
joins-known l s b a c m n =
    cond-by (join_of (change_in l a.stop c.stop) (one_run (ride_of b a) c) a.arrival c.departure) false
    (and-true (ltb a.stop 128) (ltb c.stop 128) (lt-ltb a.stop 128 (call_below l s a m)) (lt-ltb c.stop 128 (call_below l s c n)))
