-- The starred instance on joins: with no rule, a change at one stop takes the settings' change time.
use Rattle.std.specs.Prelude.{Some}
use mathlib.Core.Path.{◌≡◌, refl, ap, ◌∙◌}
use mathlib.Core.List.{List, []}
use Prim.Native.Nat.{ℕ}
use lib.Dec.{leb}
use borrow.Author.Tests.{eq-eqb, lt-ltb}
use Rattle.transfer.specs.Changes.{transfer_of}
use Rattle.calls.specs.declared.Call.{Call}
use Rattle.profile.specs.declared.Ride.{Ride}
use Rattle.load.specs.declared.Load.{Load}
use Rattle.search.specs.Timetable.{joins_in}
use Rattle.search.specs.Marked.{SameStop, MarkedJoins}

-- with no rule, a change at one stop takes the change time
at-one-stop : (parents places : List ℕ) (stop change : ℕ) → transfer_of [] parents places stop stop change ≡ Some change
unfolding transfer_of
at-one-stop parents places stop change = rw (eq-eqb stop stop refl)

-- whether the departure is late enough is all that is asked
by-departure : (l : Load) (f : Ride) (b : Call) → SameStop l f b → joins_in l f b ≡ leb 1180 b.departure
by-departure l f b s =
    rw (s.at_stop, lt-ltb b.stop 128 s.known, s.no_rule, s.other_run, s.three_minutes, s.arrives, at-one-stop _ _ b.stop 180)

pub marked-joins : MarkedJoins
marked-joins =
    record {
      joins = λ l f b s e. by-departure l f b s ∙ ap (leb 1180) e;
      joins_not = λ l f b s e. by-departure l f b s ∙ ap (leb 1180) e;
    }
