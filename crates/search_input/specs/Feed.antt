-- The lent arrays as calls, memberships, walks and changes. The feed has six numbers for each of 512 calls in order (trip, day, stop,
-- arrival, departure, flags), then from 3072 the membership byte of each of 128 stops, from 3200 the walks of 4 origins and from 3204
-- those of 4 targets. The changes have, at from * 128 + to, the seconds of a change between two stops, 65536 where there is none. Below,
-- the tests and sums on what is read.
use Rattle.std.specs.Prelude.{Bool, cond, not, ◌&&◌, List, ℕ, ◌+◌, ◌-◌, ◌*◌, ◌/◌, ◌%◌, eqb, leb, ltb, get_or}
use Rattle.profile.specs.declared.figures.Figures.{Figures}
use Rattle.search_input.specs.declared.FeedCall.{FeedCall}
use Rattle.search_input.specs.declared.FirstRide.{FirstRide}
use Rattle.stops.specs.Sizes.{stop_room}
use Rattle.search_input.specs.Layout.{call_width, members_place, origin_walks_place, target_walks_place, changes_size, no_change}

-- the call at place i; bit 0 of the flags is boardable, bit 1 alightable
unfoldable pub call_at : List ℕ → ℕ → FeedCall
call_at f i =
    record {
      trip = get_or f (i * call_width) 0;
      day = get_or f (i * call_width + 1) 0;
      stop = get_or f (i * call_width + 2) 0;
      arrival = get_or f (i * call_width + 3) 0;
      departure = get_or f (i * call_width + 4) 0;
      board = eqb (get_or f (i * call_width + 5) 0 % 2) 1;
      alight = eqb (get_or f (i * call_width + 5) 0 / 2 % 2) 1;
    }

-- the membership byte of a stop; no stop past the 128 has members
unfoldable pub member_at : List ℕ → ℕ → ℕ
member_at f stop = cond (ltb stop stop_room) (get_or f (members_place + stop) 0) 0

-- bits 0 to 3 are origins, bits 4 to 7 targets
unfoldable pub origin_mask : List ℕ → ℕ → ℕ
origin_mask f stop = member_at f stop % 16

unfoldable pub target_mask : List ℕ → ℕ → ℕ
target_mask f stop = member_at f stop / 16 % 16

-- walks in minutes
unfoldable pub origin_walk_of : List ℕ → ℕ → ℕ
origin_walk_of f o = get_or f (origin_walks_place + o) 0

unfoldable pub target_walk_of : List ℕ → ℕ → ℕ
target_walk_of f x = get_or f (target_walks_place + x) 0

-- the seconds of a change; 65536, which no departure allows, past the end
unfoldable pub change_at : List ℕ → ℕ → ℕ → ℕ
change_at g from to = cond (ltb (from * stop_room + to) changes_size) (get_or g (from * stop_room + to) 0) no_change

-- two calls are of one trip and day
unfoldable pub same_run : FeedCall → FeedCall → Bool
same_run b a = eqb b.trip a.trip && eqb b.day a.day

-- leave = departure − walk × 60, arrival = alighting + target walk × 60
unfoldable pub leave_of : ℕ → ℕ → ℕ
leave_of walk departure = departure - walk * 60

unfoldable pub arrival_of : ℕ → ℕ → ℕ
arrival_of walk alighting = alighting + walk * 60

-- the figures of a journey after a first ride, of so many rides, that is due at `arrival`
abbrev pub figures_of : FirstRide → ℕ → ℕ → Figures
figures_of f arrival rides = record { leave = f.leave; arrival = arrival; rides = rides; walk = f.walk }

-- trip or day differs, and arrival + transfer seconds is at most departure
unfoldable pub joined : FirstRide → FeedCall → ℕ → Bool
joined f b seconds = not (eqb f.trip b.trip && eqb f.day b.day) && leb (f.arrival + seconds) b.departure
