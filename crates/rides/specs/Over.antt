-- From when on journeys need not be offered: of those that differ in arrival, targets and later rides alone, what is due no earlier than
-- one that would be passed over would be passed over too (`CoveredPassed`).
use Rattle.std.specs.Prelude.{◌≡◌, true, List, [], ℕ, ◌<◌}
use Rattle.profile.specs.Found.{Row}
use Rattle.search_state.specs.View.{view}
use Rattle.candidate.specs.Offer.{with_figures, passed_over}
use Rattle.search_input.specs.declared.FirstRide.{FirstRide}
use Rattle.search_input.specs.Feed.{call_at, figures_of}
use Rattle.rides.specs.declared.known.Known.{Known}
use Rattle.rides.specs.declared.since.Since.{Since}
use Rattle.rides.specs.declared.joined.JoinedTimes.{JoinedTimes}
use Rattle.rides.specs.declared.last.LastRides.{LastRides}
use Rattle.rides.specs.Offered.{Offered}
use Rattle.rides.specs.Reach.{alighted_at, JoinsAt, EachOf, Each, RowAt}
use Rattle.rides.specs.Sheets.{joins_of}
use Rattle.search_input.specs.Layout.{call_room}

-- in the state l, what begins with f, has so many rides and is due at t or later would be passed over
pub record Over (l : List ℕ) (f : FirstRide) (rides t : ℕ) : Type 0 where
  pub passed : passed_over (view l) (with_figures (figures_of f t rides)) ≡ true

-- l' is the state of the array l after these offers, and in it what is due at t or later would be passed over
pub record Walked (l l' : List ℕ) (os : List Row) (f : FirstRide) (rides t : ℕ) : Type 0 where
  pub offered : Offered l l' os
  pub over : Over l' f rides t

-- the same of one ride and of two, as far as `s` says
pub record Holds (l : List ℕ) (f : FirstRide) (s : Since) : Type 0 where
  pub one : Over l f 1 s.one
  pub two : Over l f 2 s.two

-- ---- what is joined, by the place where a ride alights

-- of each place, a time no later than the number of any last ride that a ride that alights there joins; and such a time for those that
-- board in each block: 0 is one, before it is asked
pub record Joined (r : LastRides) (j : JoinedTimes) : Type 0 where
  pub least : Each (JoinsAt r.lent.calls.feed.now r.lent.changes.now r.lent.calls.n r.bounds.now) 0 r.lent.calls.n j.least
  pub blocks : EachOf call_room [] (RowAt r.lent.calls.feed.now r.lent.changes.now r.lent.calls.n r.bounds.now) 0 r.lent.calls.n j.blocks

-- what is known between two first rides
pub record Knows (l : List ℕ) (r : LastRides) (k : Known) : Type 0 where
  pub since : Holds l k.before k.since
  pub joined : Joined r k.joined

-- one can alight where f does, and f joins what a ride that alights there joins
pub record Alights (feed : List ℕ) (n : ℕ) (f : FirstRide) : Type 0 where
  pub within : f.alight < n
  pub alights : (call_at feed f.alight).alight ≡ true
  pub joins : (changes : List ℕ) (j : ℕ) → joins_of feed changes f j ≡ joins_of feed changes (alighted_at feed f.alight) j
