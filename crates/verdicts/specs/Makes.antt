-- Which journey a connection makes: one that the timetable admits, of the very calls that the connection names, from its origin to its
-- target.
use Rattle.std.specs.Prelude.{◌≡◌, ◌⊎◌}
use Rattle.calls.specs.declared.Call.{Call}
use Rattle.profile.specs.declared.Journey.{Journey}
use Rattle.offers.specs.Offers.{Timetable}
use Rattle.offers.specs.Admitted.{Direct, Change, Three}
use Rattle.connection.specs.declared.Leg.{Leg}
use Rattle.connection.specs.declared.Connection.{Connection}
use Rattle.connection.specs.Find.{leg_at}

-- a leg names these two calls
pub record Names (g : Leg) (b a : Call) : Type 0 where
  pub board_trip : b.trip ≡ g.trip
  pub board_day : b.day ≡ g.day
  pub board_at : b.sequence ≡ g.board
  pub alight_trip : a.trip ≡ g.trip
  pub alight_day : a.day ≡ g.day
  pub alight_at : a.sequence ≡ g.alight

pub record ByOne (t : Timetable) (c : Connection) (j : Journey) : Type 0 where
  pub rides : c.rides ≡ 1
  pub way : Direct t j
  pub origin : way.o ≡ c.origin
  pub target : way.k ≡ c.target
  pub first : Names (leg_at c.legs 0) way.b way.a

pub record ByTwo (t : Timetable) (c : Connection) (j : Journey) : Type 0 where
  pub rides : c.rides ≡ 2
  pub way : Change t j
  pub origin : way.o ≡ c.origin
  pub target : way.k ≡ c.target
  pub first : Names (leg_at c.legs 0) way.b way.a
  pub last : Names (leg_at c.legs 1) way.c way.d

pub record ByThree (t : Timetable) (c : Connection) (j : Journey) : Type 0 where
  pub rides : c.rides ≡ 3
  pub way : Three t j
  pub origin : way.o ≡ c.origin
  pub target : way.k ≡ c.target
  pub first : Names (leg_at c.legs 0) way.b way.a
  pub middle : Names (leg_at c.legs 1) way.c way.d
  pub last : Names (leg_at c.legs 2) way.e way.g

-- j is admitted, and made of those calls
abbrev pub Makes : Timetable → Connection → Journey → Type 0
Makes t c j = ByOne t c j ⊎ (ByTwo t c j ⊎ ByThree t c j)
