-- A search within a limit on joins: joins and journeys in one order, over what was handed in, how far a search within the limit comes, and
-- what it says of itself. A join is a first ride from an origin with any ride of the table as the second, whether they join or not, and
-- counted once for all targets. RULES 11.1, 11.2, 11.4.
use Rattle.std.specs.Prelude.{◌≡◌, ◌↔◌, Bool, true, false, ℕ, suc, ◌+◌, ◌*◌, ◌≤◌, ◌<◌, get_or}
use mathlib.Core.List.{List, [], ◌∷◌, ◌++◌, Memᴰ}
use Rattle.calls.specs.declared.Call.{Call}
use Rattle.profile.specs.declared.Journey.{Journey}
use Rattle.comparison.specs.Admitted.{Feed, Member, Leg}
use Rattle.comparison.specs.OfferOrder.{Offer, alone, changing, through, Sooner, RideSooner, Before, Gives, Each}

-- what a search comes to: a join, by boarding call, origin and alighting call of its first ride and the calls of its second; or an offer
pub data Event : Type 0 where
  join : Call → ℕ → Call → Call → Call → Event
  offer : Offer → Event

-- two rides of the table, the first from an origin whose walk is met; the second may end anywhere, and may be the first again. With
-- `max_transfers` 0 there is none
pub record Join (F : Feed) (b : Call) (o : ℕ) (a c d : Call) : Type 0 where
  pub may : 1 ≤ F.settings.max_transfers
  pub first : Leg F b a
  pub origin : o < F.settings.origins
  pub from : Member F.stops b.stop o
  pub walked : get_or F.settings.origin_walks o 0 * 60 ≤ b.departure
  pub last : Leg F c d

-- a search without limit comes to the event
abbrev pub Comes : Feed → Event → Type 0
Comes F (join b o a c d) = Join F b o a c d
Comes F (offer x) = (j : Journey) × Gives F x j

-- the first event comes before the second: a first ride's direct journeys before its joins, a join just before its own journeys, and all
-- before the journeys of three rides
abbrev pub Precedes : Event → Event → Type 0
Precedes (offer x) (offer y) = Before x y
Precedes (join b o a c d) (join b' o' a' c' d') = Sooner b o a b' o' a' (RideSooner c d c' d' ⊥)
Precedes (join b o a c d) (offer (alone b' o' a' k')) = Sooner b o a b' o' a' ⊥
Precedes (join b o a c d) (offer (changing b' o' a' c' d' k')) = Sooner b o a b' o' a' (RideSooner c d c' d' (Unit {0}))
Precedes (join b o a c d) (offer (through b' o' a' c' d' e' g' k')) = Unit {0}
Precedes (offer (alone b o a k)) (join b' o' a' c' d') = Sooner b o a b' o' a' (Unit {0})
Precedes (offer (changing b o a c d k)) (join b' o' a' c' d') = Sooner b o a b' o' a' (RideSooner c d c' d' ⊥)
Precedes (offer (through b o a c d e g k)) (join b' o' a' c' d') = ⊥

-- each comes before all after it
abbrev pub InTurn : List Event → Type 0
InTurn [] = Unit {0}
InTurn (e ∷ es) = ((f : Event) → Memᴰ f es → Precedes e f) × InTurn es

-- all joins and all offers of what was handed in, in that order
pub record Listed (F : Feed) (es : List Event) : Type 0 where
  pub in_turn : InTurn es
  pub all : (e : Event) → Memᴰ e es ↔ Comes F e

-- how many joins a list has, and its offers
abbrev pub joins_in : List Event → ℕ
joins_in [] = 0
joins_in (join b o a c d ∷ es) = suc (joins_in es)
joins_in (offer x ∷ es) = joins_in es

abbrev pub offers_in : List Event → List Offer
offers_in [] = []
offers_in (join b o a c d ∷ es) = offers_in es
offers_in (offer x ∷ es) = x ∷ offers_in es

-- with the limit n a search of the events es comes to those of `front`: to all, with at most n joins, and is finished (true); or it ends
-- before a join that n joins precede, and is stopped
pub data Stops (n : ℕ) (es front : List Event) : Bool → Type 0 where
  finished : front ≡ es → joins_in es ≤ n → Stops n es front true
  stopped : (b : Call) (o : ℕ) (a c d : Call) (rest : List Event)
      → es ≡ front ++ join b o a c d ∷ rest → joins_in front ≡ n → Stops n es front false

-- a search within the limit n offers the journeys os, tests so many joins, and is finished or stopped
pub record Within (F : Feed) (n : ℕ) (os : List Journey) (tested : ℕ) (finishes : Bool) : Type 0 where
  pub events : List Event
  pub listed : Listed F events
  pub front : List Event
  pub stops : Stops n events front finishes
  pub offered : Each F (offers_in front) os
  pub count : joins_in front ≡ tested

-- ---- the margin

-- a ride of the table is at a target at m, the target's walk included; it may start anywhere
pub record Reaches (F : Feed) (m : ℕ) : Type 0 where
  pub b : Call
  pub a : Call
  pub k : ℕ
  pub leg : Leg F b a
  pub target : k < F.settings.targets
  pub to : Member F.stops a.stop (4 + k)
  pub arrives : m ≡ a.arrival + get_or F.settings.target_walks k 0 * 60

-- m is the earliest of these
pub record Earliest (F : Feed) (m : ℕ) : Type 0 where
  pub one : Reaches F m
  pub least : (n : ℕ) → Reaches F n → m ≤ n
