-- A search within a limit: its joins and their count, that a finished one is the full search, and what its answer for second 0 owes to a
-- larger limit.
use Rattle.std.specs.Prelude.{Some}
use mathlib.Core.Path.{◌≡◌, refl, sym, ap, ◌∙◌}
use mathlib.Core.Logic.{◌⊎◌, inl, inr}
use mathlib.Core.Bool.{Bool, true, false, cond, false≢true}
use mathlib.Core.List.Memᴰ
use mathlib.Core.List.{List, [], ◌++◌, map, Memᴰ, Permᴰ}
use Prim.Native.Nat.{ℕ, ◌+◌, ◌-◌, ◌*◌, ◌≤◌, ◌<◌, min}
use native.Mathlib.Omega.{arith}
use lib.IntN.{ℤ, pos}
use borrow.Author.Tests.{eq-eqb}
use Rattle.laws.proofs.Folds.{concat_map-mem, mem-concat_map}
use Rattle.ways.specs.Rides.{rides, first_rides, journeys}
use Rattle.ways.proofs.RideLaws.{Alone, Changing, rides-mem, mem-rides, firsts-mem, mem-firsts, journeys-mem}
use Rattle.calls.specs.declared.Call.{Call}
use Rattle.profile.specs.declared.Journey.{Journey}
use Rattle.profile.specs.Figures.{covᶠ, dueᶠ}
use Rattle.profile.specs.Kept.{SearchState, going, refused, searched}
use Rattle.profile.specs.Fall.{fall}
use Rattle.profile.specs.Best.{bestℤ, ordered}
use Rattle.profile.specs.Claims.{Keeps}
use Rattle.profile.specs.Journeys.{journey_figures}
use Rattle.profile.proofs.ClaimLaws.{search-is-fall, best-in-order, put-in-order, ordered-best}
use Rattle.offers.specs.Order.{clashes}
use Rattle.offers.specs.Offers.{Timetable, with_calls, network_of, direct_by, change_by, sorted, offers}
use Rattle.offers.specs.Admitted.{Clear}
use Rattle.offers.specs.Search.{Outcome, clashing, found, found_by, search_of}
use Rattle.offers.proofs.OrderLaws.{accepted-any-order, clashes-any-order}
use Rattle.offers.proofs.FoundLaws.{rides-found, found-rides, starts-set, set-starts}
use Rattle.offers.proofs.RouteLaws.{offers-up-to-one}
use Rattle.offers.proofs.SearchLaws.{keeping-ends}
use Rattle.counted.specs.Events.{joins_of, offers_of, joins_in, up_to, past}
use Rattle.counted.specs.Joins.{Join, join_of, events, pairs}
use Rattle.counted.proofs.EventLaws.{offers-append, stops, count-is, finished-if, finished-is-all, goes_on}
use Rattle.counted.proofs.JoinLaws.{offers-of-events, joins-of-events, count-of-events}
use Rattle.limited.specs.Growth.{Kinds}
use Rattle.limited.specs.Limited.{events_of, offers_within, joins_within, finished_within, search_within, all_joins, OneChange, EventOffers}
use Rattle.limited.specs.Limited.{Pairs, EventJoins, CountWithin, FinishedWithin, NoChange, FinishedIsFull, WithinByOffers, EightTogether}
use Rattle.limited.specs.Limited.{LargerNeverLater, WithinInAnyOrder}
use Rattle.limited.proofs.GrowthLaws.{few-together, never-later}

-- ---- the events: their offers and their joins

pub event-offers : EventOffers
unfolding events_of
event-offers t one = offers-of-events (network_of t) (direct_by t) (change_by t) t.max_transfers (sorted t) ∙ sym (offers-up-to-one t one)

module _ (t : Timetable) (e : Clear t) (one : t.max_transfers ≡ 1) (j : Join Call) where
  all-pairs : joins_of (events_of t) ≡ pairs (first_rides (network_of t) (sorted t)) (rides (network_of t) (sorted t))
  unfolding events_of
  all-pairs =
      joins-of-events (network_of t) (direct_by t) (change_by t) t.max_transfers (sorted t)
      ∙ ap (λ (b : Bool). cond b (pairs (first_rides (network_of t) (sorted t)) (rides (network_of t) (sorted t))) [])
      (eq-eqb t.max_transfers 1 one)

  join-pairs : Memᴰ j (joins_of (events_of t)) → Pairs t j
  join-pairs m =
      let (f, i, n) =
      concat_map-mem (λ f. map (join_of f) (rides (network_of t) (sorted t))) (first_rides (network_of t) (sorted t)) (rw all-pairs at m) in
      let (l, k, q) = Memᴰ.of_map (join_of f) (rides (network_of t) (sorted t)) n in
      let (w, o) = firsts-mem (network_of t) (sorted t) f i in
      rw (← q) (record {
        first = rides-found t e f.ride.b f.ride.a w;
        starts = starts-set t f.ride.b o;
        last = rides-found t e l.b l.a (rides-mem (network_of t) (sorted t) l k);
      })

  pairs-join : Pairs t j → Memᴰ j (joins_of (events_of t))
  pairs-join w =
      let f = j.first in
      let l = j.last in
      rw all-pairs
      (mem-concat_map (λ f. map (join_of f) (rides (network_of t) (sorted t)))
      (mem-firsts (network_of t) (sorted t) f (found-rides t e f.ride.b f.ride.a w.first) (set-starts t f.ride.b f.o w.starts))
      (Memᴰ.map (join_of f) (mem-rides (network_of t) (sorted t) l (found-rides t e l.b l.a w.last))))

pub event-joins : EventJoins
event-joins t e one j = (join-pairs t e one j, pairs-join t e one j)

-- ---- the count

all-joins : (t : Timetable) → joins_in (events_of t) ≡ all_joins t
unfolding events_of all_joins
all-joins t = count-of-events (network_of t) (direct_by t) (change_by t) t.max_transfers (sorted t)

pub count-within : CountWithin
unfolding joins_within
count-within n t = count-is n (events_of t) ∙ ap (min n) (all-joins t)

pub finished-within : FinishedWithin
unfolding finished_within
finished-within n t = let (p, q) = finished-if n (events_of t) in (λ f. rw (all-joins t) at (p f), λ h. q (rw (all-joins t) h))

no_joins : (t : Timetable) → t.max_transfers ≡ 0 → all_joins t ≡ 0
unfolding all_joins
no_joins t e = rw e refl

pub no_change : NoChange
no_change n t e = let z = no_joins t e in (count-within n t ∙ omega arith, (finished-within n t).1 (omega arith))

-- ---- a finished search

all-within : (n : ℕ) (t : Timetable) → OneChange t → finished_within n t ≡ true → offers_within n t ≡ offers t
unfolding finished_within offers_within
all-within n t one e = ap offers_of ((finished-is-all n (events_of t)).0 e) ∙ event-offers t one

pub finished-is-full : FinishedIsFull
unfolding search_within search_of
finished-is-full n t h l one e =
    ap (λ (os : List Journey). cond (clashes (sorted t)) clashing (found_by (searched journey_figures 64 3600 h l os)))
    (all-within n t one e)

-- ---- by the offers before the stop

pub within-by-offers : WithinByOffers
unfolding search_within
within-by-offers n t h l =
    ap (λ (s : SearchState Journey). cond (clashes (sorted t)) clashing (found_by s))
    (search-is-fall journey_figures h l (offers_within n t))
    ∙ ap (λ (f : Outcome). cond (clashes (sorted t)) clashing f)
    (keeping-ends (offers_within n t) (fall (covᶠ journey_figures) (dueᶠ journey_figures) 64 3600 h l [] (offers_within n t)))

-- what was found was kept, and put in order
pub within-found : (n : ℕ) (t : Timetable) (h₀ l₀ h l : ℕ) (ks : List Journey) → search_within n t h₀ l₀ ≡ found ks h l
    → Clear t × (ks' : List Journey) × Keeps journey_figures h₀ l₀ (offers_within n t) ks' h l × (ks ≡ ordered journey_figures ks')
unfolding search_within
within-found n t h₀ l₀ h l ks e = go (clashes (sorted t)) refl (searched journey_figures 64 3600 h₀ l₀ (offers_within n t)) refl e
  where
    go : (b : Bool) → clashes (sorted t) ≡ b → (s : SearchState Journey) → searched journey_figures 64 3600 h₀ l₀ (offers_within n t) ≡ s
        → cond b clashing (found_by s) ≡ found ks h l
        → Clear t × (ks' : List Journey) × Keeps journey_figures h₀ l₀ (offers_within n t) ks' h l × (ks ≡ ordered journey_figures ks')
    go true p s q r = absurd (false≢true cc)
    go false p refused q r = absurd (false≢true cc)
    go false p (going ks' h' l') q r = (p, ks', cc, cc)

-- best of the list in order is best of what was kept
pub best-ordered : (ks : List Journey) (h : ℕ) (z : ℤ)
    → bestℤ journey_figures (ordered journey_figures ks) h z ≡ bestℤ journey_figures ks h z
best-ordered ks h z =
    sym (best-in-order journey_figures (ordered journey_figures ks) (put-in-order journey_figures ks).0 h z)
    ∙ ordered-best journey_figures ks h z

-- ---- the offers of at most so many rides are of four times as many kinds, by rides and origin

pub kind : Journey → ℕ
kind j = (j.rides - 1) * 4 + j.origin

pub record Kind (most : ℕ) (t : Timetable) (j : Journey) : Type 0 where
  pub some-ride : 1 ≤ j.rides
  pub rides : j.rides ≤ most
  pub origin : j.origin < 4
  pub walk : j.walk ≡ t.origin_walk j.origin

-- what the events offer, by first ride
abbrev pub journeys_of : Timetable → List Journey
journeys_of t = journeys (network_of t) (direct_by t) (change_by t) t.max_transfers (sorted t)

journey-kind : (t : Timetable) (j : Journey) → Memᴰ j (journeys_of t) → Kind 2 t j
journey-kind t j m = go (journeys-mem (network_of t) (direct_by t) (change_by t) t.max_transfers (sorted t) j m)
  where
    go : Alone (network_of t) (direct_by t) (change_by t) t.max_transfers (sorted t) j
        ⊎ Changing (network_of t) (direct_by t) (change_by t) t.max_transfers (sorted t) j → Kind 2 t j
    go (inl w) =
        let x = starts-set t w.f.ride.b w.origin in
        rw w.is (record { some-ride = omega arith; rides = omega arith; origin = omega (arith, x.count); walk = refl })
    go (inr w) =
        let x = starts-set t w.f.ride.b w.origin in
        rw w.is (record { some-ride = omega arith; rides = omega arith; origin = omega (arith, x.count); walk = refl })

pub kinds : (most : ℕ) (t : Timetable) (os : List Journey) → ((j : Journey) → Memᴰ j os → Kind most t j)
    → Kinds journey_figures kind (most * 4) os
unfolding kind
kinds most t os f = record {
  small = λ j m. let k = f j m in omega (arith, k.some-ride, k.rides, k.origin);
  rides = λ a b m n e. let k = f a m in let l = f b n in omega (arith, k.some-ride, l.some-ride, k.origin, l.origin);
  walk = λ a b m n e.
      let k = f a m in
      let l = f b n in
      let q : a.origin ≡ b.origin = omega (arith, k.origin, l.origin) in
      k.walk ∙ ap t.origin_walk q ∙ sym l.walk;
}

-- what is offered before the stop is offered
pub within-offer : (n : ℕ) (t : Timetable) {j : Journey} → Memᴰ j (offers_within n t) → Memᴰ j (journeys_of t)
unfolding offers_within events_of
within-offer n t m =
    let q : journeys_of t ≡ offers_of (up_to n (events_of t)) ++ offers_of (past n (events_of t)) =
    sym (offers-of-events (network_of t) (direct_by t) (change_by t) t.max_transfers (sorted t)) ∙ ap offers_of (stops n (events_of t))
    ∙ offers-append (up_to n (events_of t)) (past n (events_of t)) in
    rw q (Memᴰ.append_left (offers_of (past n (events_of t))) m)

within-kinds : (n : ℕ) (t : Timetable) → Kinds journey_figures kind 8 (offers_within n t)
within-kinds n t = kinds 2 t (offers_within n t) (λ j m. journey-kind t j (within-offer n t m))

pub eight-together : EightTogether
eight-together n t h a = few-together journey_figures kind 8 (offers_within n t) (within-kinds n t) h a

-- ---- a larger limit

within-goes-on : (n m : ℕ) (t : Timetable) → n ≤ m → (ys : List Journey) × (offers_within m t ≡ offers_within n t ++ ys)
unfolding offers_within
within-goes-on n m t h = (
  offers_of (up_to (m - n) (past n (events_of t))),
  ap offers_of (goes_on n m (events_of t) h)
      ∙ offers-append (up_to n (events_of t)) (up_to (m - n) (past n (events_of t))),
)

pub larger-never-later : LargerNeverLater
larger-never-later n m t h₀ l₀ ks ks' h h' l l' le e e' j b =
    let (clear, k, w, q) = within-found n t h₀ l₀ h l ks e in
    let (clear', k', w', q') = within-found m t h₀ l₀ h' l' ks' e' in
    let (ys, p) = within-goes-on n m t le in
    let few : Kinds journey_figures kind 8 (offers_within n t ++ ys) = rw p at (within-kinds m t) in
    let b' : bestℤ journey_figures k h (pos 0) ≡ Some j = sym (best-ordered k h (pos 0)) ∙ (rw q at b) in
    let (j', r, s) = never-later journey_figures kind 8 h₀ l₀ (offers_within n t) ys k k' h h' l l' (omega arith) few w (rw p at w') j b' in
    (j', ap (λ (x : List Journey). bestℤ journey_figures x h' (pos 0)) q' ∙ best-ordered k' h' (pos 0) ∙ r, s)

-- ---- calls in any order

events-any-order : (t : Timetable) (ys : List Call) → Permᴰ t.calls ys → Clear t → events_of t ≡ events_of (with_calls t ys)
unfolding events_of network_of
events-any-order t ys p e = ap (events (network_of t) (direct_by t) (change_by t) t.max_transfers) (accepted-any-order t.calls ys p e)

pub within-in-any-order : WithinInAnyOrder
unfolding search_within offers_within joins_within finished_within
within-in-any-order n t ys h l p = record {
  outcome = go (clashes (sorted t)) refl;
  joins = λ e. rw (events-any-order t ys p e);
  finishes = λ e. rw (events-any-order t ys p e);
}
  where
    by : Timetable → Outcome
    by u = found_by (searched journey_figures 64 3600 h l (offers_of (up_to n (events_of u))))

    go : (b : Bool) → clashes (sorted t) ≡ b
        → cond (clashes (sorted t)) clashing (by t) ≡ cond (clashes (sorted (with_calls t ys))) clashing (by (with_calls t ys))
    go true e = rw (← clashes-any-order t.calls ys p, e)
    go false e = rw (← clashes-any-order t.calls ys p, e, events-any-order t ys p e)
