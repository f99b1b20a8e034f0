-- What was taken gives the program's events: its joins, its offers, and where a limit stops them.
use Prim.Native.Nat.{ℕ, zero, suc, ◌*◌, ◌≤◌}
use native.Mathlib.Omega.{arith}
use mathlib.Core.Path.{◌≡◌, refl, sym, ap, subst, ◌∙◌}
use mathlib.Core.Logic.{◌⊎◌, inl, inr}
use mathlib.Core.Bool.{cond}
use mathlib.Core.List.Memᴰ
use mathlib.Core.List.{List, [], ◌∷◌, ◌++◌, map, Memᴰ}
use lib.Dec.{eqb}
use Rattle.settings.specs.declared.Settings.{Settings}
use Rattle.calls.specs.declared.Call.{Call}
use Rattle.load.specs.declared.Load.{Load}
use Rattle.load.specs.FillStep.{FillStep}
use Rattle.ways.specs.Rides.{leg, first_ride, rides, first_rides}
use Rattle.offers.specs.Offers.{Timetable, network_of, sorted}
use Rattle.offers.specs.Admitted.{Clear}
use Rattle.counted.specs.Events.{tested, joins_of, offers_of, up_to, past}
use Rattle.counted.specs.Events as by
use Rattle.counted.specs.Joins as by-load
use Rattle.counted.specs.Joins.{join_of, pairs}
use Rattle.counted.proofs.EventLaws as counted
use Rattle.counted.proofs.JoinLaws.{offers-of-events, joins-of-events}
use Rattle.limited.specs.Limited.{offers_within, joins_within, finished_within}
use Rattle.limited.proofs.LimitLaws.{event-joins}
use Rattle.search.specs.Timetable.{timetable_of}
use Rattle.comparison.specs.Admitted.{Feed}
use Rattle.comparison.specs.OfferOrder.{Offer, Each}
use Rattle.comparison.specs.Events.{Event, join, offer, Join, Comes, Stops, Within}
use Rattle.comparison.specs.Feeds.{feed_of}
use Rattle.comparison.proofs.SettingLaws.{Opened}
use Rattle.comparison.proofs.StartLaws.{Start, state_at, same-feed, feed_from}
use Rattle.comparison.proofs.AdmittedLaws.{known, leg-in, leg-out, starts-in, starts-out, origin_walk, transfers}
use Rattle.comparison.proofs.OfferLaws.{by_alone, by_changing, to_j, keys, few-keys}
use Rattle.comparison.proofs.OfferedLaws.{p, KeyOf, key_in, key-mem, gives, given, each-gives}
use Rattle.comparison.proofs.EventLaws.{Keyed, stated, turns, in_turn, stated-offers, stated-joins, stops_so, keyed_of, offers-keyed}
use Rattle.comparison.proofs.EventLaws.{count-keyed, finished-keyed, joins-keyed}
use Rattle.comparison.proofs.WithinLaws.{offer-in, in-offers}

offered-name : (xs : List Keyed) (x : Offer) → Memᴰ x (offers_of xs) → Memᴰ (offer x) (map stated xs)
offered-name xs x m = offer-in (map stated xs) x (subst (Memᴰ x) (sym (stated-offers xs)) m)

name-offered : (xs : List Keyed) (x : Offer) → Memᴰ (offer x) (map stated xs) → Memᴰ x (offers_of xs)
name-offered xs x m = subst (Memᴰ x) (stated-offers xs) (in-offers (map stated xs) x m)

joined : (xs : List Keyed) (j : by-load.Join Call) → Memᴰ j (joins_of xs) → Memᴰ (stated (tested j)) (map stated xs)
joined [] j m = absurd (Memᴰ.not-nil m)
joined (by.offered x ∷ xs) j m = Memᴰ.tail (joined xs j m)
joined (tested i ∷ xs) j m = go (Memᴰ.cases_cons m) (joined xs j)
  where
    go : (j ≡ i) ⊎ Memᴰ j (joins_of xs) → (Memᴰ j (joins_of xs) → Memᴰ (stated (tested j)) (map stated xs))
        → Memᴰ (stated (tested j)) (stated (tested i) ∷ map stated xs)
    go (inl e) ih = Memᴰ.head (λ k. stated (tested (e k)))
    go (inr n) ih = Memᴰ.tail (ih n)

join-in : (xs : List Keyed) (e : Event) → Memᴰ e (map stated xs)
    → ((x : Offer) × (offer x ≡ e)) ⊎ ((j : by-load.Join Call) × Memᴰ j (joins_of xs) × (stated (tested j) ≡ e))
join-in [] e m = absurd (Memᴰ.not-nil m)
join-in (by.offered x ∷ xs) e m = go (Memᴰ.cases_cons m) (join-in xs e)
  where
    go : (e ≡ offer x) ⊎ Memᴰ e (map stated xs) →
        (Memᴰ e (map stated xs) → ((x : Offer) × (offer x ≡ e))
        ⊎ ((j : by-load.Join Call) × Memᴰ j (joins_of xs) × (stated (tested j) ≡ e)))
        → ((x : Offer) × (offer x ≡ e)) ⊎ ((j : by-load.Join Call) × Memᴰ j (joins_of xs) × (stated (tested j) ≡ e))
    go (inl q) ih = inl (x, sym q)
    go (inr n) ih = ih n
join-in (tested i ∷ xs) e m = go (Memᴰ.cases_cons m) (join-in xs e)
  where
    more : ((x : Offer) × (offer x ≡ e)) ⊎ ((j : by-load.Join Call) × Memᴰ j (joins_of xs) × (stated (tested j) ≡ e))
        → ((x : Offer) × (offer x ≡ e)) ⊎ ((j : by-load.Join Call) × Memᴰ j (i ∷ joins_of xs) × (stated (tested j) ≡ e))
    more (inl w) = inl w
    more (inr (j, n, q)) = inr (j, Memᴰ.tail n, q)

    go : (e ≡ stated (tested i)) ⊎ Memᴰ e (map stated xs)
        → (Memᴰ e (map stated xs) → ((x : Offer) × (offer x ≡ e))
        ⊎ ((j : by-load.Join Call) × Memᴰ j (joins_of xs) × (stated (tested j) ≡ e)))
        → ((x : Offer) × (offer x ≡ e)) ⊎ ((j : by-load.Join Call) × Memᴰ j (i ∷ joins_of xs) × (stated (tested j) ≡ e))
    go (inl q) ih = inr (i, Memᴰ.head refl, sym q)
    go (inr n) ih = more (ih n)

module _ (s : Settings) (l : Load) (fs : List FillStep) (w : Start s l fs) (o : Opened s) (clear : Clear (timetable_of l))
    (few : (timetable_of l).max_transfers ≤ 1) where
  abbrev F : Feed
  F = feed_from s l fs

  abbrev t : Timetable
  t = timetable_of l

  abbrev ks : List Keyed
  ks = keyed_of (timetable_of l)

  -- the offers among the events are the keys
  offers-are : offers_of ks ≡ keys t (sorted t)
  offers-are =
      offers-of-events (network_of t) by_alone by_changing t.max_transfers (sorted t)
      ∙ sym (few-keys t (sorted t) (p t clear) t.max_transfers few)

  no_join : t.max_transfers ≡ 0 → joins_of ks ≡ []
  no_join e = joins-of-events (network_of t) by_alone by_changing t.max_transfers (sorted t) ∙ none
    where
      none : cond (eqb t.max_transfers 1) (pairs (first_rides (network_of t) (sorted t)) (rides (network_of t) (sorted t))) [] ≡ []
      none = rw e refl

  one_change : (t.max_transfers ≡ 0) ⊎ (t.max_transfers ≡ 1)
  one_change = go t.max_transfers few
    where
      go : (n : ℕ) → n ≤ 1 → (n ≡ 0) ⊎ (n ≡ 1)
      go zero h = inl refl
      go (suc zero) h = inr refl
      go (suc (suc n)) h = absurd (omega arith)

  join-to : (j : by-load.Join Call) → Memᴰ j (joins_of ks) → Comes F (stated (tested j))
  unfolding timetable_of
  join-to j m = go one_change
    where
      go : (t.max_transfers ≡ 0) ⊎ (t.max_transfers ≡ 1) → Comes F (stated (tested j))
      go (inl e) = absurd (Memᴰ.not-nil (subst (Memᴰ j) (no_join e) m))
      go (inr e) =
          let x = (event-joins t clear e j).0 (subst (Memᴰ j) (joins-keyed t) m) in
          let (k, v) = starts-in s l fs w o j.first.ride.b j.first.o (known s l fs w o j.first.ride.b x.first.from) x.starts in
          record {
            may = omega (arith, transfers s l fs w o, e);
            first = leg-in s l fs w o j.first.ride.b j.first.ride.a x.first;
            origin = k;
            from = v;
            walked = subst (λ (z : ℕ). z * 60 ≤ j.first.ride.b.departure) (origin_walk s l fs w o j.first.o k) x.starts.walked;
            last = leg-in s l fs w o j.last.b j.last.a x.last;
          }

  to-join : (b : Call) (i : ℕ) (a c d : Call) → Join F b i a c d → Memᴰ (join b i a c d) (map stated ks)
  unfolding timetable_of
  to-join b i a c d v = go one_change
    where
      go : (t.max_transfers ≡ 0) ⊎ (t.max_transfers ≡ 1) → Memᴰ (join b i a c d) (map stated ks)
      go (inl e) = absurd (omega (arith, transfers s l fs w o, e, v.may))
      go (inr e) =
          joined ks (join_of (first_ride i b a) (leg c d)) (subst (Memᴰ (join_of (first_ride i b a) (leg c d))) (sym (joins-keyed t))
          ((event-joins t clear e (join_of (first_ride i b a) (leg c d))).1 (record {
            first = leg-out s l fs w o b a v.first;
            starts = starts-out s l fs w o b i v.origin v.from
                (subst (λ (z : ℕ). z * 60 ≤ b.departure) (sym (origin_walk s l fs w o i v.origin)) v.walked);
            last = leg-out s l fs w o c d v.last;
          })))

  comes-in : (e : Event) → Memᴰ e (map stated ks) → Comes F e
  comes-in e m = go (join-in ks e m)
    where
      go : ((x : Offer) × (offer x ≡ e)) ⊎ ((j : by-load.Join Call) × Memᴰ j (joins_of ks) × (stated (tested j) ≡ e)) → Comes F e
      go (inl (x, q)) =
          let k = key_in t clear x (subst (Memᴰ x) offers-are
          (name-offered ks x (subst (λ (z : Event). Memᴰ z (map stated ks)) (sym q) m))) in
          subst (Comes F) q (to_j t x, gives s l fs w o clear x k)
      go (inr (j, n, q)) = subst (Comes F) q (join-to j n)

  in-comes : (e : Event) → Comes F e → Memᴰ e (map stated ks)
  in-comes (join b i a c d) v = to-join b i a c d v
  in-comes (offer x) (j, g) = offered-name ks x (subst (Memᴰ x) (sym offers-are) (key-mem t clear x (given s l fs w o clear x j g)))

  -- what is offered before the stop is offered
  front-keys : (n : ℕ) (x : Offer) → Memᴰ x (offers_of (up_to n ks)) → KeyOf t x
  front-keys n x m =
      let q : offers_of ks ≡ offers_of (up_to n ks) ++ offers_of (past n ks) =
      ap offers_of (counted.stops n ks) ∙ counted.offers-append (up_to n ks) (past n ks) in
      key_in t clear x (subst (Memᴰ x) (sym q ∙ offers-are) (Memᴰ.append_left (offers_of (past n ks)) m))

  within-load : (n : ℕ) → Within F n (offers_within n t) (joins_within n t) (finished_within n t)
  within-load n = record {
    events = map stated ks;
    listed = record { in_turn = in_turn ks (turns t (sorted t) (p t clear) t.max_transfers); all = λ e. (comes-in e, in-comes e) };
    front = map stated (up_to n ks);
    stops = subst (Stops n (map stated ks) (map stated (up_to n ks))) (finished-keyed t n) (stops_so n ks);
    offered = subst (λ (es : List Offer). Each F es (offers_within n t)) (sym (stated-offers (up_to n ks)))
        (subst (Each F (offers_of (up_to n ks))) (offers-keyed t n) (each-gives s l fs w o clear (offers_of (up_to n ks)) (front-keys n)));
    count = stated-joins (up_to n ks) ∙ count-keyed t n;
  }

  pub within-is : (n : ℕ) → Within (feed_of s (state_at l fs)) n (offers_within n (timetable_of l)) (joins_within n (timetable_of l))
      (finished_within n (timetable_of l))
  within-is n = subst (λ (G : Feed). Within G n (offers_within n t) (joins_within n t) (finished_within n t)) (same-feed s l fs w)
      (within-load n)
