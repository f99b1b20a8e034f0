-- The earliest arrival of a ride at a target, and the margin that comes from it.
use Rattle.std.specs.Prelude.{None, Option, Some}
use mathlib.Core.Path.{◌≡◌, refl, sym, ap, ◌∙◌}
use mathlib.Core.Logic.{◌⊎◌, inl, inr}
use mathlib.Core.Bool.{Bool, true, false, cond, false≢true}
use mathlib.Core.List.Memᴰ
use mathlib.Core.List.{List, [], ◌∷◌, map, Memᴰ}
use Prim.Native.Nat.{ℕ, ◌+◌, ◌-◌, ◌≤◌, min}
use native.Mathlib.Omega.{arith}
use lib.Dec.{leb}
use lib.IntN.{pos}
use borrow.Author.Tests.{leb-true, leb-false}
use Rattle.laws.proofs.Bools.{test}
use Rattle.laws.proofs.Folds.{concat_map-mem, mem-concat_map}
use Rattle.ways.specs.Rides.{Leg, leg, rides}
use Rattle.ways.proofs.RideLaws.{Listed, Alone, Changing, rides-mem, mem-rides, journeys-mem}
use Rattle.calls.specs.declared.Call.{Call}
use Rattle.profile.specs.declared.Journey.{Journey}
use Rattle.profile.specs.Best.{bestℤ}
use Rattle.profile.specs.Journeys.{journey_figures}
use Rattle.profile.proofs.FiguresLaws.{figures-order}
use Rattle.profile.proofs.KeptLaws.{run-kept}
use Rattle.offers.specs.Offers.{Timetable, arrival_of, network_of, direct_by, change_by, sorted}
use Rattle.offers.specs.Admitted.{Rides, Ends, Clear}
use Rattle.offers.specs.Search.{Outcome, clashing, falling, found}
use Rattle.offers.proofs.FoundLaws.{rides-found, found-rides, ends_set, set-ends}
use Rattle.limited.specs.Limited.{finished_within, search_within, all_joins}
use Rattle.limited.specs.Margin.{alightings, target_arrivals, least_of, earliest, answer_at0, margin_of, margin_within, Earliest}
use Rattle.limited.specs.Margin.{EarliestIs, AnswerAfter, WithinMargin}
use Rattle.limited.proofs.GrowthLaws.{best-mem}
use Rattle.limited.proofs.LimitLaws.{finished-within, finished-is-full, within-found, best-ordered, journeys_of, within-offer}
use Rattle.limited.proofs.LimitLaws.{larger-never-later}

-- ---- the least of a list

least-le : (xs : List ℕ) (x : ℕ) → Memᴰ x xs → least_of xs ≤ x
least-le [] x m = absurd (Memᴰ.not-nil m)
least-le (y ∷ []) x m = go (Memᴰ.cases_cons m)
  where
    go : (x ≡ y) ⊎ Memᴰ x [] → y ≤ x
    go (inl e) = omega arith
    go (inr n) = absurd (Memᴰ.not-nil n)
least-le (y ∷ z ∷ zs) x m = go (Memᴰ.cases_cons m) (λ n. least-le (z ∷ zs) x n)
  where
    go : (x ≡ y) ⊎ Memᴰ x (z ∷ zs) → (Memᴰ x (z ∷ zs) → least_of (z ∷ zs) ≤ x) → min y (least_of (z ∷ zs)) ≤ x
    go (inl e) ih = omega arith
    go (inr n) ih = let h = ih n in omega arith

least-mem : (xs : List ℕ) (x : ℕ) → Memᴰ x xs → Memᴰ (least_of xs) xs
least-mem [] x m = absurd (Memᴰ.not-nil m)
least-mem (y ∷ []) x m = Memᴰ.head refl
least-mem (y ∷ z ∷ zs) x m = go (test (leb y (least_of (z ∷ zs)))) (least-mem (z ∷ zs) z (Memᴰ.head refl))
  where
    go : (leb y (least_of (z ∷ zs)) ≡ true) ⊎ (leb y (least_of (z ∷ zs)) ≡ false) → Memᴰ (least_of (z ∷ zs)) (z ∷ zs)
        → Memᴰ (min y (least_of (z ∷ zs))) (y ∷ z ∷ zs)
    go (inl e) ih = let q : min y (least_of (z ∷ zs)) ≡ y = omega (arith, leb-true y (least_of (z ∷ zs)) e) in Memᴰ.head q
    go (inr e) ih =
        let q : min y (least_of (z ∷ zs)) ≡ least_of (z ∷ zs) = omega (arith, leb-false y (least_of (z ∷ zs)) e) in
        rw q (Memᴰ.tail ih)

-- ---- the rides at targets

module _ (t : Timetable) (e : Clear t) where
  alight-mem : (b a : Call) → Rides t.calls b a → Memᴰ a (alightings t)
  unfolding alightings
  alight-mem b a r = Memᴰ.map (λ r. r.a) (mem-rides (network_of t) (sorted t) (leg b a) (found-rides t e b a r))

  mem-alight : (a : Call) → Memᴰ a (alightings t) → (b : Call) × Rides t.calls b a
  unfolding alightings
  mem-alight a m =
      let (r, i, q) = Memᴰ.of_map (λ r. r.a) (rides (network_of t) (sorted t)) m in
      rw (← q) (r.b, rides-found t e r.b r.a (rides-mem (network_of t) (sorted t) r i))

  arrival-mem : (b a : Call) (k : ℕ) → Rides t.calls b a → Ends t a k → Memᴰ (arrival_of t k a.arrival) (target_arrivals t)
  unfolding target_arrivals
  arrival-mem b a k r x =
      mem-concat_map (λ a. map (λ k. arrival_of t k a.arrival) ((network_of t).targets a)) (alight-mem b a r)
      (Memᴰ.map (λ k. arrival_of t k a.arrival) (set-ends t a k x))

  mem-arrival : (x : ℕ) → Memᴰ x (target_arrivals t)
      → (b : Call) × (a : Call) × (k : ℕ) × Rides t.calls b a × Ends t a k × (arrival_of t k a.arrival ≡ x)
  unfolding target_arrivals
  mem-arrival x m =
      let (a, i, n) = concat_map-mem (λ a. map (λ k. arrival_of t k a.arrival) ((network_of t).targets a)) (alightings t) m in
      let (k, j, q) = Memᴰ.of_map (λ k. arrival_of t k a.arrival) ((network_of t).targets a) n in
      let (b, r) = mem-alight a i in
      (b, a, k, r, ends_set t a j, q)

  earliest-at : (b a : Call) (k : ℕ) → Rides t.calls b a → Ends t a k → Earliest t (earliest t)
  unfolding earliest
  earliest-at b a k r x =
      let (c, d, i, u, v, q) =
      mem-arrival (least_of (target_arrivals t)) (least-mem (target_arrivals t) (arrival_of t k a.arrival) (arrival-mem b a k r x)) in
      record {
        b = c;
        a = d;
        k = i;
        ride = u;
        ends = v;
        arrives = q;
        least = λ c d i u v. least-le (target_arrivals t) (arrival_of t i d.arrival) (arrival-mem c d i u v);
      }

  -- an offer ends with a ride at a target
  offer-after : (j : Journey) → Memᴰ j (journeys_of t) → Earliest t (earliest t) × (earliest t ≤ j.arrival)
  offer-after j m = go (journeys-mem (network_of t) (direct_by t) (change_by t) t.max_transfers (sorted t) j m)
    where
      last : (r : Leg Call) (k : ℕ) → Listed (network_of t) (sorted t) r → Memᴰ k ((network_of t).targets r.a)
          → j.arrival ≡ arrival_of t k r.a.arrival
          → Earliest t (earliest t) × (earliest t ≤ j.arrival)
      last r k l m q =
          let u = rides-found t e r.b r.a l in
          let x = ends_set t r.a m in
          let w = earliest-at r.b r.a k u x in
          let h = w.least r.b r.a k u x in
          (w, omega (arith, h))

      go : Alone (network_of t) (direct_by t) (change_by t) t.max_transfers (sorted t) j
          ⊎ Changing (network_of t) (direct_by t) (change_by t) t.max_transfers (sorted t) j
          → Earliest t (earliest t) × (earliest t ≤ j.arrival)
      go (inl w) = last w.f.ride w.k w.ride w.target (ap (λ (i : Journey). i.arrival) w.is)
      go (inr w) = last w.l w.k w.last w.target (ap (λ (i : Journey). i.arrival) w.is)

pub earliest-is : EarliestIs
earliest-is t e b a k r x = earliest-at t e b a k r x

-- ---- answers

answered : (o : Outcome) (j : Journey) → answer_at0 o ≡ Some j
    → (ks : List Journey) × (h : ℕ) × (l : ℕ) × (o ≡ found ks h l) × (bestℤ journey_figures ks h (pos 0) ≡ Some j)
answered clashing j e = absurd (false≢true cc)
answered falling j e = absurd (false≢true cc)
answered (found ks h l) j e = (ks, h, l, refl, e)

-- an answer of a search within a limit is one of its offers
answer-after : (n : ℕ) (t : Timetable) (h₀ l₀ h l : ℕ) (ks : List Journey) (j : Journey) → search_within n t h₀ l₀ ≡ found ks h l
    → bestℤ journey_figures ks h (pos 0) ≡ Some j
    → Earliest t (earliest t) × (earliest t ≤ j.arrival)
answer-after n t h₀ l₀ h l ks j e b =
    let (clear, k, w, q) = within-found n t h₀ l₀ h l ks e in
    let b' : bestℤ journey_figures k h (pos 0) ≡ Some j = sym (best-ordered k h (pos 0)) ∙ (rw q at b) in
    let m = best-mem journey_figures k h j b' in
    offer-after t clear j (within-offer n t ((run-kept (figures-order journey_figures) 64 3600 (omega arith) h₀ l₀ _ k h l w).3 j m).0)

pub answer-after-earliest : AnswerAfter
answer-after-earliest n t h l j e =
    let (ks, h', l', q, b) = answered (search_within n t h l) j e in
    answer-after n t h l h' l' ks j q b

-- ---- the margin

margin-of : (t : Timetable) (o : Option Journey) (m : ℕ) → margin_of t o ≡ Some m
    → (j : Journey) × (o ≡ Some j) × (m ≡ j.arrival - earliest t)
margin-of t None m e = absurd (false≢true cc)
margin-of t (Some j) m e = (j, refl, cc)

margin-answer : (n : ℕ) (t : Timetable) (h l m : ℕ) → margin_within n t h l ≡ Some m
    → (j : Journey) × (answer_at0 (search_within n t h l) ≡ Some j) × (m ≡ j.arrival - earliest t)
unfolding margin_within
margin-answer n t h l m e = go (finished_within n t) e
  where
    go : (b : Bool) → cond b None (margin_of t (answer_at0 (search_within n t h l))) ≡ Some m
        → (j : Journey) × (answer_at0 (search_within n t h l) ≡ Some j) × (m ≡ j.arrival - earliest t)
    go true e = absurd (false≢true cc)
    go false e = margin-of t (answer_at0 (search_within n t h l)) m e

pub within-margin : WithinMargin
within-margin n t h₀ l₀ m ks h l one e f =
    let (j, a, q) = margin-answer n t h₀ l₀ m e in
    let (ks', h', l', s, b) = answered (search_within n t h₀ l₀) j a in
    let all = n + all_joins t in
    let full : search_within all t h₀ l₀ ≡ found ks h l = finished-is-full all t h₀ l₀ one ((finished-within all t).1 (omega arith)) ∙ f in
    let (j', p, d) = larger-never-later n all t h₀ l₀ ks' ks h' h l' l (omega arith) s full j b in
    let low = (answer-after all t h₀ l₀ h l ks j' full p).1 in
    (j, j', a, p, d, omega arith)
