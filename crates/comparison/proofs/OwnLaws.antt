-- A searched load is the search of its own unsearched load: what it lists, and how far its horizon fell, by the offers of that.
use Prim.Native.Nat.{ℕ, ◌≤◌}
use mathlib.Core.Path.{◌≡◌, refl, sym, ap, subst, ◌∙◌}
use mathlib.Core.Logic.{◌↔◌}
use mathlib.Core.Bool.{true}
use mathlib.Core.List.Permᴰ
use mathlib.Core.List.{List, [], Memᴰ}
use Rattle.std.specs.Prelude.{is_some, None, Some}
use Rattle.laws.proofs.Bools.{cond-not}
use Rattle.laws.proofs.Sort.{sort-perm}
use Rattle.refusal.specs.First.{is_taken}
use Rattle.profile.specs.declared.Journey.{Journey}
use Rattle.profile.specs.Figures.{covᶠ, dueᶠ}
use Rattle.profile.specs.Front.{front}
use Rattle.profile.specs.Fall.{Ends, up_to, never, fall}
use Rattle.profile.specs.Best.{ordered}
use Rattle.profile.specs.Journeys.{journey_figures}
use Rattle.offers.specs.Order.{earlier, in_order_of}
use Rattle.offers.specs.Offers.{Timetable, with_calls, offers}
use Rattle.offers.specs.Admitted as by
use Rattle.offers.specs.Admitted.{Clear}
use Rattle.offers.specs.Search.{found, ends_by_of}
use Rattle.offers.proofs.SearchLaws.{search-found, search-by-offers}
use Rattle.offers.proofs.AnyOrder.{admitted-in-any-order}
use Rattle.offers.proofs.OfferLaws.{offers-ahead}
use Rattle.offers.proofs.RouteLaws.{offers-up-to-one}
use Rattle.load.specs.declared.Load.{Load}
use Rattle.load.specs.declared.StepResult.{StepResult}
use Rattle.load.specs.Steps.{Opening}
use Rattle.best.specs.Best.{kept_of}
use Rattle.search.specs.Timetable.{timetable_of}
use Rattle.search.specs.Search.{with_found, search_spec}
use Rattle.search.specs.Within.{Answered, outcome_within}
use Rattle.search.proofs.WithinLaws.{FoundIn, taken-within, within-clear}
use Rattle.limited.specs.Limited.{offers_within}
use Rattle.limited.proofs.LimitLaws.{within-by-offers, within-offer}
use Rattle.again.specs.Again.{unsearched_of}
use Rattle.again.specs.Claims.{Kept}
use Rattle.again.proofs.OwnLaws.{own-unfinished, own-finished, own-stopped}
use Rattle.steps.specs.Steps.{Step}
use Rattle.steps.specs.Lists.{end_of, start_of}
use Rattle.again.proofs.SoundLaws.{unsearched-sound}
use Rattle.search.proofs.RunLaws.{sound-timed}
use Rattle.steps.proofs.StepLaws.{sound-in-time, Finds, found-kept, taken-searches}
use Rattle.steps.proofs.WithdrawnLaws.{end-from}

-- of these offers
pub record OwnFound (l : Load) (os : List Journey) : Type 0 where
  pub clear : Clear (timetable_of (unsearched_of l))
  pub unbeaten : kept_of l ≡ ordered journey_figures (front (covᶠ journey_figures) (dueᶠ journey_figures) l.horizon os)
  pub fell : fall (covᶠ journey_figures) (dueᶠ journey_figures) 64 3600 l.table_horizon l.table_limits [] os ≡ up_to l.horizon l.limits

-- the offers of the load's own search, in full and within the limit n
abbrev pub own_offers : Load → List Journey
own_offers l = offers (timetable_of (unsearched_of l))

abbrev pub own_within : ℕ → Load → List Journey
own_within n l = offers_within n (timetable_of (unsearched_of l))

-- by where the offers lead
record Led (os ks : List Journey) (e : Ends) (h m : ℕ) : Type 0 where
  at : e ≡ up_to h m
  list : ks ≡ ordered journey_figures (front (covᶠ journey_figures) (dueᶠ journey_figures) h os)

led : (os ks : List Journey) (e : Ends) (h m : ℕ) → ends_by_of os e ≡ found ks h m → Led os ks e h m
led os ks (up_to h' m') h m q =
    let eh : h' ≡ h = cc in
    let em : m' ≡ m = cc in
    let ek : ordered journey_figures (front (covᶠ journey_figures) (dueᶠ journey_figures) h' os) ≡ ks = cc in
    record {
      at = λ j. up_to (eh j) (em j);
      list = sym ek
          ∙ ap (λ (g : ℕ). ordered journey_figures (front (covᶠ journey_figures) (dueᶠ journey_figures) g os)) eh;
    }
led os ks never h m q = absurd (cc)

led-found : (l : Load) (os : List Journey) → Clear (timetable_of (unsearched_of l))
    → ends_by_of os (fall (covᶠ journey_figures) (dueᶠ journey_figures) 64 3600 l.table_horizon l.table_limits [] os)
    ≡ found (kept_of l) l.horizon l.limits → OwnFound l os
led-found l os clear e =
    let v = led os (kept_of l) (fall (covᶠ journey_figures) (dueᶠ journey_figures) 64 3600 l.table_horizon l.table_limits [] os) l.horizon
    l.limits e in
    record { clear = clear; unbeaten = v.list; fell = v.at }

pub own-found : (l : Load) → Kept l → l.searched ≡ true → l.limit ≡ None → OwnFound l (own_offers l)
unfolding unsearched_of
own-found l k d b =
    let own = own-finished l k d b in
    let t : is_taken (search_spec (unsearched_of l)).answer ≡ true = ap (λ (r : StepResult). is_taken r.answer) own in
    let f = subst (Finds (unsearched_of l)) (ap (λ (r : StepResult). r.load) own) (taken-searches (unsearched_of l) t).finds in
    let clear = (search-found (timetable_of (unsearched_of l)) _ _ _ _ _ f.is).0 in
    led-found l (own_offers l) clear (sym (cond-not _ _ clear)
    ∙ sym (search-by-offers (timetable_of (unsearched_of l)) l.table_horizon l.table_limits) ∙ f.is)

-- of a load that was stopped at the limit n
module _ (l : Load) (k : Kept l) (n : ℕ) (e : l.limit ≡ Some n) where
  w : FoundIn (unsearched_of l) n
  w = taken-within (unsearched_of l) n (ap (λ (r : Answered). is_taken r.answer) (own-stopped l k n e).is)

  load_is : with_found (unsearched_of l) w.kept w.to w.mark (Some n) ≡ l
  load_is = sym (ap (λ (r : Answered). r.load) w.is
      ∙ cond-not _ _ (own-unfinished l k.sound (k.own (k.sound.stopped_search (ap is_some e))) n e))
      ∙ ap (λ (r : Answered). r.load) (own-stopped l k n e).is

  pub outcome-is : outcome_within (unsearched_of l) n ≡ found (kept_of l) l.horizon l.limits
  outcome-is =
      w.outcome
      ∙ (λ i. found (sym (found-kept (unsearched_of l) w.kept w.to w.mark (Some n)) i) w.to w.mark)
      ∙ (λ i. found (kept_of (load_is i)) (load_is i).horizon (load_is i).limits)

  pub stopped-found : OwnFound l (own_within n l)
  unfolding unsearched_of outcome_within
  stopped-found =
      let clear : Clear (timetable_of (unsearched_of l)) = within-clear (unsearched_of l) n w.kept w.to w.mark w.outcome in
      led-found l (own_within n l) clear (sym (cond-not _ _ clear)
      ∙ sym (within-by-offers n (timetable_of (unsearched_of l)) l.table_horizon l.table_limits) ∙ outcome-is)

own-reads : (l : Load) → timetable_of (unsearched_of l) ≡ timetable_of l
unfolding unsearched_of timetable_of
own-reads l = refl

-- what the last accepted search started from admits what the load's own table does
pub own-admits : (o : Opening) (xs : List Step) → (end_of o xs).searched ≡ true → (j : Journey)
    → by.Admitted (timetable_of (start_of o xs)) j ↔ by.Admitted (timetable_of (unsearched_of (end_of o xs))) j
own-admits o xs d j =
    let p = timetable_of (start_of o xs) in
    let is : timetable_of (unsearched_of (end_of o xs))
    ≡ with_calls (timetable_of (start_of o xs)) (in_order_of (timetable_of (start_of o xs)).calls) =
    own-reads (end_of o xs) ∙ end-from o xs d in
    subst (λ (t : Timetable). by.Admitted (timetable_of (start_of o xs)) j ↔ by.Admitted t j) (sym is)
    (admitted-in-any-order (timetable_of (start_of o xs)) (in_order_of (timetable_of (start_of o xs)).calls)
    (Permᴰ.symm (sort-perm earlier (timetable_of (start_of o xs)).calls)) j)

-- ---- no offer leaves after it arrives

pub own-ahead : (l : Load) → Kept l → Clear (timetable_of (unsearched_of l)) → (j : Journey) → Memᴰ j (own_offers l) → j.leave ≤ j.arrival
own-ahead l k clear j m =
    let u = unsearched_of l in
    offers-ahead (timetable_of (unsearched_of l)) clear (sound-timed (unsearched_of l) (unsearched-sound l k.sound))
    (sound-in-time (unsearched_of l)) j m

reads-few : (l : Load) → l.settings.max_transfers ≤ 1 → (timetable_of (unsearched_of l)).max_transfers ≤ 1
unfolding unsearched_of timetable_of
reads-few l h = h

pub within-ahead : (l : Load) → Kept l → (n : ℕ) → l.limit ≡ Some n → (j : Journey) → Memᴰ j (own_within n l) → j.leave ≤ j.arrival
within-ahead l k n e j m =
    own-ahead l k (stopped-found l k n e).clear j
    (subst (Memᴰ j) (sym (offers-up-to-one (timetable_of (unsearched_of l)) (reads-few l (k.sound.stopped_change (ap is_some e)))))
    (within-offer n (timetable_of (unsearched_of l)) m))
