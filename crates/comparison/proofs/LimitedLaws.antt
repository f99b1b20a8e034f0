-- What request 12 claims beside the demands.
use Rattle.refusal.specs.declared.Accepted.TheVariants.{Taken}
use Rattle.std.specs.Prelude.{None, Option, Some, is_some, Ok}
use Prim.Native.Nat.{ℕ, ◌+◌, ◌-◌, ◌≤◌, min}
use native.Mathlib.Omega.{arith}
use mathlib.Core.Path.{◌≡◌, refl, sym, ap, subst, ◌∙◌}
use mathlib.Core.Bool.{Bool, true, false, cond, true≢false}
use Rattle.laws.proofs.Options.{none-ne-some, some-injective}
use mathlib.Core.List.{List}
use lib.Dec.{leb}
use lib.IntN.{pos}
use borrow.Author.Tests.{leb-true, leb-false}
use Rattle.laws.proofs.Bools.{cond-not, cond-by}
use Rattle.refusal.specs.First.{is_taken, Answer}
use Rattle.profile.specs.declared.Journey.{Journey}
use Rattle.profile.specs.Best.{bestℤ}
use Rattle.profile.specs.Journeys.{journey_figures}
use Rattle.offers.specs.Offers.{Timetable}
use Rattle.limited.specs.Limited.{offers_within, joins_within, finished_within, all_joins}
use Rattle.limited.specs.Margin as limited
use Rattle.limited.specs.Margin.{earliest, margin_of, margin_within, answer_at0}
use Rattle.limited.proofs.LimitLaws.{count-within, finished-within, larger-never-later}
use Rattle.limited.proofs.MarginLaws.{answer-after-earliest, within-margin}
use Rattle.load.specs.declared.Load.{Load}
use Rattle.load.specs.Load.{stopped}
use Rattle.load.specs.Steps.{Opening}
use Rattle.load.specs.Sound.{Opens, Sound}
use Rattle.best.specs.Best.{answer_of, best_spec, kept_of}
use Rattle.margin.specs.Stopped.{margin_from, margin_spec}
use Rattle.search.specs.Timetable.{timetable_of}
use Rattle.search.specs.Search.{with_found, with_journeys, search_spec}
use Rattle.search.specs.Within.{Answered, outcome_within, finishes_in, within_found, within_spec}
use Rattle.search.proofs.WithinLaws.{FoundIn, taken-within, within-taken, within-sound, finished-is-search}
use Rattle.again.specs.Again.{unsearched_of}
use Rattle.again.specs.Claims.{Kept}
use Rattle.again.proofs.OwnLaws.{own-stopped, own-unfinished}
use Rattle.steps.specs.Steps.{Step}
use Rattle.steps.specs.Lists.{end_of}
use Rattle.steps.proofs.StepLaws.{best-asks, found-kept, taken-searches}
use Rattle.steps.proofs.WithdrawnLaws.{end_kept}
use Rattle.search.proofs.SearchSound.{search-sound}
use Rattle.again.proofs.SoundLaws.{unsearched-sound}
use Rattle.comparison.specs.Taken.{State, fresh}
use Rattle.comparison.specs.Feeds.{feed_of}
use Rattle.comparison.specs.Events.{Within, Earliest}
use Rattle.comparison.specs.Runs.{Runs}
use Rattle.comparison.specs.Limited.{at_zero_of, NoLater, limited_by, MarginOf, Limits}
use Rattle.comparison.proofs.SettingLaws.{opens}
use Rattle.comparison.proofs.StartLaws.{state_at}
use Rattle.comparison.proofs.AsideLaws.{apart, apart-like}
use Rattle.comparison.proofs.WithinLaws.{offered_if, counted_of, all_offered}
use Rattle.comparison.proofs.MarginLaws.{earliest-in, earliest-like}
use Rattle.comparison.proofs.SearchStepLaws.{limited-here}
use Rattle.comparison.proofs.OwnLaws.{outcome-is}
use Rattle.comparison.proofs.DemandLaws.{whole, ending, ends_so}

-- ---- what it tells

told : (o : Opening) (xs : List Step) (rs : List Answer) (v : State) (n : ℕ) → Opens o → Runs o.settings (fresh o.dates) xs rs v
    → (limited_by o xs n).answer ≡ Ok Taken → (os : List Journey)
    × Within (feed_of o.settings v) n os (limited_by o xs n).joins (limited_by o xs n).finished
unfolding finishes_in
told o xs rs v n w run a =
    let l = end_of o xs in
    let t : is_taken (within_spec l n).answer ≡ true = ap is_taken a in
    let f = limited-here o.settings (opens o w) l (whole o w xs).taken ((whole o w xs).stands.new (taken-within l n t).new) n t in
    let k = within-taken l n a in
    let os = offers_within n (timetable_of (end_of o xs)) in (
      offers_within n (timetable_of (end_of o xs)),
      subst (λ (z : State). Within (feed_of o.settings z) n os (within_spec l n).joins (within_spec l n).finished) (ends_so o w xs rs v run)
          (subst (λ (b : Bool). Within (feed_of o.settings (ending o w xs)) n os (within_spec l n).joins b) (sym k.says)
          (subst (λ (i : ℕ). Within (feed_of o.settings (ending o w xs)) n os i (finished_within n (timetable_of l))) (sym k.counts) f)),
    )

full : (o : Opening) (xs : List Step) (n : ℕ) → (limited_by o xs n).answer ≡ Ok Taken → (limited_by o xs n).finished ≡ true
    → search_spec (end_of o xs) ≡ record { answer = Ok Taken; load = (limited_by o xs n).load }
full o xs n a f =
    let l = end_of o xs in
    sym (finished-is-search l n (taken-within l n (ap is_taken a)).one (sym (within-taken l n a).says ∙ f))
    ∙ (λ i. record { answer = a i; load = (within_spec l n).load })

stops : (o : Opening) (xs : List Step) (n : ℕ) → (limited_by o xs n).answer ≡ Ok Taken → (limited_by o xs n).finished ≡ false
    → (limited_by o xs n).load.limit ≡ Some n
stops o xs n a f = let k = within-taken (end_of o xs) n a in k.holds ∙ cond-not _ _ (sym k.says ∙ f)

-- a stopped load tested as many joins as its limit
tested-limit : (n : ℕ) (l : Load) → finishes_in l n ≡ false → joins_within n (timetable_of l) ≡ n
unfolding finishes_in
tested-limit n l e = count-within n (timetable_of l) ∙ least (leb (all_joins (timetable_of l)) n) refl
  where
    least : (b : Bool) → leb (all_joins (timetable_of l)) n ≡ b → min n (all_joins (timetable_of l)) ≡ n
    least true q = absurd (true≢false (sym ((finished-within n (timetable_of l)).1 (leb-true (all_joins (timetable_of l)) n q)) ∙ e))
    least false q = omega (arith, leb-false (all_joins (timetable_of l)) n q)

afresh : (o : Opening) (xs : List Step) (n : ℕ) → (end_of o xs).limit ≡ Some n
    → within_spec (unsearched_of (end_of o xs)) n ≡ record { answer = Ok Taken; load = end_of o xs; joins = n; finished = false }
afresh o xs n e =
    let k = own-stopped (end_of o xs) (end_kept o xs) n e in
    k.is ∙ (λ i. record { answer = Ok Taken; load = end_of o xs; joins = tested-limit n (end_of o xs) k.unfinished i; finished = false })

-- ---- second 0

at_zero : (l : Load) → Sound l → l.searched ≡ true → at_zero_of l ≡ bestℤ journey_figures (kept_of l) l.horizon (pos 0)
at_zero l s e = best-asks l s e (pos 0)

-- what an accepted search within a limit found
module _ (l : Load) (n : ℕ) (s : Sound l) (t : (within_spec l n).answer ≡ Ok Taken) where
  w : FoundIn l n
  w = taken-within l n (ap is_taken t)

  load_is : within_found l n w.kept w.to w.mark ≡ (within_spec l n).load
  load_is = ap (λ (r : Answered). r.load) (sym w.is)

  kept-is : (b : Bool) → kept_of (cond b (with_journeys l w.kept w.to w.mark) (with_found l w.kept w.to w.mark (Some n))) ≡ w.kept
  kept-is true = found-kept l w.kept w.to w.mark None
  kept-is false = found-kept l w.kept w.to w.mark (Some n)

  to_is : (b : Bool) → (cond b (with_journeys l w.kept w.to w.mark) (with_found l w.kept w.to w.mark (Some n))).horizon ≡ w.to
  to_is true = refl
  to_is false = refl

  zero-within : at_zero_of (within_spec l n).load ≡ bestℤ journey_figures w.kept w.to (pos 0)
  zero-within =
      at_zero (within_spec l n).load (within-sound l n s) (within-taken l n t).searched
      ∙ (λ i. bestℤ journey_figures ((ap kept_of (sym load_is) ∙ kept-is (finishes_in l n)) i)
      ((ap (λ (m : Load). m.horizon) (sym load_is) ∙ to_is (finishes_in l n)) i) (pos 0))

larger : (o : Opening) (xs : List Step) (n m : ℕ) (j : Journey) → n ≤ m → (limited_by o xs n).answer ≡ Ok Taken
    → (limited_by o xs m).answer ≡ Ok Taken
    → at_zero_of (limited_by o xs n).load ≡ Some j → NoLater (limited_by o xs m).load j
unfolding outcome_within
larger o xs n m j h a b z =
    let l = end_of o xs in
    let s = (end_kept o xs).sound in
    let x = w l n s a in
    let y = w l m s b in
    let (j', k, g) = larger-never-later n m (timetable_of l) l.table_horizon l.table_limits x.kept y.kept x.to y.to x.mark y.mark h
    x.outcome y.outcome j (sym (zero-within l n s a) ∙ z) in
    record { j' = j'; there = zero-within l m s b ∙ k; no_later = g }

-- ---- the margin

-- of the table of a searched load, by what was taken
earliest-end : (o : Opening) (w : Opens o) (xs : List Step) → (end_of o xs).searched ≡ true → (m : ℕ)
    → limited.Earliest (timetable_of (unsearched_of (end_of o xs))) m → Earliest (feed_of o.settings (ending o w xs)) m
unfolding unsearched_of
earliest-end o w xs d m v =
    let l = end_of o xs in
    let gs = (whole o w xs).taken in
    earliest-like o.settings (state_at (unsearched_of (end_of o xs)) gs) (apart gs) gs m (apart-like gs)
    (earliest-in o.settings (unsearched_of (end_of o xs)) (apart gs) ((whole o w xs).stands.done d) (opens o w) m v)

margin-found : (l : Load) (j : Journey) (n : ℕ) → l.limit ≡ Some n → at_zero_of l ≡ Some j
    → margin_spec l ≡ Some (j.arrival - earliest (timetable_of l))
unfolding margin_spec margin_from
margin-found l j n e z = cond-by _ _ (ap is_some e) ∙ go (best_spec l (pos 0)) z
  where
    go : (f : Option Journey) → answer_of f ≡ Some j → margin_from (timetable_of l) f ≡ Some (j.arrival - earliest (timetable_of l))
    go (Some k) q = ap (λ (i : Journey). Some (i.arrival - earliest (timetable_of l))) (some-injective k j q)
    go None q = absurd (none-ne-some j q)

no_margin : (l : Load) → at_zero_of l ≡ None → margin_spec l ≡ None
unfolding margin_spec margin_from
no_margin l z = go (stopped l) (best_spec l (pos 0)) z
  where
    go : (b : Bool) (f : Option Journey) → answer_of f ≡ None → cond b (margin_from (timetable_of l) f) None ≡ None
    go true (Some k) q = absurd (none-ne-some k (sym q))
    go true None q = refl
    go false f q = refl

no_margin_finished : (l : Load) → l.limit ≡ None → margin_spec l ≡ None
unfolding margin_spec
no_margin_finished l e = cond-not _ _ (ap is_some e)

-- the load is the search of its own table within its limit
module _ (l : Load) (k : Kept l) (n : ℕ) (e : l.limit ≡ Some n) (j : Journey) (z : at_zero_of l ≡ Some j) where
  abbrev u : Load
  u = unsearched_of l

  same-table : timetable_of u ≡ timetable_of l
  unfolding timetable_of unsearched_of
  same-table = refl

  zero-own : answer_at0 (outcome_within u n) ≡ Some j
  zero-own = ap answer_at0 (outcome-is l k n e) ∙ sym (at_zero l k.sound (k.sound.stopped_search (ap is_some e))) ∙ z

  after : limited.Earliest (timetable_of u) (earliest (timetable_of u)) × (earliest (timetable_of u) ≤ j.arrival)
  unfolding outcome_within
  after = answer-after-earliest n (timetable_of u) u.table_horizon u.table_limits j zero-own

  margin-own : margin_within n (timetable_of u) u.table_horizon u.table_limits ≡ Some (j.arrival - earliest (timetable_of u))
  unfolding margin_within outcome_within finishes_in
  margin-own = cond-not _ _ (own-unfinished l k.sound (k.own (k.sound.stopped_search (ap is_some e))) n e)
      ∙ ap (margin_of (timetable_of u)) zero-own

  few : (timetable_of u).max_transfers ≤ 1
  unfolding timetable_of unsearched_of
  few = k.sound.stopped_change (ap is_some e)

  -- where the full search is accepted
  finished-answer : (search_spec u).answer ≡ Ok Taken
      → (w : NoLater (search_spec u).load j) × (j.arrival ≤ w.j'.arrival + (j.arrival - earliest (timetable_of u)))
  unfolding outcome_within
  finished-answer t =
      let f = taken-searches u (ap is_taken t) in
      let s = search-sound u (unsearched-sound l k.sound) in
      let (i, j', a, b, c, d) = within-margin n (timetable_of u) u.table_horizon u.table_limits (j.arrival - earliest (timetable_of u))
      (kept_of (search_spec u).load) (search_spec u).load.horizon (search_spec u).load.limits
      few margin-own f.finds.is in
      let q : i ≡ j = some-injective i j (sym a ∙ zero-own) in (
        record {
          j' = j';
          there = at_zero (search_spec u).load s f.searched ∙ b;
          no_later = subst (λ (x : Journey). j'.arrival ≤ x.arrival) q c;
        },
        subst (λ (x : Journey). x.arrival ≤ j'.arrival + (j.arrival - earliest (timetable_of u))) q d,
      )

margin : (o : Opening) (xs : List Step) (rs : List Answer) (v : State) (j : Journey) → Opens o → Runs o.settings (fresh o.dates) xs rs v
    → (n : ℕ) → (end_of o xs).limit ≡ Some n → at_zero_of (end_of o xs) ≡ Some j → MarginOf (feed_of o.settings v) (end_of o xs) j
margin o xs rs v j w run n e z =
    let l = end_of o xs in
    let k = end_kept o xs in
    let gs = (whole o w xs).taken in
    let d = k.sound.stopped_search (ap is_some e) in
    record {
      earliest = earliest (timetable_of (unsearched_of l));
      is_earliest = subst (λ (t : State). Earliest (feed_of o.settings t) (earliest (timetable_of (unsearched_of l))))
          (ends_so o w xs rs v run)
          (earliest-end o w xs d (earliest (timetable_of (unsearched_of l))) (after l k n e j z).0);
      no_earlier = (after l k n e j z).1;
      margin = margin-found l j n e z ∙ ap (λ (t : Timetable). Some (j.arrival - earliest t)) (sym (same-table l k n e j z));
      finished = finished-answer l k n e j z;
    }

pub limits : Limits
limits = record {
  told = told;
  offered_if = λ s t. offered_if (feed_of s t);
  counted = λ s t. counted_of (feed_of s t);
  all_offered = λ s t. all_offered (feed_of s t);
  full = full;
  stops = stops;
  afresh = afresh;
  margin = margin;
  no_margin = no_margin;
  no_margin_finished = no_margin_finished;
  larger = larger;
}
