-- The three demands are met: demands 2 and 3 follow from what a searched load holds and when best agrees.
use Rattle.refusal.specs.First.{Answer}
use Rattle.std.specs.Prelude.{None, Option, Some, is_some}
use mathlib.Core.Path.{◌≡◌, refl, sym, ap, subst, ◌∙◌}
use mathlib.Core.Logic.{◌⊎◌, inl, inr, ◌↔◌}
use mathlib.Core.Bool.{Bool, true, false, cond}
use mathlib.Core.List.{List, [], ◌∷◌}
use Prim.Native.Nat.{ℕ, ◌+◌, ◌≤◌, min}
use native.Mathlib.Omega.{arith}
use lib.Dec.{ltb}
use lib.IntN.{ℤ, pos, negsuc}
use lib.Signed.{lt_z}
use lib.ListN.{take}
use borrow.Author.Tests.{ltb-true, ltb-false}
use Rattle.settings.specs.declared.Settings.{Settings}
use Rattle.calls.specs.Shown.{table_calls}
use Rattle.profile.specs.declared.Journey.{Journey}
use Rattle.profile.specs.Best.{read_by}
use Rattle.profile.specs.Journeys.{journey_figures}
use Rattle.offers.specs.Covered.{I64, CoveredBy}
use Rattle.offers.specs.Order.{in_order_of}
use Rattle.offers.specs.Admitted as by
use Rattle.offers.proofs.OfferLaws.{offers-admitted}
use Rattle.offers.proofs.OrderLaws.{put-in-order}
use Rattle.load.specs.declared.Load.{Load}
use Rattle.load.specs.Load.{table_of, stopped}
use Rattle.load.specs.Steps.{Opening, open_tests, open_answer, opened, open_spec_of}
use Rattle.load.specs.FillStep.{FillStep, stop, call, rule, service, exception}
use Rattle.load.specs.Sound.{Opens, Sound}
use Rattle.best.specs.Best.{kept_of, after_of, next_spec}
use Rattle.search.specs.Timetable.{timetable_of}
use Rattle.again.specs.Again.{unsearched_of}
use Rattle.again.specs.Claims.{Kept}
use Rattle.again.proofs.SearchedLaws.{own-sorted}
use Rattle.again.proofs.OwnLaws.{own-unfinished}
use Rattle.limited.specs.Limited.{joins_within, finished_within}
use Rattle.search.specs.Within.{finishes_in}
use Rattle.steps.specs.Steps.{Step, filling, withdraw, search, limited, numbers}
use Rattle.steps.specs.Lists.{end_of}
use Rattle.steps.specs.Lists as by-load
use Rattle.steps.specs.Answered.{open_numbers}
use Rattle.steps.proofs.HeldLaws.{searched-holds, best-agrees}
use Rattle.steps.proofs.AnsweredLaws.{step-answered, opening-answered}
use Rattle.steps.proofs.StepLaws.{best-asks, best_none}
use Rattle.steps.proofs.HandedLaws.{handed-sound}
use Rattle.time.proofs.Times.{taken as text-taken, answered as text-answered}
use Rattle.comparison.specs.Best.{BestAt}
use Rattle.comparison.specs.Taken.{calls_in, State, fresh, keeping}
use Rattle.comparison.specs.Admitted.{Feed, Admits}
use Rattle.comparison.specs.Feeds.{feed_of}
use Rattle.comparison.specs.Neighbours.{InOrder, Ordered}
use Rattle.comparison.specs.OfferOrder.{Offered}
use Rattle.comparison.specs.Events.{Within}
use Rattle.comparison.specs.Falls.{Falls}
use Rattle.comparison.specs.Causes.{First, numbers_of, date_causes, opening_causes, window_causes, call_front, left_causes, causes_of}
use Rattle.comparison.specs.Runs.{Runs, Admitted, Finished}
use Rattle.comparison.specs.Demands.{answers_from, LaterOf, Queried, answer, calls, Fills, ListOf, Lists, ListsWithin, Demand1, Demand2}
use Rattle.comparison.specs.Demands.{Second, Alike, MatchedBy, Demand3}
use Rattle.comparison.proofs.OrderLaws.{covers-in, covers_out}
use Rattle.comparison.proofs.AlikeLaws.{alike-reads, reads-alike, second-in, in-second, earlier-is}
use Rattle.comparison.proofs.KeptLaws.{front-holds}
use Rattle.comparison.proofs.BestLaws.{best-at}
use Rattle.comparison.proofs.Deciding.{first_matches}
use Rattle.comparison.proofs.OneLaws.{one-runs}
use Rattle.comparison.proofs.SettingLaws.{opens}
use Rattle.comparison.proofs.CauseLaws.{opening-match}
use Rattle.comparison.proofs.StartLaws.{Start, state_at}
use Rattle.comparison.proofs.BagLaws.{shown-perm}
use Rattle.comparison.proofs.AsideLaws.{like-back, apart, apart-like, admits-like, offered-like}
use Rattle.comparison.proofs.AdmittedLaws.{admits}
use Rattle.comparison.proofs.FallLaws.{fall-falls, end_of as ends_at}
use Rattle.comparison.proofs.HorizonLaws.{table-shown, showing}
use Rattle.comparison.proofs.NeighbourLaws.{order-in}
use Rattle.comparison.proofs.OfferedLaws.{offered-is}
use Rattle.comparison.proofs.OwnLaws.{own_offers, own_within, OwnFound, own-found, stopped-found, own-admits}
use Rattle.comparison.proofs.WithinLaws.{within-like, stopped-count}
use Rattle.comparison.proofs.SearchingLaws.{within-here}
use Rattle.comparison.proofs.RunLaws.{Walked, walked, opened-state}

-- ---- 1

queried : (l : Load) → Sound l → (z : ℤ) → Queried l z
unfolding next_spec after_of
queried l p z = record {
  unsearched = λ e. best_none l e z;
  searched = λ e. subst (BestAt (kept_of l) l.horizon z) (sym (best-asks l p e z)) (best-at (kept_of l) l.horizon z);
  next = λ j. (cond (lt_z z (pos (j.leave + 1))) (pos (j.leave + 1)) z, later z (j.leave + 1), refl);
}
  where
    later : (z : ℤ) (k : ℕ) → LaterOf z k (cond (lt_z z (pos k)) (pos k) z)
    later (negsuc n) k = refl
    later (pos n) k = go (ltb n k) refl
      where
        go : (b : Bool) → ltb n k ≡ b → ((n ≤ k) × (cond b (pos k) (pos n) ≡ pos k)) ⊎ ((k ≤ n) × (cond b (pos k) (pos n) ≡ pos n))
        go true e = inl (omega (arith, ltb-true n k e), refl)
        go false e = inr (ltb-false n k e, refl)

opening-first : (o : Opening) → First (open_spec_of o).answer (opening_causes o)
unfolding open_spec_of open_answer
opening-first o = first_matches (open_tests o) (opening_causes o) (opening-match o)

opening_order : (o : Opening) → numbers_of (opening_causes o) ≡ open_numbers o.dates
opening_order o = go o.dates
  where
    go : (d : Option (List ℕ)) → 1 ∷ 2 ∷ numbers_of (date_causes d) ≡ open_numbers d
    go None = refl
    go (Some dates) = refl

pub in_order : (s : Settings) (t : State) (x : Step) → numbers_of (causes_of s t x) ≡ numbers t.searched x
in_order s t (filling (stop id name parent i)) = refl
in_order s t (filling (call name i)) = go t.searched
  where
    go : (b : Bool) → numbers_of (call_front t name i (window_causes b s t name i)) ≡ numbers b (filling (call name i))
    go true = refl
    go false = refl
in_order s t (filling (rule i)) = refl
in_order s t (filling (service name weekdays start to)) = refl
in_order s t (filling (exception name date kind)) = refl
in_order s t (withdraw k) = go t.searched
  where
    go : (b : Bool) → 9 ∷ 24 ∷ numbers_of (left_causes b s t k) ≡ numbers b (withdraw k)
    go true = refl
    go false = refl
in_order s t search = refl
in_order s t (limited n) = refl

module _ (s : Opening) (o : Opens s) (xs : List Step) where
  pub whole : Walked s.settings (opened s) xs []
  whole = walked s o xs

  abbrev pub ending : State
  ending = state_at (end_of s xs) whole.taken

  pub run : Runs s.settings (fresh s.dates) xs (answers_from (opened s) xs) ending
  run = subst (λ (t : State). Runs s.settings t xs (answers_from (opened s) xs) ending) (opened-state s) whole.runs

  -- the state that is related is the load's
  pub ends_so : (rs : List Answer) (v : State) → Runs s.settings (fresh s.dates) xs rs v → ending ≡ v
  ends_so rs v w = (one-runs s.settings (fresh s.dates) xs (answers_from (opened s) xs) rs ending v run w).1

pub demand-1 : Demand1
demand-1 = record {
  texts = (text-taken, text-answered);
  openings = opening-first;
  opening = opening-answered;
  lists = λ s o xs. (ending s o xs, run s o xs);
  only = one-runs;
  order = in_order;
  opening_order = opening_order;
  steps = step-answered;
  queries = λ s o xs z. queried (end_of s xs) (handed-sound s xs o).1 z;
}

-- ---- what the load admits is what is admitted of what was handed in

same-few : (l : Load) → l.settings.max_transfers ≤ 1 → (unsearched_of l).settings.max_transfers ≤ 1
unfolding unsearched_of
same-few l h = h

unfinished-so : (l : Load) → Kept l → (n : ℕ) → l.limit ≡ Some n → finished_within n (timetable_of (unsearched_of l)) ≡ false
unfolding finishes_in
unfinished-so l k n e = own-unfinished l k.sound (k.own (k.sound.stopped_search (ap is_some e))) n e

-- the searched load's own search is of what was taken
module _ (s : Opening) (o : Opens s) (xs : List Step) (d : (end_of s xs).searched ≡ true) where
  abbrev l : Load
  l = end_of s xs

  abbrev u : Load
  u = unsearched_of l

  abbrev gs : List FillStep
  gs = (whole s o xs).taken

  start : Start s.settings (unsearched_of (end_of s xs)) (apart (whole s o xs).taken)
  start = (whole s o xs).stands.done d

  -- in the order in which the calls were taken
  same-feeds : feed_of s.settings (keeping (state_at u gs) gs) ≡ feed_of s.settings (ending s o xs)
  unfolding unsearched_of
  same-feeds = refl

  admits-so : (j : Journey) → by.Admitted (timetable_of u) j ↔ Admits (feed_of s.settings (ending s o xs)) j
  admits-so j =
      let f = admits s.settings u (apart gs) start (opens s o) j in (
        λ a. subst (λ (G : Feed). Admits G j) same-feeds (admits-like s.settings (state_at u gs) (apart gs) gs (apart-like gs) j (f.0 a)),
        λ a. f.1 (admits-like s.settings (state_at u gs) gs (apart gs) (like-back (apart-like gs)) j
            (subst (λ (G : Feed). Admits G j) (sym same-feeds) a)),
      )

  own-so : (end_of s xs).limit ≡ None → OwnFound (end_of s xs) (own_offers (end_of s xs))
  own-so e = own-found (end_of s xs) (whole s o xs).stands.kept d e

  offered-so : (end_of s xs).limit ≡ None → Offered (feed_of s.settings (ending s o xs)) (own_offers (end_of s xs))
  offered-so e =
      subst (λ (G : Feed). Offered G (own_offers l)) same-feeds
      (offered-like s.settings (state_at u gs) (apart gs) gs (own_offers l) (apart-like gs)
      (offered-is s.settings u (apart gs) start (opens s o) (own-so e).clear))

  -- of one that was stopped at the limit n
  within-so : (n : ℕ) → (end_of s xs).limit ≡ Some n → Within (feed_of s.settings (ending s o xs)) n (own_within n (end_of s xs)) n false
  within-so n e =
      let k = (whole s o xs).stands.kept in
      let w = within-here s.settings u (apart gs) start (opens s o) n (stopped-found l k n e).clear
      (same-few l (k.sound.stopped_change (ap is_some e))) in
      let v = subst (λ (b : Bool). Within (feed_of s.settings (state_at u (apart gs))) n (own_within n l)
      (joins_within n (timetable_of u)) b) (unfinished-so l k n e) w in
      stopped-count (feed_of s.settings (ending s o xs)) n (own_within n l) (joins_within n (timetable_of u))
      (subst (λ (G : Feed). Within G n (own_within n l) (joins_within n (timetable_of u)) false) same-feeds
      (within-like s.settings (state_at u gs) (apart gs) gs n (own_within n l) (joins_within n (timetable_of u)) false (apart-like gs) v))

  ordered-so : Ordered s.settings (end_of s xs).table_horizon (calls_in (whole s o xs).taken) (calls s xs)
  unfolding unsearched_of
  ordered-so =
      let w = start in
      let (ds, v, p) = shown-perm s.settings l.table_horizon (apart-like gs).calls
      (table-shown s.settings (opens s o) (calls_in (apart gs)) w.held.days (table_of u) (showing s.settings u (apart gs) w)) in
      let e = own-sorted l ((whole s o xs).stands.kept.own d) in
      record {
        seen = ds;
        shown = v;
        same = p;
        in_order = subst InOrder (sym e)
            (order-in (in_order_of (table_calls (table_of l))) (put-in-order (table_calls (table_of l))).1);
      }

pub same-admitted : (s : Opening) (xs : List Step) → Opens s → (j : Journey) → by-load.Admitted s xs j ↔ Admitted s xs j
same-admitted s xs o j = (fore, back)
  where
    fore : by-load.Admitted s xs j → Admitted s xs j
    fore (d, a) = record {
      answers = answers_from (opened s) xs;
      end = ending s o xs;
      runs = run s o xs;
      searched = d;
      admits = (admits-so s o xs d j).0 ((own-admits s xs d j).0 a);
    }

    back : Admitted s xs j → by-load.Admitted s xs j
    back x =
        let q = ends_so s o xs x.answers x.end x.runs in
        let d : (end_of s xs).searched ≡ true = ap (λ (t : State). t.searched) q ∙ x.searched in
        let f : Admits (feed_of s.settings (ending s o xs)) j = subst (λ (t : State). Admits (feed_of s.settings t) j) (sym q) x.admits in
        (d, (own-admits s xs d j).1 ((admits-so s o xs d j).1 f))

-- ---- 2

module _ (s : Opening) (o : Opens s) (xs : List Step) where
  fills : (end_of s xs).searched ≡ false → Fills s xs (ending s o xs)
  fills d =
      let w = (whole s o xs).stands.new d in
      record {
        shown = table-shown s.settings (opens s o) (calls_in (whole s o xs).taken) w.held.days (table_of (end_of s xs))
            (showing s.settings (end_of s xs) (whole s o xs).taken w);
        kept = ap (λ (n : ℕ). take n (end_of s xs).journeys) (w.sound.none_kept d);
        horizon = w.sound.same_horizon d;
        limits = w.sound.same_limits d;
        best = λ z. best_none (end_of s xs) d z;
      }

  -- by the offers, all or those before the stop
  list_of : (d : (end_of s xs).searched ≡ true) (os : List Journey) → OwnFound (end_of s xs) os → ListOf s xs (ending s o xs) os
  list_of d os e = record {
    ordered = ordered-so s o xs d;
    holds = front-holds (end_of s xs).horizon os (kept_of (end_of s xs)) e.unbeaten;
    falls = subst (Falls [] (end_of s xs).table_horizon (end_of s xs).table_limits os) (ap ends_at e.fell)
        (fall-falls [] os (end_of s xs).table_horizon (end_of s xs).table_limits (omega arith));
    best = λ z. subst (BestAt (kept_of (end_of s xs)) (end_of s xs).horizon z) (sym (best-asks (end_of s xs) (handed-sound s xs o).1 d z))
        (best-at (kept_of (end_of s xs)) (end_of s xs).horizon z);
  }

  lists : (end_of s xs).searched ≡ true → (end_of s xs).limit ≡ None → Lists s xs (ending s o xs)
  lists d f =
      let w = searched-holds s xs o d (ap is_some f) in
      let e = own-so s o xs d f in
      record {
        offers = own_offers (end_of s xs);
        offered = offered-so s o xs d f;
        admitted = λ j.
            let g = offers-admitted (timetable_of (unsearched_of (end_of s xs))) e.clear j in (
              λ m. (same-admitted s xs o j).0 (d, (own-admits s xs d j).1 (g.0 m)),
              λ x.
                  g.1 ((own-admits s xs d j).0 ((same-admitted s xs o j).1 x).1),
            );
        list = list_of d (own_offers (end_of s xs)) e;
        complete = λ j a l. let (k, b, e') = w.complete j ((same-admitted s xs o j).1 a) l in (k, b, covers-in k j e');
      }

  lists-within : (n : ℕ) → (end_of s xs).limit ≡ Some n → ListsWithin s xs (ending s o xs) n
  lists-within n e =
      let k = (whole s o xs).stands.kept in
      let d = k.sound.stopped_search (ap is_some e) in
      record {
        offers = own_within n (end_of s xs);
        offered = within-so s o xs d n e;
        list = list_of d (own_within n (end_of s xs)) (stopped-found (end_of s xs) k n e);
      }

pub demand-2 : Demand2
demand-2 s xs rs v o w =
    subst (λ (t : State). (t.searched ≡ false → Fills s xs t) × (t.searched ≡ true → t.stopped ≡ None → Lists s xs t)
    × ((n : ℕ) → t.stopped ≡ Some n → ListsWithin s xs t n)) (ends_so s o xs rs v w)
    (fills s o xs, lists s o xs, lists-within s o xs)

-- ---- 3

pub matched : (g : ℕ) (s s' : Opening) (xs xs' : List Step) → Opens s → Opens s'
    → CoveredBy g (by-load.Admitted s xs) (by-load.Admitted s' xs') ↔ MatchedBy g s xs s' xs'
matched g s s' xs xs' o o' = (
  λ c j a l. let (k, b, e) = c j ((same-admitted s xs o j).1 a) l in (k, (same-admitted s' xs' o' k).0 b, covers-in k j e),
  λ c j a l. let (k, b, e) = c j ((same-admitted s xs o j).0 a) l in (k, (same-admitted s' xs' o' k).1 b, covers_out k j e),
)

at-earlier : (s s' : Opening) (xs xs' : List Step) (g : ℕ) → g ≡ min (end_of s xs).horizon (end_of s' xs').horizon
    → s.settings.now ≡ s'.settings.now → Opens s → Opens s'
    → stopped (end_of s xs) ≡ false → stopped (end_of s' xs') ≡ false
    → ((z : ℤ) → Second z → Alike g (answer s xs z) (answer s' xs' z)) ↔ (MatchedBy g s xs s' xs' × MatchedBy g s' xs' s xs)
at-earlier s s' xs xs' g e n o o' f f' = (
  λ f. let (a, b) = whole.0 (λ z i. alike-reads g (answer s xs z) (answer s' xs' z) (f z (in-second z i))) in
      ((matched g s s' xs xs' o o').0 a, (matched g s' s xs' xs o' o).0 b),
  λ (a, b) z i. reads-alike g (answer s xs z) (answer s' xs' z)
      (whole.1 ((matched g s s' xs xs' o o').1 a, (matched g s' s xs' xs o' o).1 b) z (second-in z i)),
)
  where
    whole : ((z : ℤ) → I64 z → read_by journey_figures g (answer s xs z) ≡ read_by journey_figures g (answer s' xs' z))
        ↔ (CoveredBy g (by-load.Admitted s xs) (by-load.Admitted s' xs') × CoveredBy g (by-load.Admitted s' xs') (by-load.Admitted s xs))
    whole = subst (λ (k : ℕ). ((z : ℤ) → I64 z → read_by journey_figures k (answer s xs z) ≡ read_by journey_figures k (answer s' xs' z))
        ↔ (CoveredBy k (by-load.Admitted s xs) (by-load.Admitted s' xs') × CoveredBy k (by-load.Admitted s' xs') (by-load.Admitted s xs)))
        (sym e) (best-agrees s s' xs xs' n o o' f f')

-- no stopped search, by what was handed in and by the load
pub finished-load : (s : Opening) (xs : List Step) → Opens s → Finished s xs → stopped (end_of s xs) ≡ false
finished-load s xs o f = ap (λ (t : State). is_some t.stopped) (ends_so s o xs f.answers f.end f.runs) ∙ ap is_some f.finished

pub demand-3 : Demand3
demand-3 s s' xs xs' g n o o' f f' e = at-earlier s s' xs xs' g (earlier-is g _ _ e) n o o' (finished-load s xs o f)
    (finished-load s' xs' o' f')
