-- A search within a limit: its answer is that of the first of its causes that holds, a finished one is the full search, what it leaves is
-- sound, and what is found within the limit.
use Rattle.refusal.specs.declared.Accepted.TheVariants.{Taken}
use Rattle.std.specs.Prelude.{None, Option, Some, Err, Ok}
use Prim.Native.Nat.{ℕ, ◌≤◌}
use mathlib.Core.Path.{◌≡◌, refl, sym, ap, subst, ◌∙◌}
use mathlib.Core.Bool.{Bool, true, false, cond, true≢false, false≢true}
use mathlib.Core.List.{List, [], ◌∷◌}
use native.Mathlib.Omega.{arith}
use borrow.Author.Tests.{ltb-false, le-ltb}
use lib.Dec.{ltb}
use lib.ListN.{length}
use Rattle.laws.proofs.Bools.{cond-by, cond-not}
use Rattle.laws.proofs.Sort.{length-sort}
use Rattle.refusal.specs.declared.Refusal.TheVariants.{SettingsRange, AlreadySearched, Neighbours, NoRoom}
use Rattle.refusal.specs.First.{First, none, hit, miss, is_refused, is_taken, Answer}
use Rattle.refusal.proofs.FirstLaws.{first_taken}
use Rattle.profile.specs.declared.Journey.{Journey}
use Rattle.profile.specs.Figures.{covᶠ, dueᶠ}
use Rattle.profile.specs.Fall.{Ends, up_to, never, fall}
use Rattle.profile.specs.Best.{Ordered, sooner}
use Rattle.profile.specs.Journeys.{journey_figures}
use Rattle.profile.proofs.ClaimLaws.{kept-is-front, put-in-order}
use Rattle.offers.specs.Order.{clashes}
use Rattle.offers.specs.Offers.{sorted}
use Rattle.offers.specs.Search.{Outcome, clashing, falling, found, answer_of, ends_by_of}
use Rattle.limited.specs.Limited.{offers_within, joins_within}
use Rattle.limited.proofs.LimitLaws.{finished-is-full, within-by-offers, within-found}
use Rattle.load.specs.declared.Load.{Load}
use Rattle.load.specs.Load.{stopped}
use Rattle.load.specs.Sound.{Sound}
use Rattle.search.specs.Timetable.{timetable_of}
use Rattle.search.specs.Search.{outcome_of, with_found, with_journeys, settled, is_never, search_spec}
use Rattle.search.specs.Within.{Answered, outcome_within, finishes_in, within_found, settled_within, sent_back_of, ran_within}
use Rattle.search.specs.Within.{within_spec, step_of, would_fall_within, within_tests, within_causes, WithinAnswered, FinishedIsSearch}
use Rattle.search.specs.Within.{WithinTaken, WithinSound}
use Rattle.search.proofs.RunLaws.{search-again, search-runs}
use Rattle.search.proofs.SearchSound.{found-sound}

-- of any property of what is returned: sent back with 15 or 1, or by the outcome
pub within-cases : (l : Load) (n : ℕ) (P : Answered → Type 0)
    → (l.searched ≡ true → P (sent_back_of l (Err AlreadySearched)))
    → (l.searched ≡ false → ltb 1 l.settings.max_transfers ≡ true → P (sent_back_of l (Err SettingsRange)))
    → (l.searched ≡ false → ltb 1 l.settings.max_transfers ≡ false → (o : Outcome) → outcome_within l n ≡ o → P (ran_within l n o))
    → P (within_spec l n)
unfolding within_spec
within-cases l n P again wide ran = go l.searched refl (ltb 1 l.settings.max_transfers) refl
  where
    go : (b : Bool) → l.searched ≡ b → (c : Bool) → ltb 1 l.settings.max_transfers ≡ c
        → P (cond b (sent_back_of l (Err AlreadySearched))
        (cond c (sent_back_of l (Err SettingsRange)) (ran_within l n (outcome_within l n))))
    go true e c f = again e
    go false e true f = wide e f
    go false e false f = ran e f (outcome_within l n) refl

-- ---- the answer

module _ (l : Load) (n : ℕ) where
  -- 14, then 11
  pub within_first : First (answer_of (outcome_within l n)) (within_tests l n)
  unfolding outcome_within would_fall_within
  within_first =
      rw (within-by-offers n (timetable_of l) l.table_horizon l.table_limits)
      (go (clashes (sorted (timetable_of l))) refl
      (fall (covᶠ journey_figures) (dueᶠ journey_figures) 64 3600 l.table_horizon l.table_limits [] (offers_within n (timetable_of l))))
    where
      go : (b : Bool) → clashes (sorted (timetable_of l)) ≡ b → (f : Ends)
          → First (answer_of (cond b clashing (ends_by_of (offers_within n (timetable_of l)) f)))
          ((clashes (sorted (timetable_of l)), Err Neighbours) ∷ (is_never f, Err NoRoom) ∷ [])
      go true e f = hit e
      go false e never = miss e (hit refl)
      go false e (up_to h m) = miss e (miss refl none)

  -- what is answered and left, by the outcome
  pub ran-answer : (o : Outcome) → (ran_within l n o).answer ≡ answer_of o
  ran-answer clashing = refl
  ran-answer falling = refl
  ran-answer (found ks h m) = refl

  pub ran-load : (o : Outcome) → (ran_within l n o).load ≡ settled_within l n o
  ran-load clashing = refl
  ran-load falling = refl
  ran-load (found ks h m) = refl

  within-causes : First (within_spec l n).answer (within_causes l n)
  within-causes =
      within-cases l n (λ w. First w.answer (within_causes l n)) (λ e. hit e) (λ e f. miss e (hit f))
      (λ e f o q. miss e (miss f (subst (λ (a : Answer). First a (within_tests l n)) (ap answer_of q ∙ sym (ran-answer o)) within_first)))

  ran-same : (o : Outcome) → is_refused (ran_within l n o).answer ≡ true → (ran_within l n o).load ≡ l
  ran-same clashing e = refl
  ran-same falling e = refl
  ran-same (found ks h m) e = absurd (false≢true e)

  pub within-answered : WithinAnswered l n
  within-answered = record {
    first = within-causes;
    taken = first_taken _ _ refl within-causes;
    unchanged = within-cases l n (λ w. is_refused w.answer ≡ true → w.load ≡ l) (λ e q. refl) (λ e f q. refl) (λ e f o q. ran-same o);
  }

-- ---- what is found

-- a search that is answered taken ran on a load not searched before, of at most one change, and found these journeys
pub record FoundIn (l : Load) (n : ℕ) : Type 0 where
  pub new : l.searched ≡ false
  pub one : l.settings.max_transfers ≤ 1
  pub kept : List Journey
  pub to : ℕ
  pub mark : ℕ
  pub outcome : outcome_within l n ≡ found kept to mark
  pub is : within_spec l n ≡ ran_within l n (found kept to mark)

pub within-runs : (l : Load) (n : ℕ) → l.searched ≡ false → l.settings.max_transfers ≤ 1
    → within_spec l n ≡ ran_within l n (outcome_within l n)
unfolding within_spec
within-runs l n e one = cond-not _ _ e ∙ cond-not _ _ (le-ltb 1 l.settings.max_transfers one)

pub within-again : (l : Load) (n : ℕ) → l.searched ≡ true → within_spec l n ≡ sent_back_of l (Err AlreadySearched)
unfolding within_spec
within-again l n e = cond-by _ _ e

pub taken-within : (l : Load) (n : ℕ) → is_taken (within_spec l n).answer ≡ true → FoundIn l n
taken-within l n = within-cases l n (λ w. is_taken w.answer ≡ true → FoundIn l n) (λ e q. absurd (false≢true q))
    (λ e f q. absurd (false≢true q)) (λ e f o w q. go e (ltb-false 1 l.settings.max_transfers f) o w q)
  where
    go : l.searched ≡ false → l.settings.max_transfers ≤ 1 → (o : Outcome) → outcome_within l n ≡ o
        → is_taken (ran_within l n o).answer ≡ true → FoundIn l n
    go e one clashing w q = absurd (false≢true q)
    go e one falling w q = absurd (false≢true q)
    go e one (found ks h m) w q = record {
      new = e;
      one = one;
      kept = ks;
      to = h;
      mark = m;
      outcome = w;
      is = within-runs l n e one ∙ ap (ran_within l n) w;
    }

pub untaken-within : (l : Load) (n : ℕ) → is_taken (within_spec l n).answer ≡ false → (within_spec l n).load ≡ l
untaken-within l n = within-cases l n (λ w. is_taken w.answer ≡ false → w.load ≡ l) (λ e q. refl) (λ e f q. refl) (λ e f o w q. go o q)
  where
    go : (o : Outcome) → is_taken (ran_within l n o).answer ≡ false → (ran_within l n o).load ≡ l
    go clashing q = refl
    go falling q = refl
    go (found ks h m) q = absurd (true≢false q)

-- what a search within the limit leaves: searched in full, or stopped at n
pub found-load : (l : Load) (n : ℕ) (ks : List Journey) (h m : ℕ) (b : Bool) → finishes_in l n ≡ b
    → within_found l n ks h m ≡ cond b (with_journeys l ks h m) (with_found l ks h m (Some n))
found-load l n ks h m b e = ap (λ (c : Bool). cond c (with_journeys l ks h m) (with_found l ks h m (Some n))) e

-- what no search alters, this one leaves
pub within-keeps : {X : Type 0} (f : Load → X) (l : Load) (n : ℕ)
    → ((ks : List Journey) (h m : ℕ) (k : Option ℕ) → f (with_found l ks h m k) ≡ f l)
    → f (within_spec l n).load ≡ f l
within-keeps f l n same = go (is_taken (within_spec l n).answer) refl
  where
    left : (ks : List Journey) (h m : ℕ) (c : Bool) → f (cond c (with_journeys l ks h m) (with_found l ks h m (Some n))) ≡ f l
    left ks h m true = same ks h m None
    left ks h m false = same ks h m (Some n)

    go : (b : Bool) → is_taken (within_spec l n).answer ≡ b → f (within_spec l n).load ≡ f l
    go true t = let w = taken-within l n t in ap (λ (r : Answered). f r.load) w.is ∙ left w.kept w.to w.mark (finishes_in l n)
    go false t = ap f (untaken-within l n t)

-- by whether it finished
abbrev left_by_of : Load → ℕ → List Journey → ℕ → ℕ → Bool → Answered
left_by_of l n ks h m b =
    record {
      answer = Ok Taken;
      load = cond b (with_journeys l ks h m) (with_found l ks h m (Some n));
      joins = joins_within n (timetable_of l);
      finished = b;
    }

record Left (l : Load) (n : ℕ) (b : Bool) (w : Answered) : Type 0 where
  searched : w.load.searched ≡ true
  says : w.finished ≡ b
  counts : w.joins ≡ joins_within n (timetable_of l)
  stops : stopped w.load ≡ true → w.finished ≡ false
  goes_on : w.finished ≡ false → stopped w.load ≡ true
  holds : w.load.limit ≡ cond b None (Some n)

left_by : (l : Load) (n : ℕ) (ks : List Journey) (h m : ℕ) (b : Bool) → Left l n b (left_by_of l n ks h m b)
left_by l n ks h m true = record {
  searched = refl;
  says = refl;
  counts = refl;
  stops = λ e. absurd (false≢true e);
  goes_on = λ e. absurd (true≢false e);
  holds = refl;
}
left_by l n ks h m false = record { searched = refl; says = refl; counts = refl; stops = λ e. refl; goes_on = λ e. refl; holds = refl }

pub within-taken : WithinTaken
within-taken l n q =
    let w = taken-within l n (ap is_taken q) in
    let v : Left l n (finishes_in l n) (within_spec l n) =
    subst (Left l n (finishes_in l n)) (sym w.is) (left_by l n w.kept w.to w.mark (finishes_in l n)) in
    record { searched = v.searched; says = v.says; counts = v.counts; stops = (v.stops, v.goes_on); holds = v.holds }

-- ---- one that finished

pub finished-outcome : (l : Load) (n : ℕ) → l.settings.max_transfers ≤ 1 → finishes_in l n ≡ true → outcome_within l n ≡ outcome_of l
unfolding outcome_within outcome_of finishes_in timetable_of
finished-outcome l n one e = finished-is-full n (timetable_of l) l.table_horizon l.table_limits one e

settled-full : (l : Load) (n : ℕ) (o : Outcome) → finishes_in l n ≡ true → settled_within l n o ≡ settled l o
settled-full l n clashing e = refl
settled-full l n falling e = refl
settled-full l n (found ks h m) e = found-load l n ks h m true e

pub finished-is-search : FinishedIsSearch
finished-is-search l n one e = go l.searched refl
  where
    go : (b : Bool) → l.searched ≡ b → step_of (within_spec l n) ≡ search_spec l
    go true d = ap step_of (within-again l n d) ∙ sym (search-again l d)
    go false d =
        let o = outcome_within l n in
        let q = finished-outcome l n one e in
        ap step_of (within-runs l n d one)
        ∙ (λ k. record { answer = ran-answer l n o k; load = (ran-load l n o ∙ settled-full l n o e) k })
        ∙ ap (λ (x : Outcome). record { answer = answer_of x; load = settled l x }) q
        ∙ sym (search-runs l d)

-- ---- what is left is sound

module _ (l : Load) (n : ℕ) (ks : List Journey) (h m : ℕ) (e : outcome_within l n ≡ found ks h m) where
  within-few : length ks ≤ 64
  unfolding outcome_within
  within-few =
      let (clear, stood, ran, is) = within-found n (timetable_of l) l.table_horizon l.table_limits h m ks e in
      let few = (kept-is-front journey_figures l.table_horizon l.table_limits (offers_within n (timetable_of l)) stood h m ran).1 in
      omega (arith, few, ap length is, length-sort (sooner journey_figures) stood)

  within-ordered : Ordered journey_figures ks
  unfolding outcome_within
  within-ordered =
      let (clear, stood, ran, is) = within-found n (timetable_of l) l.table_horizon l.table_limits h m ks e in
      subst (Ordered journey_figures) (sym is) (put-in-order journey_figures stood).0

  -- no neighbours clash
  pub within-clear : clashes (sorted (timetable_of l)) ≡ false
  unfolding outcome_within
  within-clear = (within-found n (timetable_of l) l.table_horizon l.table_limits h m ks e).0

  pub found-within-sound : l.settings.max_transfers ≤ 1 → Sound l → Sound (within_found l n ks h m)
  found-within-sound one s = go (finishes_in l n)
    where
      go : (b : Bool) → Sound (cond b (with_journeys l ks h m) (with_found l ks h m (Some n)))
      go true = found-sound l ks h m None within-few within-ordered (λ x. absurd (false≢true x)) s
      go false = found-sound l ks h m (Some n) within-few within-ordered (λ x. one) s

pub within-sound : WithinSound
within-sound l n s = go (is_taken (within_spec l n).answer) refl
  where
    go : (b : Bool) → is_taken (within_spec l n).answer ≡ b → Sound (within_spec l n).load
    go true t = let w = taken-within l n t in subst (λ (r : Answered). Sound r.load) (sym w.is)
        (found-within-sound l n w.kept w.to w.mark w.outcome w.one s)
    go false t = subst Sound (sym (untaken-within l n t)) s
