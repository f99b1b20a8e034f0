-- The program's tests of a search, and of the search again, decide its causes, where the load holds what was taken; and what it leaves.
use Rattle.std.specs.Prelude.{None, Option, Some, Err, is_some}
use Prim.Native.Nat.{ℕ, ◌≤◌, ◌<◌}
use mathlib.Core.Path.{◌≡◌, refl, sym, ap, subst, ◌∙◌}
use mathlib.Core.Bool.{Bool, true, false, cond, true≢false, false≢true}
use mathlib.Core.List.Permᴰ
use mathlib.Core.List.{List, [], ◌∷◌, ◌++◌}
use native.Mathlib.Omega.{arith}
use lib.Dec.{ltb}
use borrow.Author.Tests.{ltb-false, le-leb}
use Rattle.refusal.specs.declared.Refusal.{Refusal}
use Rattle.refusal.specs.declared.Refusal.TheVariants.{Neighbours, NoRoom}
use Rattle.refusal.specs.First as tests
use Rattle.refusal.specs.First.{hit, miss, is_taken, Answer}
use Rattle.settings.specs.declared.Settings.{Settings}
use Rattle.settings.specs.Settings.{canonical_of}
use Rattle.calls.specs.Shown.{table_calls}
use Rattle.profile.specs.declared.Journey.{Journey}
use Rattle.profile.specs.Figures.{covᶠ, dueᶠ}
use Rattle.profile.specs.Fall.{Ends, up_to, never, fall}
use Rattle.profile.specs.Journeys.{journey_figures}
use Rattle.offers.specs.Order.{clashes}
use Rattle.offers.specs.Offers.{sorted, offers}
use Rattle.offers.specs.Admitted.{Clear}
use Rattle.limited.specs.Limited.{offers_within, joins_within, finished_within}
use Rattle.load.specs.declared.Load.{Load}
use Rattle.load.specs.declared.StepResult.{StepResult}
use Rattle.load.specs.Load.{table_of, stopped}
use Rattle.load.specs.FillStep.{FillStep}
use Rattle.search.specs.Timetable.{timetable_of}
use Rattle.search.specs.Search as search
use Rattle.search.specs.Search.{with_found, with_journeys, search_spec, is_never, would_fall}
use Rattle.search.specs.Within.{Answered, finishes_in, within_spec, would_fall_within, within_causes}
use Rattle.search.proofs.RunLaws.{taken-found}
use Rattle.search.proofs.WithinLaws.{FoundIn, taken-within}
use Rattle.again.specs.Again.{researched}
use Rattle.again.specs.Causes.{falls_again, search_tests}
use Rattle.again.proofs.ResearchLaws.{researched-within, researched-full, research-first, taken-researched}
use Rattle.comparison.specs.Taken.{calls_in, State, keeping, up_to as cut_to, done, limited_to}
use Rattle.comparison.specs.Feeds.{feed_of}
use Rattle.comparison.specs.Neighbours.{Clashing}
use Rattle.comparison.specs.Falls.{below, Falls}
use Rattle.comparison.specs.Events.{Within}
use Rattle.comparison.specs.Causes.{Cause, Sinks, SinksWithin, SinksAs, search_causes, limited_causes, again_causes}
use Rattle.comparison.specs.Runs.{Again, in_full, within}
use Rattle.comparison.proofs.Deciding.{Decides, Matches, dec-is, dec-ltb, dec-as}
use Rattle.comparison.proofs.SettingLaws.{Opened}
use Rattle.comparison.proofs.StartLaws.{Start, state_at}
use Rattle.comparison.proofs.FallLaws.{end_of, fall-falls, one-fall}
use Rattle.comparison.proofs.HorizonLaws.{table-shown, showing}
use Rattle.comparison.proofs.NeighbourLaws.{dec-clashing}
use Rattle.comparison.proofs.BagLaws.{clashing-perm}
use Rattle.comparison.proofs.AsideLaws.{Like, like-back, offered-like}
use Rattle.comparison.proofs.OfferedLaws.{offered-is, one-offered}
use Rattle.comparison.proofs.WithinLaws.{one-within, within-like}
use Rattle.comparison.proofs.StatedLaws.{within-is}

dec-never : (e : Ends) → Decides (is_never e) (end_of e ≡ below)
dec-never (up_to h m) = (λ e. absurd (false≢true e), λ e. absurd (cc))
dec-never never = (λ e. refl, λ e. refl)

-- by where these offers lead
dec-below : (h m : ℕ) (os : List Journey) → Decides (is_never (fall (covᶠ journey_figures) (dueᶠ journey_figures) 64 3600 h m [] os))
    (Falls [] h m os below)
dec-below h m os = (
  λ e. subst (Falls [] h m os) ((dec-never ending).0 e) led,
  λ v. (dec-never ending).1 (one-fall [] h m os (end_of ending) below led v),
)
  where
    ending : Ends
    ending = fall (covᶠ journey_figures) (dueᶠ journey_figures) 64 3600 h m [] os

    led : Falls [] h m os (end_of (fall (covᶠ journey_figures) (dueᶠ journey_figures) 64 3600 h m [] os))
    led = fall-falls [] os h m (omega arith)

module _ (s : Settings) (l : Load) (fs : List FillStep) (w : Start s l fs) (o : Opened s) where
  pub dec-neighbours : Decides (clashes (sorted (timetable_of l))) (Clashing s l.table_horizon (calls_in fs))
  unfolding timetable_of
  dec-neighbours = dec-clashing s l.table_horizon (calls_in fs) (table_calls (table_of l))
      (table-shown s o (calls_in fs) w.held.days (table_of l) (showing s l fs w))

  pub dec-sinks : Clear (timetable_of l) → Decides (would_fall l) (Sinks s (state_at l fs))
  unfolding would_fall
  dec-sinks clear =
      dec-as (is_never (fall (covᶠ journey_figures) (dueᶠ journey_figures) 64 3600 l.table_horizon l.table_limits []
      (offers (timetable_of l))))
      (λ f. record { offers = offers (timetable_of l); offered = offered-is s l fs w o clear; falls = f })
      (λ v. subst (λ (x : List Journey). Falls [] l.table_horizon l.table_limits x below)
      (one-offered (feed_of s (state_at l fs)) v.offers (offers (timetable_of l)) v.offered (offered-is s l fs w o clear)) v.falls)
      (dec-below l.table_horizon l.table_limits (offers (timetable_of l)))

  pub search-match : Matches (search.search_causes l) (search_causes s (state_at l fs))
  search-match = (refl, dec-is l.searched, λ a. (refl, dec-neighbours, λ c. (refl, dec-sinks c, λ e. tt)))

  -- ---- within a limit

  reads-changes : (timetable_of l).max_transfers ≡ l.settings.max_transfers
  unfolding timetable_of
  reads-changes = refl

  pub within-here : (n : ℕ) → Clear (timetable_of l) → l.settings.max_transfers ≤ 1
      → Within (feed_of s (state_at l fs)) n (offers_within n (timetable_of l)) (joins_within n (timetable_of l))
      (finished_within n (timetable_of l))
  within-here n clear few = within-is s l fs w o clear (subst (λ (k : ℕ). k ≤ 1) (sym reads-changes) few) n

  pub dec-sinks-within : (n : ℕ) → Clear (timetable_of l) → l.settings.max_transfers ≤ 1
      → Decides (would_fall_within l n) (SinksWithin s (state_at l fs) n)
  unfolding would_fall_within
  dec-sinks-within n clear few =
      let os = offers_within n (timetable_of l) in
      let v = within-here n clear few in
      dec-as (is_never (fall (covᶠ journey_figures) (dueᶠ journey_figures) 64 3600 l.table_horizon l.table_limits []
      (offers_within n (timetable_of l))))
      (λ f. record {
        offers = offers_within n (timetable_of l);
        tested = joins_within n (timetable_of l);
        finishes = finished_within n (timetable_of l);
        offered = v;
        falls = f;
      })
      (λ u. subst (λ (x : List Journey). Falls [] l.table_horizon l.table_limits x below)
      (one-within (feed_of s (state_at l fs)) n u.offers (offers_within n (timetable_of l)) u.tested
      (joins_within n (timetable_of l)) u.finishes (finished_within n (timetable_of l)) u.offered v).offers u.falls)
      (dec-below l.table_horizon l.table_limits (offers_within n (timetable_of l)))

  pub same-changes : l.settings.max_transfers ≡ s.max_transfers
  unfolding canonical_of
  same-changes = ap (λ (z : Settings). z.max_transfers) w.settings

  dec-changes : Decides (ltb 1 l.settings.max_transfers) (1 < s.max_transfers)
  dec-changes = subst (λ (k : ℕ). Decides (ltb 1 l.settings.max_transfers) (1 < k)) same-changes (dec-ltb 1 l.settings.max_transfers)

  pub limited-match : (n : ℕ) → Matches (within_causes l n) (limited_causes s (state_at l fs) n)
  limited-match n = (
    refl,
    dec-is l.searched,
    λ a.
        (refl, dec-changes, λ b. (refl, dec-neighbours, λ c. (refl, dec-sinks-within n c (ltb-false 1 l.settings.max_transfers b), λ e. tt))),
  )

-- ---- the search again of what a step on a searched load brings

-- of the one state that is brought
brought : (b : Bool) (B Q : State → Type 0) (v : State) → B v → ((u : State) → B u → u ≡ v) → Decides b (Q v)
    → Decides b ((u : State) × B u × Q u)
brought b B Q v there only d = (λ e. (v, there, d.0 e), λ (u, x, q). d.1 (subst Q (only u x) q))

-- m holds what it brings, with the calls in any order; the search before it was stopped at the limit n or not
module _ (s : Settings) (m : Load) (gs fs : List FillStep) (w : Start s m gs) (o : Opened s) (like : Like gs fs) (t : State) where
  abbrev v : State
  v = cut_to (keeping t fs) m.table_horizon m.table_limits

  sinks_in : Sinks s (state_at m gs) → Sinks s v
  sinks_in x = record { offers = x.offers; offered = offered-like s v gs fs x.offers like x.offered; falls = x.falls }

  sinks-out : Sinks s v → Sinks s (state_at m gs)
  sinks-out x = record { offers = x.offers; offered = offered-like s v fs gs x.offers (like-back like) x.offered; falls = x.falls }

  within_in : (n : ℕ) → SinksWithin s (state_at m gs) n → SinksWithin s v n
  within_in n x = record {
    offers = x.offers;
    tested = x.tested;
    finishes = x.finishes;
    offered = within-like s v gs fs n x.offers x.tested x.finishes like x.offered;
    falls = x.falls;
  }

  within-out : (n : ℕ) → SinksWithin s v n → SinksWithin s (state_at m gs) n
  within-out n x = record {
    offers = x.offers;
    tested = x.tested;
    finishes = x.finishes;
    offered = within-like s v fs gs n x.offers x.tested x.finishes (like-back like) x.offered;
    falls = x.falls;
  }

  few-of : s.max_transfers ≤ 1 → m.settings.max_transfers ≤ 1
  few-of few = subst (λ (k : ℕ). k ≤ 1) (sym (same-changes s m gs w o)) few

  dec-again : (limit : Option ℕ) → (is_some limit ≡ true → s.max_transfers ≤ 1) → Clear (timetable_of m)
      → Decides (falls_again limit m) (SinksAs limit s v)
  dec-again None few c = dec-as (would_fall m) sinks_in sinks-out (dec-sinks s m gs w o c)
  dec-again (Some n) few c =
      subst (λ (x : Bool). Decides (cond x (would_fall_within m n) (would_fall m)) (SinksWithin s v n))
      (sym (le-leb m.settings.max_transfers 1 (few-of (few refl))))
      (dec-as (would_fall_within m n) (within_in n) (within-out n) (dec-sinks-within s m gs w o n c (few-of (few refl))))

  pub again-match : (l : Load) → t.stopped ≡ l.limit → (stopped l ≡ true → s.max_transfers ≤ 1)
      → (B : State → Type 0) → B v → ((u : State) → B u → u ≡ v) → (ts : List (Bool × Answer)) (cs : List Cause) → Matches ts cs
      → Matches (search_tests l m ++ ts) (again_causes s B ++ cs)
  again-match l q few B there only ts cs rest = (
    refl,
    brought (clashes (sorted (timetable_of m))) B (λ u. Clashing s u.horizon (calls_in u.taken)) v there only
        (dec-as (clashes (sorted (timetable_of m))) (clashing-perm s m.table_horizon like.calls)
        (clashing-perm s m.table_horizon (Permᴰ.symm like.calls)) (dec-neighbours s m gs w o)),
    λ c. (
      refl,
      brought (falls_again l.limit m) B (λ u. SinksAs u.stopped s u) v there only
          (subst (λ (x : Option ℕ). Decides (falls_again l.limit m) (SinksAs x s v)) (sym q) (dec-again l.limit few c)),
      λ e. rest,
    ),
  )

-- ---- a search again is taken or sent back: what holds of every refusal holds of one that is not taken

pub untaken-refused : (limit : Option ℕ) (m : Load) → m.searched ≡ false → (P : Answer → Type 0) → ((r : Refusal) → P (Err r))
    → is_taken (researched limit m).answer ≡ false
    → P (researched limit m).answer
untaken-refused limit m new P f t = go (researched limit m).answer (research-first limit m new) t
  where
    go : (a : Answer) → tests.First a ((clashes (sorted (timetable_of m)), Err Neighbours) ∷ (falls_again limit m, Err NoRoom) ∷ [])
        → is_taken a ≡ false → P a
    go _ (hit e) q = f Neighbours
    go _ (miss e (hit g)) q = f NoRoom
    go _ (miss e (miss g tests.none)) q = absurd (true≢false q)

-- ---- what an accepted one leaves: the table's horizon and mark and the services as they were, and the limit where it stopped

module _ (limit : Option ℕ) (m : Load) (t : is_taken (researched limit m).answer ≡ true) where
  pub found-searched : (researched limit m).load.searched ≡ true
  found-searched = ap (λ (r : StepResult). r.load.searched) (taken-researched limit m t).is

  pub found-state : (hs : List FillStep) → state_at (researched limit m).load hs
      ≡ done ((researched limit m).load.limit) (record {
        taken = hs;
        horizon = m.table_horizon;
        limits = m.table_limits;
        searched = true;
        stopped = None;
        dates = m.week.dates;
        closed = m.week.closed;
      })
  found-state hs =
      let q = (taken-researched limit m t).is in
      λ j. record {
        taken = hs;
        horizon = (q j).load.table_horizon;
        limits = (q j).load.table_limits;
        searched = (q j).load.searched;
        stopped = (researched limit m).load.limit;
        dates = (q j).load.week.dates;
        closed = (q j).load.week.closed;
      }

-- a search within the limit n
pub limit-within : (n : ℕ) (m : Load) → is_taken (within_spec m n).answer ≡ true
    → (within_spec m n).load.limit ≡ cond (finishes_in m n) None (Some n)
limit-within n m t = ap (λ (w : Answered). w.load.limit) (taken-within m n t).is ∙ go (finishes_in m n) refl
  where
    f : FoundIn m n
    f = taken-within m n t

    go : (c : Bool) → finishes_in m n ≡ c → (cond (finishes_in m n) (with_journeys m f.kept f.to f.mark)
        (with_found m f.kept f.to f.mark (Some n))).limit ≡ cond c None (Some n)
    go true e = rw e refl
    go false e = rw e refl

pub limited-to : (n : ℕ) (t : State) (f : Bool) (k : Option ℕ) → k ≡ cond f None (Some n) → limited_to n f t ≡ done k t
limited-to n t true k e = λ j. done (sym e j) t
limited-to n t false k e = λ j. done (sym e j) t

pub limit-full : (m : Load) → is_taken (search_spec m).answer ≡ true → (search_spec m).load.limit ≡ None
limit-full m t = ap (λ (r : StepResult). r.load.limit) (taken-found m t).is

-- the search of m again is the one stated of what it brings
module _ (s : Settings) (m : Load) (gs fs : List FillStep) (w : Start s m gs) (o : Opened s) (like : Like gs fs) (x : State) where
  abbrev X : State
  X = cut_to (keeping x fs) m.table_horizon m.table_limits

  again-within : (n : ℕ) → m.settings.max_transfers ≤ 1 → is_taken (researched (Some n) m).answer ≡ true
      → Again s (done (Some n) X) (done (researched (Some n) m).load.limit X)
  unfolding finishes_in
  again-within n few t =
      let q = researched-within n m few in
      let v = within-here s m gs w o n (taken-researched (Some n) m t).clear few in
      let u : Again s (done (Some n) X) (limited_to n (finished_within n (timetable_of m)) (done (Some n) X)) =
      within refl (within-like s X gs fs n (offers_within n (timetable_of m)) (joins_within n (timetable_of m))
      (finished_within n (timetable_of m)) like v) in
      subst (Again s (done (Some n) X)) (limited-to n (done (Some n) X) (finished_within n (timetable_of m))
      (researched (Some n) m).load.limit
      (ap (λ (r : StepResult). r.load.limit) q ∙ limit-within n m (sym (ap (λ (r : StepResult). is_taken r.answer) q) ∙ t))) u

  again-full : is_taken (researched None m).answer ≡ true → Again s (done None X) (done (researched None m).load.limit X)
  again-full t =
      let q = researched-full m in
      let k : (researched None m).load.limit ≡ None =
      ap (λ (r : StepResult). r.load.limit) q ∙ limit-full m (sym (ap (λ (r : StepResult). is_taken r.answer) q) ∙ t) in
      subst (λ (y : Option ℕ). Again s (done None X) (done y X)) (sym k) (in_full refl)

  pub again-so : (limit : Option ℕ) → (is_some limit ≡ true → s.max_transfers ≤ 1) → is_taken (researched limit m).answer ≡ true
      → Again s (done limit X) (done (researched limit m).load.limit X)
  again-so (Some n) few t = again-within n (subst (λ (k : ℕ). k ≤ 1) (sym (same-changes s m gs w o)) (few refl)) t
  again-so None few t = again-full t
