-- A withdrawal: the program's tests decide its causes, and what it leaves holds what is left.
use Rattle.std.proofs.lemmas.Bool.{not-false}
use Rattle.refusal.specs.declared.Accepted.TheVariants.{Taken}
use Rattle.std.specs.Prelude.{Ok}
use Prim.Native.Nat.{ℕ, ◌≤◌}
use mathlib.Core.Path.{◌≡◌, refl, sym, ap, subst, ◌∙◌}
use mathlib.Core.Bool.{Bool, true, false, not, cond, true≢false}
use mathlib.Core.List.Permᴰ
use mathlib.Core.List.{List, [], ◌++◌, Memᴰ}
use lib.ListN.{length}
use Rattle.laws.specs.Lists.{anyb}
use Rattle.laws.proofs.Sort.{perm-mem}
use Rattle.refusal.specs.First.{is_taken}
use Rattle.settings.specs.declared.Settings.{Settings}
use Rattle.settings.specs.Settings.{canonical_of}
use Rattle.calls.specs.declared.CallInput.{CallInput}
use Rattle.calls.specs.declared.Call.{Call}
use Rattle.calls.specs.Shown.{windowed, table_calls}
use Rattle.stops.specs.Sound.{stop_at}
use Rattle.offers.specs.Order.{in_order_of, clashes}
use Rattle.load.specs.declared.Load.{Load}
use Rattle.load.specs.declared.StepResult.{StepResult}
use Rattle.load.specs.Load.{table_of, with_table, stopped}
use Rattle.load.specs.FillStep.{FillStep}
use Rattle.load.specs.Sound.{Sound}
use Rattle.calls.specs.declared.CallKey.{CallKey}
use Rattle.withdrawal.specs.Removal.{without_last, has_key, key_known, withdrawn, named_in}
use Rattle.withdrawal.proofs.LeftLaws.{withdrawn-leaves}
use Rattle.withdrawal.proofs.ShownLaws.{any-shown, shown-without}
use Rattle.again.specs.Again.{unsearched_of, researched, again, withdraw_tests, taken_out, withdraw_spec}
use Rattle.again.specs.Causes as tests
use Rattle.again.specs.Causes.{search_tests}
use Rattle.again.specs.Claims.{Kept}
use Rattle.again.proofs.SortLaws.{in-order-again, sorted-without, any-sorted}
use Rattle.again.proofs.SoundLaws.{Goes, there-goes, out_cases, taken-out-sound}
use Rattle.again.proofs.SearchedLaws.{own-clear}
use Rattle.steps.specs.Steps.{withdraw}
use Rattle.steps.proofs.ShownLaws.{raw_earlier}
use Rattle.comparison.specs.Taken.{StopGiven, calls_in, State, keeping, done}
use Rattle.comparison.specs.Withdrawal.{NoneSuch, Withdrawn}
use Rattle.comparison.specs.Causes.{again_causes, withdraw_causes}
use Rattle.comparison.specs.Runs.{in_full, After, sent_back, a_withdrawal}
use Rattle.comparison.proofs.Deciding.{Decides, Matches, dec-as}
use Rattle.comparison.proofs.SettingLaws.{Opened}
use Rattle.comparison.proofs.TakenLaws.{HeldAs}
use Rattle.comparison.proofs.StartLaws.{Start, no_limit, state_at}
use Rattle.comparison.proofs.AfterLaws.{named_filling, without-mem}
use Rattle.comparison.proofs.GoneLaws.{dec-key, any-calls, calls-without, dec-none, gone-is, one-withdrawn}
use Rattle.comparison.proofs.AsideLaws.{Beside, beside-on, beside_back, beside-less, apart, apart-like, week-beside}
use Rattle.comparison.proofs.SearchingLaws.{again-match, untaken-refused, found-searched, found-state, again-so}
use Rattle.comparison.proofs.SearchedLaws.{shown-apart, apart-again, apart-days, searched-start, Leaves, stays-so}
use Rattle.comparison.proofs.AddedLaws.{state-done}

abbrev Days : List CallInput → Type 0
Days is = (j : CallInput) → Memᴰ j is → j.day ≤ 2

-- what is left gives the same beside its calls
left-beside : (s : Settings) (t : State) (k : CallKey) (hs : List FillStep) → Withdrawn s t k (keeping t hs) → Beside hs t.taken
left-beside s t k hs v =
    subst (λ (fs : List FillStep). Beside fs t.taken) (sym (ap (λ (x : State). x.taken) v.left))
    (subst (Beside (v.before ++ v.behind)) (sym v.whole) (beside-less v.before v.behind v.name v.gone))

-- the load that the withdrawal leaves of an unsearched one
abbrev out_of : Load → CallKey → Load
out_of l k = with_table l (withdrawn (table_of l) k)

-- l holds gs, and what it leaves shows the calls of hs, which gives what gs does beside them
left-start : (s : Settings) (l : Load) (k : CallKey) (gs hs : List FillStep) → Start s l gs → key_known k ≡ true
    → anyb (has_key k) (table_calls (table_of l)) ≡ true → Beside hs gs → Days (calls_in hs)
    → without_last (has_key k) (table_calls (table_of l)) ≡ windowed l.settings l.table_horizon (calls_in hs) → Start s (out_of l k) hs
unfolding withdrawn
left-start s l k gs hs w known there b days e = record {
  sound = subst (λ (r : StepResult). Sound r.load) (there-goes l k known there) (taken-out-sound l k w.sound);
  settings = w.settings;
  held = record {
    calls = (withdrawn-leaves (table_of l) k w.sound.table there).calls ∙ e;
    days = days;
    rules = w.held.rules ∙ sym b.rules;
    stops = w.held.stops ∙ ap length (sym b.stops);
    each = λ j q. subst (λ (ss : List StopGiven). HeldAs (stop_at l.stops j) ss j) (sym b.stops) (w.held.each j q);
    week = week-beside l.week hs gs b w.held.week;
  };
  fresh = w.fresh;
}

-- ---- on a load that is not searched

module _ (s : Settings) (o : Opened s) (l : Load) (fs : List FillStep) (w : Start s l fs) (k : CallKey) where
  abbrev h : ℕ
  h = l.table_horizon

  -- of the calls taken
  any-taken : anyb (has_key k) (table_calls (table_of l)) ≡ anyb (named_in (canonical_of s) h k) (calls_in fs)
  any-taken = ap (anyb (has_key k)) w.held.calls ∙ any-shown l.settings h k (calls_in fs)
      ∙ ap (λ (x : Settings). anyb (named_in x h k) (calls_in fs)) w.settings

  pub dec-24 : Decides (not (anyb (has_key k) (table_calls (table_of l)))) (NoneSuch s h k (calls_in fs))
  dec-24 = subst (λ (b : Bool). Decides (not b) (NoneSuch s h k (calls_in fs))) (sym any-taken) (dec-none s o h k (calls_in fs) w.held.days)

  pub withdraw-match : Matches (tests.withdraw_causes l k) (withdraw_causes s (state_at l fs) k)
  withdraw-match = go l.searched refl
    where
      go : (b : Bool) → l.searched ≡ b
          → Matches (cond b (withdraw_tests (unsearched_of l) k ++ search_tests l (taken_out (unsearched_of l) k).load)
          (withdraw_tests l k)) (withdraw_causes s (record {
            taken = fs;
            horizon = h;
            limits = l.table_limits;
            searched = b;
            stopped = l.limit;
            dates = l.week.dates;
            closed = l.week.closed;
          }) k)
      go true e = absurd (true≢false (sym e ∙ w.fresh))
      go false e = (refl, dec-key k, λ p. (refl, dec-24, λ q. tt))

  module _ (there : anyb (has_key k) (table_calls (table_of l)) ≡ true) where
    abbrev left : List FillStep
    left = without_last (named_filling l.settings h k) fs

    gone-so : Withdrawn s (state_at l fs) k (keeping (state_at l fs) left)
    gone-so =
        subst (λ (x : Settings). Withdrawn s (state_at l fs) k (keeping (state_at l fs) (without_last (named_filling x h k) fs)))
        (sym w.settings)
        (gone-is s o h k (state_at l fs) refl w.held.days (any-calls (canonical_of s) h k fs ∙ sym any-taken ∙ there))

    left-calls : without_last (has_key k) (table_calls (table_of l)) ≡ windowed l.settings h (calls_in left)
    left-calls = ap (without_last (has_key k)) w.held.calls ∙ shown-without l.settings h k (calls_in fs)
        ∙ ap (windowed l.settings h) (sym (calls-without l.settings h k fs))

    left-days : Days (calls_in left)
    left-days j m = w.held.days j (without-mem (named_in l.settings h k) (calls_in fs) j
        (subst (Memᴰ j) (calls-without l.settings h k fs) m))

  abbrev Leaving : StepResult → Type 0
  Leaving r = After s (state_at l fs) (withdraw k) r.answer
      (state_at r.load (cond (is_taken r.answer) (without_last (named_filling l.settings l.table_horizon k) fs) fs))
      × Start s r.load (cond (is_taken r.answer) (without_last (named_filling l.settings l.table_horizon k) fs) fs)

  pub withdrawn-so : Leaving (taken_out l k)
  unfolding withdrawn
  withdrawn-so = out_cases l k Leaving (λ e. (sent_back, w)) (λ e f. (sent_back, w)) (λ g. (
    goes g,
    left-start s l k fs (left g.there) w g.known g.there
        (left-beside s (state_at l fs) k (left g.there) (gone-so g.there)) (left-days g.there) (left-calls g.there),
  ))
    where
      goes : (g : Goes l k) → After s (state_at l fs) (withdraw k) (Ok Taken) (state_at (out_of l k) (left g.there))
      goes g = a_withdrawal (gone-so g.there) (in_full (no_limit l w.sound w.fresh))

-- ---- on a searched load

module _ (s : Settings) (o : Opened s) (l : Load) (fs : List FillStep) (d : l.searched ≡ true) (kept : Kept l)
    (w : Start s (unsearched_of l) (apart fs))
    (days : Days (calls_in fs)) (few : stopped l ≡ true → s.max_transfers ≤ 1) (k : CallKey) where
  abbrev u : Load
  u = unsearched_of l

  -- searched again
  abbrev once : Load → StepResult
  once n = researched l.limit n

  abbrev seen : List Call
  seen = windowed u.settings u.table_horizon (calls_in fs)

  -- the state of the searched load
  abbrev T : State
  T = done l.limit (state_at u fs)

  calls-so : table_calls (table_of u) ≡ in_order_of seen
  calls-so = w.held.calls ∙ shown-apart u.settings u.table_horizon fs

  same-table : table_calls (table_of u) ≡ table_calls (table_of l)
  unfolding unsearched_of
  same-table = refl

  clear-seen : clashes (in_order_of seen) ≡ false
  clear-seen = ap clashes (sym (in-order-again seen) ∙ ap in_order_of (sym calls-so ∙ same-table)) ∙ own-clear l (kept.own d)

  dec-gone : Decides (not (anyb (has_key k) (table_calls (table_of u)))) (NoneSuch s u.table_horizon k (calls_in fs))
  dec-gone =
      dec-as (not (anyb (has_key k) (table_calls (table_of u))))
      (λ f i m. f i (perm-mem raw_earlier (Permᴰ.symm (apart-like fs).calls) m))
      (λ f i m. f i (perm-mem raw_earlier (apart-like fs).calls m))
      (dec-24 s o u (apart fs) w k)

  module _ (known : key_known k ≡ true) (there : anyb (has_key k) (table_calls (table_of u)) ≡ true) where
    abbrev rest : List FillStep
    rest = without_last (named_filling u.settings u.table_horizon k) fs

    any_seen : anyb (has_key k) seen ≡ true
    any_seen = any-sorted (has_key k) seen (sym (ap (anyb (has_key k)) calls-so) ∙ there)

    gone-again : Withdrawn s T k (keeping T rest)
    gone-again =
        subst (λ (x : Settings). Withdrawn s T k (keeping T (without_last (named_filling x u.table_horizon k) fs))) (sym w.settings)
        (gone-is s o u.table_horizon k T refl days
        (any-calls (canonical_of s) u.table_horizon k fs
        ∙ ap (λ (x : Settings). anyb (named_in x u.table_horizon k) (calls_in fs)) (sym w.settings)
        ∙ sym (any-shown u.settings u.table_horizon k (calls_in fs)) ∙ any_seen))

    rest-calls : without_last (has_key k) (table_calls (table_of u)) ≡ windowed u.settings u.table_horizon (calls_in (apart rest))
    rest-calls =
        ap (without_last (has_key k)) calls-so ∙ sorted-without seen k clear-seen any_seen
        ∙ ap in_order_of (shown-without u.settings u.table_horizon k (calls_in fs)
        ∙ ap (windowed u.settings u.table_horizon) (sym (calls-without u.settings u.table_horizon k fs)))
        ∙ sym (shown-apart u.settings u.table_horizon rest)

    rest-days : Days (calls_in rest)
    rest-days j m = days j (without-mem (named_in u.settings u.table_horizon k) (calls_in fs) j
        (subst (Memᴰ j) (calls-without u.settings u.table_horizon k fs) m))

    rest-start : Start s (out_of u k) (apart rest)
    rest-start =
        left-start s u k (apart fs) (apart rest) w known there
        (beside-on (apart-like rest).beside (beside-on (left-beside s T k rest gone-again) (beside_back (apart-like fs).beside)))
        (apart-days rest rest-days) rest-calls

    rest-again : Matches (search_tests l (out_of u k)) (again_causes s (Withdrawn s T k))
    unfolding withdrawn
    rest-again = again-match s (out_of u k) (apart rest) rest rest-start o (apart-like rest) T l refl few (Withdrawn s T k) gone-again
        (λ x b. one-withdrawn s T k x (keeping T rest) b gone-again) [] [] tt

    -- searched again
    rest-searched : is_taken (once (out_of u k)).answer ≡ true → Leaves s l fs (withdraw k) (Ok Taken) (once (out_of u k)).load rest
    unfolding withdrawn
    rest-searched t =
        let at : state_at (once (out_of u k)).load rest ≡ done ((once (out_of u k)).load.limit) (keeping T rest) =
        found-state l.limit (out_of u k) t rest in
        record {
          after = subst (λ (x : State). After s x (withdraw k) (Ok Taken) (state_at (once (out_of u k)).load rest))
              (sym (state-done s o l fs d w))
              (subst (After s T (withdraw k) (Ok Taken)) (sym at) (a_withdrawal gone-again
              (again-so s (out_of u k) (apart rest) rest rest-start o (apart-like rest) (state_at u fs) l.limit few t)));
          searched = found-searched l.limit (out_of u k) t;
          start = searched-start s (out_of u k) (apart rest) rest rest-start (apart-like rest).beside rest-days
              (apart-again u.settings u.table_horizon rest) l.limit t;
        }

  withdraw-front : Matches (withdraw_tests u k ++ search_tests l (taken_out u k).load) (withdraw_causes s T k)
  withdraw-front = (refl, dec-key k, λ e. (refl, dec-gone, λ f. go e f))
    where
      go : not (key_known k) ≡ false → not (anyb (has_key k) (table_calls (table_of u))) ≡ false
          → Matches (search_tests l (taken_out u k).load) (again_causes s (Withdrawn s T k))
      go e f =
          let known = not-false (key_known k) e in
          let there = not-false (anyb (has_key k) (table_calls (table_of u))) f in
          subst (λ (r : StepResult). Matches (search_tests l r.load) (again_causes s (Withdrawn s T k))) (sym (there-goes u k known there))
          (rest-again known there)

  pub withdrawn-match : Matches (tests.withdraw_causes l k) (withdraw_causes s (state_at l fs) k)
  withdrawn-match =
      subst (λ (t : State). Matches (tests.withdraw_causes l k) (withdraw_causes s t k)) (sym (state-done s o l fs d w))
      (subst (λ (b : Bool). Matches (cond b (withdraw_tests u k ++ search_tests l (taken_out u k).load) (withdraw_tests l k))
      (withdraw_causes s T k)) (sym d) withdraw-front)

  abbrev LeftBy : StepResult → Type 0
  LeftBy r = Leaves s l fs (withdraw k) r.answer r.load
      (cond (is_taken r.answer) (without_last (named_filling u.settings u.table_horizon k) fs) fs)

  refused-so : (n : Load) → n.searched ≡ false → is_taken (once n).answer ≡ false → LeftBy (record { answer = (once n).answer; load = l })
  refused-so n new t = untaken-refused l.limit n new (λ a. LeftBy (record { answer = a; load = l }))
      (λ r. stays-so s l fs (withdraw k) r d w) t

  withdrawn-again : LeftBy (again l (taken_out u k))
  unfolding again
  withdrawn-again = out_cases u k (λ r. LeftBy (again l r)) (λ e. stays-so s l fs (withdraw k) _ d w)
      (λ e f. stays-so s l fs (withdraw k) _ d w)
      (λ g. go g (is_taken (once (out_of u k)).answer) refl)
    where
      go : (g : Goes u k) → (b : Bool) → is_taken (once (out_of u k)).answer ≡ b
          → LeftBy (cond {A = StepResult} b (record { answer = Ok Taken; load = (once (out_of u k)).load })
          (record { answer = (once (out_of u k)).answer; load = l }))
      go g true t = rest-searched g.known g.there t
      go g false t = refused-so (out_of u k) w.fresh t

  pub withdrawn-leaves-so : Leaves s l fs (withdraw k) (withdraw_spec l k).answer (withdraw_spec l k).load
      (cond (is_taken (withdraw_spec l k).answer) (without_last (named_filling l.settings l.table_horizon k) fs) fs)
  unfolding withdraw_spec unsearched_of
  withdrawn-leaves-so = subst (λ (b : Bool). LeftBy (cond b (again l (taken_out u k)) (taken_out l k))) (sym d) withdrawn-again
