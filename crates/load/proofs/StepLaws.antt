-- The load that a step returns, by its answer: laws that the steps' proofs cite.
use Rattle.refusal.specs.declared.Accepted.TheVariants.{Taken, Outside}
use Rattle.std.specs.Prelude.{Option, Err, Ok}
use Prim.Native.Nat.{ℕ, ◌+◌, ◌<◌}
use mathlib.Core.Path.{◌≡◌, refl, sym, ap, ◌∙◌}
use mathlib.Core.Bool.{Bool, true, false, not, cond, true≢false}
use mathlib.Core.List.{List, [], ◌∷◌, ◌++◌}
use borrow.Author.Tests.{not-false}
use lib.ListN.{set}
use Rattle.laws.proofs.Bools.{cond-by, cond-not}
use Rattle.refusal.specs.declared.Refusal.TheVariants.{SettingsRange, ClockRange, AlreadySearched, FieldRange, DateWrong, ServiceUnknown}
use Rattle.refusal.specs.declared.Refusal.{Refusal}
use Rattle.refusal.specs.First.{AllFail, hit, miss, none as no_test, first_answer, is_refused, is_taken, Answer}
use Rattle.refusal.proofs.FirstLaws.{taken_is, first-is-answer, answer-is-first, first-append, first_taken}
use Rattle.settings.specs.declared.Settings.{Settings}
use Rattle.settings.specs.Settings.{over_counts, all_near, settings_tests, canonical_of}
use Rattle.stops.specs.declared.Stop.{Stop}
use Rattle.stops.specs.declared.StopInput.{StopInput}
use Rattle.stops.specs.Taken.{stop_of, blank_stop}
use Rattle.stops.proofs.Laws as stops
use Rattle.calls.specs.declared.Call.{Call}
use Rattle.calls.specs.declared.CallInput.{CallInput}
use Rattle.calls.specs.Tried.{Tried}
use Rattle.calls.specs.declared.Uncut.{Uncut}
use Rattle.calls.specs.declared.Uncut.TheVariants.{In, Outside as Beyond}
use Rattle.calls.specs.Calls.{known, field_tests}
use Rattle.calls.specs.Tables.{blank_call, put}
use Rattle.calls.specs.Uncut.{uncut_on, Told}
use Rattle.calls.proofs.UncutLaws.{uncut-tells}
use Rattle.rules.specs.declared.Rule.{Rule}
use Rattle.rules.specs.Rules.{blank_rule}
use Rattle.rules.proofs.SoundLaws as rules
use Rattle.profile.specs.declared.Journey.{Journey}
use Rattle.profile.specs.Journeys.{no_journey}
use Rattle.services.specs.Wrong.{dates_wrong}
use Rattle.week.specs.declared.Week.{Week}
use Rattle.week.specs.declared.Running.{Running}
use Rattle.week.specs.declared.Running.TheVariants.{Unknown, Rests, Runs}
use Rattle.week.specs.Weeks.{is_dated, undated_week, closed_week, running}
use Rattle.load.specs.declared.Load.{Load}
use Rattle.load.specs.declared.StepResult.{StepResult}
use Rattle.load.specs.Load.{empty_with, empty_of, table_of, with_table, with_stops, with_rules, with_week}
use Rattle.load.specs.Steps.{unless_refused, open_spec_of}
use Rattle.load.specs.Steps.{stepped, undated, dated, open_answer, station_in, stop_answer, stop_load, stop_spec}
use Rattle.load.specs.Steps.{call_fitted, call_load, plain_call, is_unknown, is_resting, running_tests, gate_answer, closed_load, closing}
use Rattle.load.specs.Steps.{gated, dated_call, call_spec, rule_answer, rule_load, rule_spec}

-- ---- opening

pub empty-made : (s : Settings) (w : Week) (a : Stop) (b : Call) (r : Rule) (j : Journey) → a ≡ blank_stop → b ≡ blank_call → r ≡ blank_rule
    → j ≡ no_journey → empty_with s a b r j w ≡ empty_of s w
unfolding empty_of
empty-made s w a b r j ea eb er ej = λ k. empty_with s (ea k) (eb k) (er k) (ej k) w

-- without dates the answer is that of the settings
pub undated-answer : (s : Settings) → first_answer (settings_tests s) ≡ open_answer (undated s)
unfolding open_answer settings_tests
undated-answer s = refl

-- a load that is opened anew
module _ (l : Load) (s : Settings) (a : Answer) (h : a ≡ first_answer (settings_tests s)) where
  pub reopen-refused : is_refused a ≡ true → stepped a l ≡ unless_refused l (open_spec_of (undated s))
  unfolding open_spec_of
  reopen-refused e =
      let q : a ≡ open_answer (undated s) = h ∙ undated-answer s in
      let same : l ≡ (unless_refused l (open_spec_of (undated s))).load = sym (cond-by _ _ (ap is_refused (sym q) ∙ e)) in
      λ k. record { answer = q k; load = same k }

  pub reopen-taken : is_refused a ≡ false → (c : Settings) (w : Week) → c ≡ canonical_of s → w ≡ undated_week
      → (m : Load) → m ≡ empty_of c w → stepped a m ≡ unless_refused l (open_spec_of (undated s))
  unfolding open_spec_of
  reopen-taken e c w ec ew m em =
      let q : a ≡ open_answer (undated s) = h ∙ undated-answer s in
      let f : is_refused (open_answer (undated s)) ≡ false = ap is_refused (sym q) ∙ e in
      let made : m ≡ empty_of (canonical_of s) undated_week = em ∙ (λ k. empty_of (ec k) (ew k)) in
      let same : m ≡ (unless_refused l (open_spec_of (undated s))).load = made ∙ sym (cond-not _ _ f ∙ cond-not _ _ f) in
      λ k. record { answer = q k; load = same k }

-- settings that are not sent back pass both tests
settings-pass : (s : Settings) → is_refused (first_answer (settings_tests s)) ≡ false → AllFail (settings_tests s)
unfolding settings_tests first_answer
settings-pass s e = go (over_counts s.origins s.targets s.max_transfers s.transfer_seconds) (not (all_near s.now s.epochs)) e
  where
    go : (x y : Bool) → is_refused (cond x (Err SettingsRange) (cond y (Err ClockRange) (Ok Taken))) ≡ false
        → (x ≡ false) × ((y ≡ false) × Unit {0})
    go true y q = absurd (true≢false q)
    go false true q = absurd (true≢false q)
    go false false q = (refl, (refl, tt))

-- with dates: the answer of the settings, else 20
module _ (s : Settings) (dates : List ℕ) (a : Answer) (h : a ≡ first_answer (settings_tests s)) where
  pub settings-refuse : is_refused a ≡ true → a ≡ open_answer (dated s dates)
  unfolding open_answer
  settings-refuse e =
      h ∙ first-is-answer _ _
      (first-append _ (settings_tests s) ((dates_wrong dates, Err DateWrong) ∷ []) (answer-is-first (settings_tests s))
      (λ t. true≢false (sym e ∙ ap is_refused (h ∙ t))))

  pub dates-refuse : is_refused a ≡ false → dates_wrong dates ≡ true → Err DateWrong ≡ open_answer (dated s dates)
  unfolding open_answer settings_tests
  dates-refuse e d = let f = settings-pass s (ap is_refused (sym h) ∙ e) in first-is-answer _ _ (miss f.0 (miss f.1.0 (hit d)))

  pub dates-pass : is_refused a ≡ false → dates_wrong dates ≡ false → Ok Taken ≡ open_answer (dated s dates)
  unfolding open_answer settings_tests
  dates-pass e d = let f = settings-pass s (ap is_refused (sym h) ∙ e) in first-is-answer _ _ (miss f.0 (miss f.1.0 (miss d no_test)))

-- ---- stop

module _ (l : Load) (id : List ℕ) (name parent : Option (List ℕ)) (i : StopInput) (a : Answer)
    (h : a ≡ stop_answer l id name parent i) where
  pub stop-room : is_taken a ≡ true → l.stop_count < 128
  stop-room e = (stops.passed l.searched l.stops l.stop_count (station_in l parent) id name parent i (sym h ∙ taken_is a e)).room

  pub stop-taken : (s : Stop) → is_taken a ≡ true → s ≡ stop_of id name (station_in l parent) i
      → stepped a (with_stops l (set l.stops l.stop_count s) (l.stop_count + 1)) ≡ stop_spec l id name parent i
  unfolding stop_spec
  stop-taken s e q =
      let same : with_stops l (set l.stops l.stop_count s) (l.stop_count + 1) ≡ stop_load l (stop_of id name (station_in l parent) i)
      (stop_answer l id name parent i) =
      ap (λ (x : Stop). with_stops l (set l.stops l.stop_count x) (l.stop_count + 1)) q ∙ sym (cond-by _ _ (ap is_taken (sym h) ∙ e)) in
      λ k. record { answer = h k; load = same k }

  pub stop-refused : is_taken a ≡ false → stepped a l ≡ stop_spec l id name parent i
  unfolding stop_spec
  stop-refused e =
      let same : l ≡ stop_load l (stop_of id name (station_in l parent) i) (stop_answer l id name parent i) =
      sym (cond-not _ _ (ap is_taken (sym h) ∙ e)) in
      λ k. record { answer = h k; load = same k }

-- ---- call

module _ (l : Load) (i : CallInput) (f : Tried) (h : f ≡ call_fitted l i) where
  pub call-refused : is_refused f.answer ≡ true → stepped f.answer l ≡ plain_call l i
  unfolding plain_call
  call-refused e =
      let same : l ≡ call_load l f = sym (cond-by _ _ e) in
      λ k. record { answer = (h k).answer; load = (same ∙ ap (call_load l) h) k }

  pub call-taken : is_refused f.answer ≡ false → stepped f.answer (with_table l f.table) ≡ plain_call l i
  unfolding plain_call
  call-taken e =
      let same : with_table l f.table ≡ call_load l f = sym (cond-not _ _ e) in
      λ k. record { answer = (h k).answer; load = (same ∙ ap (call_load l) h) k }

-- a call that is sent back leaves the load
pub plain-unchanged : (l : Load) (i : CallInput) → is_refused (plain_call l i).answer ≡ true → (plain_call l i).load ≡ l
unfolding plain_call
plain-unchanged l i e = cond-by _ _ e

-- where nothing is cut
module _ (l : Load) (i : CallInput) where
  abbrev uncut_call : Uncut
  uncut_call = uncut_on l.settings l.searched l.stop_count l.call_count l.table_horizon i

  told : Told l.settings l.searched l.stop_count (table_of l) i uncut_call
  told = uncut-tells l.settings l.searched l.stop_count (table_of l) i

  pub call-room : (c : Call) → uncut_call ≡ In c → l.call_count < 512
  call-room c e = told.room c e

  pub call-goes-in : (c : Call) → uncut_call ≡ In c
      → plain_call l i ≡ record { answer = Ok Taken; load = with_table l (put (table_of l) c) }
  call-goes-in c e = sym (call-taken l i _ (sym (told.goes_in c e)) refl)

  pub call-outside : uncut_call ≡ Beyond → plain_call l i ≡ record { answer = Ok Outside; load = with_table l (table_of l) }
  call-outside e = sym (call-taken l i _ (sym (told.outside e)) refl)

-- ---- call on a dated load

-- the answer of the service itself
abbrev pub told_of : Running → Answer
told_of Unknown = Err ServiceUnknown
told_of Rests = Ok Outside
told_of Runs = Ok Taken

module _ (searched : Bool) (stops : ℕ) (i : CallInput) where
  pub gate-searched : (r : Running) → searched ≡ true → Err AlreadySearched ≡ gate_answer searched stops r i
  unfolding gate_answer
  gate-searched r e = first-is-answer _ _ (hit e)

  pub gate-wrong : (r : Running) → searched ≡ false → known stops i ≡ false → Err FieldRange ≡ gate_answer searched stops r i
  unfolding gate_answer
  gate-wrong r e k = first-is-answer _ _ (miss e (hit (ap not k)))

  pub gate-told : (r : Running) → searched ≡ false → known stops i ≡ true → told_of r ≡ gate_answer searched stops r i
  unfolding gate_answer
  gate-told Unknown e k = first-is-answer _ _ (miss e (miss (ap not k) (hit refl)))
  gate-told Rests e k = first-is-answer _ _ (miss e (miss (ap not k) (miss refl (hit refl))))
  gate-told Runs e k = first-is-answer _ _ (miss e (miss (ap not k) (miss refl (miss refl no_test))))

  -- what is outside by its service is of one that doesn't run
  pub gate-rests : (r : Running) → gate_answer searched stops r i ≡ Ok Outside → (known stops i ≡ true) × (r ≡ Rests)
  gate-rests r e = go searched refl (known stops i) refl
    where
      by : (r : Running) → told_of r ≡ Ok Outside → r ≡ Rests
      by Unknown q = absurd (true≢false (ap is_refused q))
      by Rests q = refl
      by Runs q = absurd (true≢false (ap is_taken q))

      go : (b : Bool) → searched ≡ b → (c : Bool) → known stops i ≡ c → (known stops i ≡ true) × (r ≡ Rests)
      go true s c k = absurd (true≢false (ap is_refused (gate-searched r s ∙ e)))
      go false s false k = absurd (true≢false (ap is_refused (gate-wrong r s k ∙ e)))
      go false s true k = (k, by r (gate-told r s k ∙ e))

  -- what goes on has passed them all
  pub gate-passed : (r : Running) → gate_answer searched stops r i ≡ Ok Taken → (searched ≡ false) × ((known stops i ≡ true) × (r ≡ Runs))
  unfolding gate_answer
  gate-passed r e =
      let f = first_taken _ _ refl (answer-is-first (field_tests searched stops i ++ running_tests r)) e in
      (f.0, (not-false _ f.1.0, go r f.1.1.0 f.1.1.1.0))
    where
      go : (r : Running) → is_unknown r ≡ false → is_resting r ≡ false → r ≡ Runs
      go Unknown a b = absurd (true≢false a)
      go Rests a b = absurd (true≢false b)
      go Runs a b = refl

module _ (l : Load) (r : Running) (i : CallInput) (a : Answer) (h : a ≡ gate_answer l.searched l.stop_count r i) where
  by-gate : gated l i a ≡ dated_call l r i
  unfolding dated_call
  by-gate = ap (gated l i) h

  pub gate-refused : is_refused a ≡ true → stepped a l ≡ dated_call l r i
  gate-refused e = go a refl ∙ by-gate
    where
      go : (b : Answer) → a ≡ b → stepped a l ≡ gated l i a
      go (Ok Taken) q = absurd (true≢false (sym e ∙ ap is_refused q))
      go (Ok Outside) q = absurd (true≢false (sym e ∙ ap is_refused q))
      go (Err x) q = rw q refl

  pub gate-outside : is_refused a ≡ false → is_taken a ≡ false → (w : Week) → w ≡ closed_week l.week
      → stepped a (with_week l w) ≡ dated_call l r i
  gate-outside e t w we = (λ k. record { answer = a; load = with_week l (we k) }) ∙ go a refl ∙ by-gate
    where
      go : (b : Answer) → a ≡ b → stepped a (closed_load l) ≡ gated l i a
      go (Ok Taken) q = absurd (true≢false (sym (ap is_taken q) ∙ t))
      go (Ok Outside) q = rw q refl
      go (Err x) q = absurd (true≢false (sym (ap is_refused q) ∙ e))

  passes : is_taken a ≡ true → closing l (plain_call l i) ≡ dated_call l r i
  passes t = ap (gated l i) (sym (taken_is a t)) ∙ by-gate

  pub plain-refused : is_taken a ≡ true → (b : Answer) (m : Load) → stepped b m ≡ plain_call l i → is_refused b ≡ true
      → stepped b m ≡ dated_call l r i
  plain-refused t b m q e =
      let same : m ≡ (closing l (stepped b m)).load =
      ap (λ (x : StepResult). x.load) q ∙ plain-unchanged l i (ap (λ (x : StepResult). is_refused x.answer) (sym q) ∙ e)
      ∙ sym (cond-by _ _ e) in
      (λ k. stepped b (same k)) ∙ ap (closing l) q ∙ passes t

  pub plain-answered : is_taken a ≡ true → (b : Answer) (m : Load) → stepped b m ≡ plain_call l i → is_refused b ≡ false → (w : Week)
      → w ≡ closed_week l.week → stepped b (with_week m w) ≡ dated_call l r i
  plain-answered t b m q e w we =
      let same : with_week m w ≡ (closing l (stepped b m)).load = ap (with_week m) we ∙ sym (cond-not _ _ e) in
      (λ k. stepped b (same k)) ∙ ap (closing l) q ∙ passes t

module _ (l : Load) (name : List ℕ) (i : CallInput) where
  pub call-dated : is_dated l.week ≡ true → (r : Running) → r ≡ running l.week name i.day → dated_call l r i ≡ call_spec l name i
  unfolding call_spec
  call-dated d r q = ap (λ (x : Running). dated_call l x i) q ∙ sym (cond-by _ _ d)

  pub call-undated : is_dated l.week ≡ false → plain_call l i ≡ call_spec l name i
  unfolding call_spec
  call-undated d = sym (cond-not _ _ d)

-- what became of a call, by its week and its gate
pub data Called (l : Load) (name : List ℕ) (i : CallInput) : StepResult → Type 0 where
  without : is_dated l.week ≡ false → Called l name i (plain_call l i)
  goes_on : is_dated l.week ≡ true → gate_answer l.searched l.stop_count (running l.week name i.day) i ≡ Ok Taken
      → Called l name i (closing l (plain_call l i))
  stays_out : is_dated l.week ≡ true → gate_answer l.searched l.stop_count (running l.week name i.day) i ≡ Ok Outside
      → Called l name i (record { answer = Ok Outside; load = closed_load l })
  sent_back : is_dated l.week ≡ true → (r : Refusal) → gate_answer l.searched l.stop_count (running l.week name i.day) i ≡ Err r
      → Called l name i (record { answer = Err r; load = l })

pub called : (l : Load) (name : List ℕ) (i : CallInput) → Called l name i (call_spec l name i)
unfolding call_spec dated_call
called l name i = go (is_dated l.week) refl
  where
    by : is_dated l.week ≡ true → (a : Answer) → gate_answer l.searched l.stop_count (running l.week name i.day) i ≡ a
        → Called l name i (gated l i a)
    by d (Ok Taken) e = goes_on d e
    by d (Ok Outside) e = stays_out d e
    by d (Err r) e = sent_back d r e

    go : (b : Bool) → is_dated l.week ≡ b
        → Called l name i (cond b (gated l i (gate_answer l.searched l.stop_count (running l.week name i.day) i)) (plain_call l i))
    go true d = by d _ refl
    go false d = without d

-- ---- rule

module _ (l : Load) (i : Rule) (a : Answer) (h : a ≡ rule_answer l i) where
  pub rule-room : is_taken a ≡ true → l.rule_count < 128
  rule-room e = (rules.passed l.searched l.stop_count l.rules l.rule_count i (sym h ∙ taken_is a e)).room

  pub rule-taken : (r : Rule) → is_taken a ≡ true → r ≡ i
      → stepped a (with_rules l (set l.rules l.rule_count r) (l.rule_count + 1)) ≡ rule_spec l i
  unfolding rule_spec
  rule-taken r e q =
      let same : with_rules l (set l.rules l.rule_count r) (l.rule_count + 1) ≡ rule_load l i (rule_answer l i) =
      ap (λ (x : Rule). with_rules l (set l.rules l.rule_count x) (l.rule_count + 1)) q ∙ sym (cond-by _ _ (ap is_taken (sym h) ∙ e)) in
      λ k. record { answer = h k; load = same k }

  pub rule-refused : is_taken a ≡ false → stepped a l ≡ rule_spec l i
  unfolding rule_spec
  rule-refused e =
      let same : l ≡ rule_load l i (rule_answer l i) = sym (cond-not _ _ (ap is_taken (sym h) ∙ e)) in
      λ k. record { answer = h k; load = same k }
