-- The load that the accepted search is handed holds what was taken, and nothing else.
use Rattle.refusal.specs.declared.Accepted.TheVariants.{Taken, Outside}
use Rattle.std.specs.Prelude.{None, Some, Option, Err, Ok, is_some}
use Prim.Native.Nat.{ℕ, ◌+◌, ◌-◌, ◌≤◌, ◌<◌}
use mathlib.Core.Path.{◌≡◌, refl, sym, ap, subst, ◌∙◌}
use mathlib.Core.Logic.{◌⊎◌, inl, inr}
use mathlib.Core.Bool.{Bool, true, false, not, cond, ◌&&◌, true≢false, false≢true}
use mathlib.Core.List.Memᴰ
use mathlib.Core.List.{List, [], ◌∷◌, ◌++◌, append-nil, Memᴰ}
use native.Mathlib.Omega.{arith}
use native.Mathlib.Numerals.{add-one}
use lib.Dec.{leb, ltb, eqb}
use lib.ListN.{length, take, get_or, set, length-append, length-take}
use lib.Seq.{take-suc-set, get_or-set_same, get_or-set_other, get_or-take}
use borrow.Author.Tests.{eqb-true, leb-true}
use Rattle.std.proofs.lemmas.Bool.{not-false}
use Rattle.laws.proofs.Bools.{and-true-left, and-true-right}
use Rattle.laws.proofs.Options.{none-ne-some}
use Rattle.laws.proofs.Slots.{below-cases}
use Rattle.refusal.specs.declared.Refusal.TheVariants.{AlreadySearched, FieldRange, TimesReversed}
use Rattle.refusal.specs.First.{first_answer, is_taken, is_refused, Answer}
use Rattle.refusal.proofs.FirstLaws.{taken_is, answer-is-first, first_taken}
use Rattle.settings.specs.declared.Settings.{Settings}
use Rattle.calls.specs.declared.CallInput.{CallInput}
use Rattle.calls.specs.declared.Table.{Table}
use Rattle.calls.specs.Tried.{Tried}
use Rattle.calls.specs.Calls.{known, un_timed, reversed, call_tests, goes_on_of, call_on}
use Rattle.calls.specs.Shown.{windowed, table_calls, Shows, taken_of}
use Rattle.calls.proofs.SoundLaws.{call-tests-fail}
use Rattle.calls.proofs.ShownLaws.{step-shows}
use Rattle.rules.specs.declared.Rule.{Rule}
use Rattle.rules.proofs.SoundLaws as rules
use Rattle.stops.specs.declared.Stop.{Stop}
use Rattle.stops.specs.declared.StopInput.{StopInput}
use Rattle.stops.specs.Texts.{same_bytes_of}
use Rattle.stops.specs.Stops.{id_of, is_it, find_stop}
use Rattle.stops.specs.Answer.{station_of, stop_tests}
use Rattle.stops.specs.Taken.{stop_of, blank_stop}
use Rattle.stops.specs.Sound.{stop_at}
use Rattle.stops.proofs.SoundLaws.{found, id-kept, name-kept, needed-usable}
use Rattle.stops.proofs.Laws as stops
use Rattle.stops.proofs.Laws.{id-short}
use Rattle.load.specs.declared.Load.{Load}
use Rattle.load.specs.declared.StepResult.{StepResult}
use Rattle.load.specs.Load.{empty_of, table_of, with_table, with_stops, with_rules, with_week}
use Rattle.load.specs.Steps.{Opening, week_of, opened, station_in, stop_answer, stop_spec, call_fitted, plain_call, rule_answer}
use Rattle.load.specs.Steps.{rule_spec, service_spec, exception_spec}
use Rattle.load.specs.FillStep.{FillStep, stop, call, rule, service, exception, filled}
use Rattle.load.specs.Sound.{Three, Opens, Sound}
use Rattle.load.proofs.StepLaws.{Called, without, goes_on, stays_out, sent_back, called}
use Rattle.services.specs.Exceptions.{days_on, excepted_of}
use Rattle.week.specs.declared.Week.{Week}
use Rattle.week.specs.Weeks.{dates_in, undated_week, dated_week, closed_week, service_of, with_services, service_answer, service_on}
use Rattle.week.specs.Weeks.{exception_answer, place_in, service_in, exception_on}
use Rattle.week.proofs.StepLaws.{service-passed, exception-passed}
use Rattle.comparison.specs.Taken.{StopGiven, stops_in, calls_in, rules_in}
use Rattle.comparison.specs.Admitted.{Nth}
use Rattle.comparison.proofs.NthLaws.{nth-more, nth-new, bytes_same, calls-append, rules-append, stops-append}
use Rattle.comparison.proofs.KeyLaws.{KeyHeld}
use Rattle.comparison.proofs.WeekLaws.{WeekHeld}
use Rattle.comparison.proofs.WeekStepLaws.{opened-week, week-more, week-service, week-exception}

-- ---- a call that is taken, and one that is outside

-- the tests answer outside only where a time is absent
pub tests-untimed : (b : Bool) (n : ℕ) (i : CallInput) → first_answer (call_tests b n i) ≡ Ok Outside → un_timed i ≡ true
unfolding call_tests first_answer
tests-untimed b n i e = go b (not (known n i)) (un_timed i) (reversed i) e
  where
    go : (b1 b2 b3 b4 : Bool) → cond b1 (Err AlreadySearched)
        (cond b2 (Err FieldRange) (cond b3 (Ok Outside) (cond b4 (Err TimesReversed) (Ok Taken)))) ≡ Ok Outside → b3 ≡ true
    go true b2 b3 b4 q = absurd (cc)
    go false true b3 b4 q = absurd (cc)
    go false false true b4 q = refl
    go false false false true q = absurd (cc)
    go false false false false q = absurd (cc)

-- a taken call has a day of 0 to 2
day-true : (a b c d e : Bool) → (a && b && c && d && e) ≡ true → c ≡ true
day-true true true true d e q = refl
day-true true true false d e q = absurd (false≢true q)
day-true true false c d e q = absurd (false≢true q)
day-true false b c d e q = absurd (false≢true q)

pub tests-day : (b : Bool) (n : ℕ) (i : CallInput) → first_answer (call_tests b n i) ≡ Ok Taken → i.day ≤ 2
unfolding call_tests known
tests-day b n i e = leb-true i.day 2 (day-true (ltb i.stop n) (ltb i.trip 65535) (leb i.day 2) (leb i.pickup 3) (leb i.drop_off 3)
    (not-false (known n i) (call-tests-fail b n i e).1.0))

taken-day : (s : Settings) (b : Bool) (n : ℕ) (t : Table) (i : CallInput) → (call_on s b n t i).answer ≡ Ok Taken → i.day ≤ 2
unfolding call_on
taken-day s b n t i = go (first_answer (call_tests b n i)) refl
  where
    go : (a : Answer) → first_answer (call_tests b n i) ≡ a → (goes_on_of s t i a).answer ≡ Ok Taken → i.day ≤ 2
    go (Err w) e q = absurd (cc)
    go (Ok Outside) e q = absurd (cc)
    go (Ok Taken) e q = tests-day b n i e

-- ---- what a load holds of what was given

-- no parent was named, or the number held is that of a station in front of the k-th stop that has its id
abbrev pub ParentHeld : Option ℕ → List StopGiven → ℕ → Option (List ℕ) → Type 0
ParentHeld held ss k parent =
    ((parent ≡ None) × (held ≡ None))
    ⊎ ((n : ℕ) × (p : StopGiven) × (held ≡ Some n) × Nth ss n p × (n < k) × (parent ≡ Some p.id) × (p.input.location_type ≡ 1))

-- the k-th stop is held as it was given
pub record HeldAs (st : Stop) (ss : List StopGiven) (k : ℕ) : Type 0 where
  pub given : StopGiven
  pub at : Nth ss k given
  pub id : id_of st ≡ given.id
  pub kind : st.location_type ≡ given.input.location_type
  pub members : st.members ≡ given.input.members
  pub key : KeyHeld st given
  pub parent : ParentHeld st.parent ss k given.parent

pub record Held (l : Load) (fs : List FillStep) : Type 0 where
  pub calls : table_calls (table_of l) ≡ windowed l.settings l.table_horizon (calls_in fs)
  pub days : (i : CallInput) → Memᴰ i (calls_in fs) → i.day ≤ 2
  pub rules : take l.rule_count l.rules ≡ rules_in fs
  pub stops : l.stop_count ≡ length (stops_in fs)
  pub each : (k : ℕ) → k < l.stop_count → HeldAs (stop_at l.stops k) (stops_in fs) k
  pub week : WeekHeld l.week fs

-- the week of an opening holds nothing yet
week-opened : (d : Option (List ℕ)) → Three d → WeekHeld (week_of d) []
unfolding undated_week dated_week
week-opened None th = opened-week (week_of None) refl (λ e. absurd (false≢true e))
week-opened (Some dates) th = opened-week (week_of (Some dates)) refl (λ e. th)

pub opened-holds : (o : Opening) → Opens o → Held (opened o) []
unfolding empty_of
opened-holds o w = record {
  calls = refl;
  days = λ i m. absurd (Memᴰ.not-nil m);
  rules = refl;
  stops = refl;
  each = λ k h. absurd (omega arith);
  week = week-opened o.dates w.1;
}

-- the load with a week that holds it too
pub held-week : (l : Load) (fs : List FillStep) (v : Week) → Held l fs → WeekHeld v fs → Held (with_week l v) fs
held-week l fs v w h = record { calls = w.calls; days = w.days; rules = w.rules; stops = w.stops; each = w.each; week = h }

-- closed, a week holds the same
pub week-closed : (w : Week) (fs : List FillStep) → WeekHeld w fs → WeekHeld (closed_week w) fs
week-closed w fs v = record { services = v.services; short = v.short; apart = v.apart; orphan = v.orphan; three = v.three }

-- more stops keep one
parent-more : (held : Option ℕ) (ss ts : List StopGiven) (k : ℕ) (parent : Option (List ℕ)) → ParentHeld held ss k parent
    → ParentHeld held (ss ++ ts) k parent
parent-more held ss ts k parent (inl q) = inl q
parent-more held ss ts k parent (inr (n, p, h, m, b, e, t)) = inr (n, p, h, nth-more ss ts n p m, b, e, t)

held_more : (st : Stop) (ss ts : List StopGiven) (k : ℕ) → HeldAs st ss k → HeldAs st (ss ++ ts) k
held_more st ss ts k w = record {
  given = w.given;
  at = nth-more ss ts k w.given w.at;
  id = w.id;
  kind = w.kind;
  members = w.members;
  key = w.key;
  parent = parent-more st.parent ss ts k w.given.parent w.parent;
}

-- ---- a stop

-- the station that was found for a new stop
module _ (stops : List Stop) (n : ℕ) (ss : List StopGiven) (long : n ≤ length stops)
    (each : (k : ℕ) → k < n → HeldAs (stop_at stops k) ss k) where
  count : length (take n stops) ≡ n
  count = simp length-take (omega arith)

  station-at : (parent : List ℕ) (m : ℕ) → find_stop (is_it true parent) (take n stops) 0 ≡ Some m
      → (m < n) × (is_it true parent (stop_at stops m) ≡ true)
  unfolding stop_at
  station-at parent m e =
      let f = found (is_it true parent) (take n stops) 0 m e in
      let h : m < n = omega (arith, f.1, count) in
      let z : m - 0 ≡ m = omega arith in
      let g : get_or (take n stops) (m - 0) blank_stop ≡ get_or stops m blank_stop =
      ap (λ (j : ℕ). get_or (take n stops) j blank_stop) z ∙ get_or-take n stops m blank_stop h in
      (h, sym (ap (is_it true parent) g) ∙ f.2)

  station-held : (parent : Option (List ℕ)) (f : Option ℕ) → station_of stops n parent ≡ f → (is_some parent && not (is_some f)) ≡ false
      → ParentHeld f ss n parent
  unfolding station_of
  station-held None None e t = inl (refl, refl)
  station-held None (Some m) e t = absurd (none-ne-some m e)
  station-held (Some id) None e t = absurd (true≢false t)
  station-held (Some id) (Some m) e t =
      let (h, q) = station-at id m e in
      let w = each m h in
      let k : eqb (stop_at stops m).location_type 1 ≡ true = and-true-left _ _ q in
      let b : same_bytes_of (id_of (stop_at stops m)) id ≡ true = and-true-right (eqb (stop_at stops m).location_type 1) _ q in
      inr (m, w.given, refl, w.at, h, ap Some (sym (sym w.id ∙ bytes_same _ _ b)), sym w.kind ∙ eqb-true _ 1 k)

parent-found : (b : Bool) (ss : List Stop) (n : ℕ) (f : Option ℕ) (id : List ℕ) (name parent : Option (List ℕ)) (i : StopInput)
    → first_answer (stop_tests b ss n f id name parent i) ≡ Ok Taken → (is_some parent && not (is_some f)) ≡ false
unfolding stop_tests
parent-found b ss n f id name parent i e = (first_taken _ _ refl (answer-is-first (stop_tests b ss n f id name parent i)) e).1.1.1.1.0

snoc-length : {A : Type 0} (l : List A) (x : A) → length (l ++ x ∷ []) ≡ length l + 1
snoc-length l x = length-append l (x ∷ [])

module _ (l : Load) (fs : List FillStep) (sound : Sound l) (w : Held l fs) where
  -- a load that stays
  pub held_same : Held l (fs ++ [])
  held_same = subst (Held l) (sym (append-nil fs)) w

  module _ (id : List ℕ) (name parent : Option (List ℕ)) (i : StopInput) (e : stop_answer l id name parent i ≡ Ok Taken) where
    abbrev n : ℕ
    n = l.stop_count

    abbrev new : StopGiven
    new = record { id = id; name = name; parent = parent; input = i }

    abbrev st : Stop
    st = stop_of id name (station_in l parent) i

    abbrev gs : List FillStep
    gs = fs ++ stop id name parent i ∷ []

    room : n < length l.stops
    room = omega (arith, (stops.passed l.searched l.stops n (station_in l parent) id name parent i e).room, sound.stops.long)

    stops-new : stops_in gs ≡ stops_in fs ++ new ∷ []
    stops-new = stops-append fs (stop id name parent i ∷ [])

    at_new : stop_at (set l.stops n st) n ≡ st
    unfolding stop_at
    at_new = get_or-set_same l.stops n st blank_stop room

    at_old : (k : ℕ) → k < n → stop_at (set l.stops n st) k ≡ stop_at l.stops k
    unfolding stop_at
    at_old k g = get_or-set_other l.stops n k st blank_stop (λ e. omega arith)

    here : HeldAs st (stops_in fs ++ new ∷ []) n
    unfolding stop_of
    here = record {
      given = new;
      at = subst (λ (k : ℕ). Nth (stops_in fs ++ new ∷ []) k new) (sym w.stops) (nth-new (stops_in fs) new);
      id = id-kept l.searched l.stops n id name parent i e;
      kind = refl;
      members = refl;
      key = record {
        name = name-kept l.searched l.stops n id name parent i e;
        position = refl;
        needed = needed-usable l.searched l.stops n id name parent i e;
      };
      parent = parent-more (station_in l parent) (stops_in fs) (new ∷ []) n parent
          (station-held l.stops n (stops_in fs) (omega (arith, room)) w.each parent (station_in l parent) refl
          (parent-found l.searched l.stops n (station_in l parent) id name parent i e));
    }

    every : (k : ℕ) → k < n + 1 → HeldAs (stop_at (set l.stops n st) k) (stops_in fs ++ new ∷ []) k
    every k h = below-cases (λ j. HeldAs (stop_at (set l.stops n st) j) (stops_in fs ++ new ∷ []) j) n k h
        (λ less. subst (λ (x : Stop). HeldAs x (stops_in fs ++ new ∷ []) k) (sym (at_old k less))
        (held_more (stop_at l.stops k) (stops_in fs) (new ∷ []) k (w.each k less)))
        (subst (λ (x : Stop). HeldAs x (stops_in fs ++ new ∷ []) n) (sym at_new) here)

    calls-new : calls_in gs ≡ calls_in fs
    calls-new = calls-append fs (stop id name parent i ∷ []) ∙ append-nil (calls_in fs)

    rules-new : rules_in gs ≡ rules_in fs
    rules-new = rules-append fs (stop id name parent i ∷ []) ∙ append-nil (rules_in fs)

    stop-held : Held (with_stops l (set l.stops n st) (n + 1)) gs
    stop-held = record {
      calls = w.calls ∙ ap (windowed l.settings l.table_horizon) (sym calls-new);
      days = λ j m. w.days j (subst (Memᴰ j) calls-new m);
      rules = w.rules ∙ sym rules-new;
      stops = ap (λ (k : ℕ). k + 1) w.stops ∙ sym (snoc-length (stops_in fs) new) ∙ ap length (sym stops-new);
      each = λ k h. subst (λ (ss : List StopGiven). HeldAs (stop_at (set l.stops n st) k) ss k) (sym stops-new) (every k h);
      week = week-more l.week fs (stop id name parent i) refl (λ m. refl) w.week;
    }

  -- ---- a rule

  module _ (i : Rule) (e : rule_answer l i ≡ Ok Taken) where
    abbrev rs : List FillStep
    rs = fs ++ rule i ∷ []

    rule-room : l.rule_count < length l.rules
    rule-room = omega (arith, (rules.passed l.searched l.stop_count l.rules l.rule_count i e).room, sound.rules.long)

    rule-calls : calls_in rs ≡ calls_in fs
    rule-calls = calls-append fs (rule i ∷ []) ∙ append-nil (calls_in fs)

    rule-stops : stops_in rs ≡ stops_in fs
    rule-stops = stops-append fs (rule i ∷ []) ∙ append-nil (stops_in fs)

    one_more : take (l.rule_count + 1) (set l.rules l.rule_count i) ≡ rules_in rs
    one_more =
        ap (λ (k : ℕ). take k (set l.rules l.rule_count i)) (add-one l.rule_count)
        ∙ take-suc-set l.rules l.rule_count i rule-room
        ∙ ap (λ (r : List Rule). r ++ i ∷ []) w.rules
        ∙ sym (rules-append fs (rule i ∷ []))

    rule-held : Held (with_rules l (set l.rules l.rule_count i) (l.rule_count + 1)) rs
    rule-held = record {
      calls = w.calls ∙ ap (windowed l.settings l.table_horizon) (sym rule-calls);
      days = λ j m. w.days j (subst (Memᴰ j) rule-calls m);
      rules = one_more;
      stops = w.stops ∙ ap length (sym rule-stops);
      each = λ k h. subst (λ (ss : List StopGiven). HeldAs (stop_at l.stops k) ss k) (sym rule-stops) (w.each k h);
      week = week-more l.week fs (rule i) refl (λ m. refl) w.week;
    }

  -- ---- a call

  module _ (name : List ℕ) (i : CallInput) where
    abbrev fit : Tried
    fit = call_fitted l i

    abbrev cs : List FillStep
    cs = fs ++ call name i ∷ []

    -- what is in the table after the step, refused or not
    step : Shows l.settings fit.table (calls_in fs ++ taken_of l.settings l.searched l.stop_count (table_of l) i)
    step = step-shows l.settings l.searched l.stop_count (table_of l) i (calls_in fs) sound.table w.calls

    call-calls : calls_in cs ≡ calls_in fs ++ i ∷ []
    call-calls = calls-append fs (call name i ∷ [])

    call-rules : rules_in cs ≡ rules_in fs
    call-rules = rules-append fs (call name i ∷ []) ∙ append-nil (rules_in fs)

    call-stops : stops_in cs ≡ stops_in fs
    call-stops = stops-append fs (call name i ∷ []) ∙ append-nil (stops_in fs)

    call-held : fit.answer ≡ Ok Taken → Held (with_table l fit.table) cs
    call-held e = record {
      calls = step ∙ ap (λ (b : Bool). windowed l.settings fit.table.horizon (calls_in fs ++ cond b (i ∷ []) [])) (ap is_taken e)
          ∙ ap (windowed l.settings fit.table.horizon) (sym call-calls);
      days = λ j m. day j (Memᴰ.append_cases (calls_in fs) (subst (Memᴰ j) call-calls m));
      rules = w.rules ∙ sym call-rules;
      stops = w.stops ∙ ap length (sym call-stops);
      each = λ k h. subst (λ (ss : List StopGiven). HeldAs (stop_at l.stops k) ss k) (sym call-stops) (w.each k h);
      week = week-more l.week fs (call name i) refl (λ m. refl) w.week;
    }
      where
        day : (j : CallInput) → Memᴰ j (calls_in fs) ⊎ Memᴰ j (i ∷ []) → j.day ≤ 2
        day j (inl m) = w.days j m
        day j (inr m) = subst (λ (x : CallInput). x.day ≤ 2) (sym (Memᴰ.eq_of_singleton m))
            (taken-day l.settings l.searched l.stop_count (table_of l) i e)

    out-held : fit.answer ≡ Ok Outside → Held (with_table l fit.table) fs
    out-held e = record {
      calls =
          step ∙ ap (λ (b : Bool). windowed l.settings fit.table.horizon (calls_in fs ++ cond b (i ∷ []) [])) (ap is_taken e)
          ∙ ap (windowed l.settings fit.table.horizon) (append-nil (calls_in fs));
      days = w.days;
      rules = w.rules;
      stops = w.stops;
      each = w.each;
      week = w.week;
    }

  -- ---- a service, an exception

  -- what was taken beside stops, calls and rules leaves these
  module _ (x : FillStep) (no_call : calls_in (x ∷ []) ≡ []) (no_rule : rules_in (x ∷ []) ≡ []) (no_stop : stops_in (x ∷ []) ≡ []) where
    beside-calls : calls_in (fs ++ x ∷ []) ≡ calls_in fs
    beside-calls = calls-append fs (x ∷ []) ∙ ap (λ (r : List CallInput). calls_in fs ++ r) no_call ∙ append-nil (calls_in fs)

    beside-rules : rules_in (fs ++ x ∷ []) ≡ rules_in fs
    beside-rules = rules-append fs (x ∷ []) ∙ ap (λ (r : List Rule). rules_in fs ++ r) no_rule ∙ append-nil (rules_in fs)

    beside-stops : stops_in (fs ++ x ∷ []) ≡ stops_in fs
    beside-stops = stops-append fs (x ∷ []) ∙ ap (λ (r : List StopGiven). stops_in fs ++ r) no_stop ∙ append-nil (stops_in fs)

    beside-held : (v : Week) → WeekHeld v (fs ++ x ∷ []) → Held (with_week l v) (fs ++ x ∷ [])
    beside-held v h = record {
      calls = w.calls ∙ ap (windowed l.settings l.table_horizon) (sym beside-calls);
      days = λ j m. w.days j (subst (Memᴰ j) beside-calls m);
      rules = w.rules ∙ sym beside-rules;
      stops = w.stops ∙ ap length (sym beside-stops);
      each = λ k h. subst (λ (ss : List StopGiven). HeldAs (stop_at l.stops k) ss k) (sym beside-stops) (w.each k h);
      week = h;
    }

-- ---- every step that fills

abbrev pub given : Load → FillStep → List FillStep
given l x = cond (is_taken (filled l x).answer) (x ∷ []) []

pub fill-held : (l : Load) (x : FillStep) (fs : List FillStep) → Sound l → Held l fs → Held (filled l x).load (fs ++ given l x)
unfolding stop_spec plain_call rule_spec service_spec service_on exception_spec exception_on
fill-held l (stop id name parent i) fs sound w = go (is_taken (stop_answer l id name parent i)) refl
  where
    go : (b : Bool) → is_taken (stop_answer l id name parent i) ≡ b
        → Held (cond b (with_stops l (set l.stops l.stop_count (stop_of id name (station_in l parent) i)) (l.stop_count + 1)) l)
        (fs ++ cond b (stop id name parent i ∷ []) [])
    go true e = stop-held l fs sound w id name parent i (taken_is _ e)
    go false e = held_same l fs sound w
fill-held l (rule i) fs sound w = go (is_taken (rule_answer l i)) refl
  where
    go : (b : Bool) → is_taken (rule_answer l i) ≡ b
        → Held (cond b (with_rules l (set l.rules l.rule_count i) (l.rule_count + 1)) l) (fs ++ cond b (rule i ∷ []) [])
    go true e = rule-held l fs sound w i (taken_is _ e)
    go false e = held_same l fs sound w
fill-held l (call name i) fs sound w = by _ (called l name i)
  where
    go : (a : Answer) → (call_fitted l i).answer ≡ a
        → Held (cond (is_refused a) l (with_table l (call_fitted l i).table)) (fs ++ cond (is_taken a) (call name i ∷ []) [])
    go (Ok Taken) e = call-held l fs sound w name i e
    go (Ok Outside) e = subst (Held (with_table l (call_fitted l i).table)) (sym (append-nil fs)) (out-held l fs sound w name i e)
    go (Err r) e = held_same l fs sound w

    -- with its services closed
    shut : (m : Load) (gs : List FillStep) → m.week ≡ l.week → Held m gs → Held (with_week m (closed_week l.week)) gs
    shut m gs e v = held-week m gs (closed_week l.week) v
        (subst (λ (u : Week). WeekHeld (closed_week u) gs) e (week-closed m.week gs v.week))

    closes : (a : Answer) → (call_fitted l i).answer ≡ a
        → Held (cond (is_refused a) l (with_week (cond (is_refused a) l (with_table l (call_fitted l i).table)) (closed_week l.week)))
        (fs ++ cond (is_taken a) (call name i ∷ []) [])
    closes (Ok Taken) e = shut _ _ refl (go (Ok Taken) e)
    closes (Ok Outside) e = shut _ _ refl (go (Ok Outside) e)
    closes (Err r) e = go (Err r) e

    by : (r : StepResult) → Called l name i r → Held r.load (fs ++ cond (is_taken r.answer) (call name i ∷ []) [])
    by _ (without d) = go (call_fitted l i).answer refl
    by _ (goes_on d e) = closes (call_fitted l i).answer refl
    by _ (stays_out d e) = shut l (fs ++ []) refl (held_same l fs sound w)
    by _ (sent_back d r e) = held_same l fs sound w
fill-held l (service name weekdays start end) fs sound w = go (is_taken (service_answer l.week l.searched name start end)) refl
  where
    go : (b : Bool) → is_taken (service_answer l.week l.searched name start end) ≡ b
        → Held (with_week l (cond b (with_services l.week (set l.week.services l.week.service_count (service_of name weekdays start end))
        (l.week.service_count + 1)) l.week)) (fs ++ cond b (service name weekdays start end ∷ []) [])
    go true e =
        let p = service-passed l.week l.searched name weekdays start end _ refl e in
        beside-held l fs sound w (service name weekdays start end) refl refl refl _
        (week-service l.week fs name weekdays start end sound.week w.week p.room (id-short name p.name_right) p.new)
    go false e = held_same l fs sound w
fill-held l (exception name date kind) fs sound w = go (is_taken (exception_answer l.week l.searched name date kind)) refl
  where
    go : (b : Bool) → is_taken (exception_answer l.week l.searched name date kind) ≡ b
        → Held (with_week l (cond b (with_services l.week
        (set l.week.services (place_in l.week name) (excepted_of (service_in l.week name) (days_on (dates_in l.week) date) kind))
        l.week.service_count) l.week)) (fs ++ cond b (exception name date kind ∷ []) [])
    go true e =
        let p = exception-passed l.week l.searched name date kind _ refl e in
        beside-held l fs sound w (exception name date kind) refl refl refl _ (week-exception l.week fs name date kind w.week p.known)
    go false e = held_same l fs sound w
