-- The program's tests of a call decide its causes, where the load holds what was taken.
use Rattle.std.specs.Option.{unwrap_or}
use Rattle.laws.proofs.Options.{some-injective}
use Rattle.refusal.specs.declared.Accepted.TheVariants.{Outside}
use Rattle.std.specs.Prelude.{None, Option, Some, Err, Ok, is_none}
use Prim.Native.Nat.{ℕ, ◌≤◌, ◌<◌}
use mathlib.Core.Path.{◌≡◌, refl, sym, ap, subst, ◌∙◌}
use mathlib.Core.Logic.{◌⊎◌, inl, inr, ◌↔◌}
use mathlib.Core.Bool.{Bool, true, false, not, cond, ◌&&◌, true≢false, false≢true}
use mathlib.Core.List.{List, [], ◌∷◌, ◌++◌}
use native.Mathlib.Omega.{arith}
use lib.Dec.{leb, ltb}
use lib.ListN.{length}
use borrow.Author.Tests.{ltb-true, ltb-false, lt-ltb}
use Rattle.laws.proofs.Bools.{or-true-left, or_true_right}
use Rattle.refusal.specs.declared.Refusal.TheVariants.{FieldRange, NoRoom}
use Rattle.refusal.specs.First.{first_answer, Answer}
use Rattle.settings.specs.declared.Settings.{Settings}
use Rattle.settings.specs.Settings.{canonical_of}
use Rattle.calls.specs.declared.CallInput.{CallInput}
use Rattle.calls.specs.Tried.{Tried}
use Rattle.calls.specs.declared.Table.{Table}
use Rattle.calls.specs.Windows as windows
use Rattle.calls.specs.Calls.{known, un_timed, reversed, time_tests, call_time, call_fit}
use Rattle.calls.specs.Tables.{less}
use Rattle.calls.specs.Reached.{is_full, reached}
use Rattle.calls.specs.Reached as tests
use Rattle.calls.proofs.ReachedLaws.{fitted-reached}
use Rattle.load.specs.declared.Load.{Load}
use Rattle.load.specs.Load.{table_of}
use Rattle.week.specs.Weeks.{running}
use Rattle.week.specs.declared.Week.{Week}
use Rattle.load.specs.Steps.{is_unknown, is_resting, running_tests, call_spec}
use Rattle.load.specs.FillStep.{FillStep}
use Rattle.again.specs.Again.{unsearched_of}
use Rattle.again.specs.Causes.{again_tests, add_causes}
use Rattle.comparison.specs.Taken.{stops_in, calls_in, State}
use Rattle.comparison.specs.Horizon.{Fits}
use Rattle.comparison.specs.Causes.{Cause, Reversed, Fitting, window_causes, call_front, call_causes}
use Rattle.comparison.proofs.Deciding.{Decides, Matches, dec-not-ltb, dec-not-leb, dec-or, dec-nand, dec-as}
use Rattle.comparison.proofs.OneLaws.{one-fits}
use Rattle.comparison.proofs.SettingLaws.{Opened}
use Rattle.comparison.proofs.WeekLaws.{WeekHeld, dec-unknown, dec-resting}
use Rattle.comparison.proofs.StartLaws.{Start, state_at}
use Rattle.comparison.proofs.HorizonLaws.{fits, showing}

-- ---- the fields

given-absent : (v : ℕ) → Some v ≡ None → ⊥
given-absent v e = cc

dec-absent : (x : Option ℕ) → Decides (is_none x) (x ≡ None)
dec-absent (Some v) = (λ e. absurd (false≢true e), λ e. absurd (given-absent v e))
dec-absent None = (λ e. refl, λ e. refl)

module _ {A B C D E : Type 0} where
  to-right : ((((A ⊎ B) ⊎ C) ⊎ D) ⊎ E) → A ⊎ B ⊎ C ⊎ D ⊎ E
  to-right (inl (inl (inl (inl x)))) = inl x
  to-right (inl (inl (inl (inr x)))) = inr (inl x)
  to-right (inl (inl (inr x))) = inr (inr (inl x))
  to-right (inl (inr x)) = inr (inr (inr (inl x)))
  to-right (inr x) = inr (inr (inr (inr x)))

  to-left : A ⊎ B ⊎ C ⊎ D ⊎ E → ((((A ⊎ B) ⊎ C) ⊎ D) ⊎ E)
  to-left (inl x) = inl (inl (inl (inl x)))
  to-left (inr (inl x)) = inl (inl (inl (inr x)))
  to-left (inr (inr (inl x))) = inl (inl (inr x))
  to-left (inr (inr (inr (inl x)))) = inl (inr x)
  to-left (inr (inr (inr (inr x)))) = inr x

module _ (i : CallInput) where
  dec-fields : (n : ℕ) → Decides (not (known n i)) (n ≤ i.stop ⊎ 65535 ≤ i.trip ⊎ 2 < i.day ⊎ 3 < i.pickup ⊎ 3 < i.drop_off)
  unfolding known
  dec-fields n =
      dec-as (not (ltb i.stop n && ltb i.trip 65535 && leb i.day 2 && leb i.pickup 3 && leb i.drop_off 3)) to-right to-left
      (dec-nand (ltb i.stop n && ltb i.trip 65535 && leb i.day 2 && leb i.pickup 3) (leb i.drop_off 3)
      (dec-nand (ltb i.stop n && ltb i.trip 65535 && leb i.day 2) (leb i.pickup 3)
      (dec-nand (ltb i.stop n && ltb i.trip 65535) (leb i.day 2)
      (dec-nand (ltb i.stop n) (ltb i.trip 65535) (dec-not-ltb i.stop n) (dec-not-ltb i.trip 65535))
      (dec-not-leb i.day 2)) (dec-not-leb i.pickup 3)) (dec-not-leb i.drop_off 3))

  pub day_known : (n : ℕ) → not (known n i) ≡ false → i.day ≤ 2
  day_known n e = go (ltb 2 i.day) refl
    where
      go : (b : Bool) → ltb 2 i.day ≡ b → i.day ≤ 2
      go true q = absurd (true≢false (sym ((dec-fields n).1 (inr (inr (inl (ltb-true 2 i.day q))))) ∙ e))
      go false q = ltb-false 2 i.day q

  dec-reversed : un_timed i ≡ false → Decides (reversed i) (Reversed i)
  dec-reversed u = go i.arrival i.departure refl refl
    where
      go : (x y : Option ℕ) → i.arrival ≡ x → i.departure ≡ y → Decides (reversed i) (Reversed i)
      go None y p q = absurd (true≢false (sym (or-true-left (is_none i.arrival) (is_none i.departure) (ap is_none p)) ∙ u))
      go (Some a) None p q = absurd (true≢false (sym (or_true_right (is_none i.arrival) (is_none i.departure) (ap is_none q)) ∙ u))
      go (Some a) (Some d) p q =
          let e : reversed i ≡ ltb d a = λ k. ltb (unwrap_or (q k) 0) (unwrap_or (p k) 0) in (
            λ t. record { a = a; d = d; arrives = p; departs = q; after = ltb-true d a (sym e ∙ t) },
            λ v. e ∙ lt-ltb d a (omega (
              arith,
              v.after,
              some-injective v.a a (sym v.arrives ∙ p),
              some-injective v.d d (sym v.departs ∙ q),
            )),
          )

-- ---- the window and the cuts

abbrev pub two : Bool → Bool → Answer
two b c = first_answer ((b, Ok Outside) ∷ (c, Err NoRoom) ∷ [])

pub two_out : (b c : Bool) → Decides b (two b c ≡ Ok Outside)
unfolding first_answer
two_out true c = (λ e. refl, λ e. refl)
two_out false true = (λ e. absurd (false≢true e), λ e. absurd (cc))
two_out false false = (λ e. absurd (false≢true e), λ e. absurd (cc))

two-full : (b c : Bool) → b ≡ false → Decides c (two b c ≡ Err NoRoom)
unfolding first_answer
two-full true c q = absurd (true≢false q)
two-full false true q = (λ e. refl, λ e. refl)
two-full false false q = (λ e. absurd (false≢true e), λ e. absurd (cc))

-- what every call meets first, 9, 21, not running, an absent time and 10, fails
pub record Passes (week : Week) (n : ℕ) (name : List ℕ) (i : CallInput) : Type 0 where
  pub right : not (known n i) ≡ false
  pub found : is_unknown (running week name i.day) ≡ false
  pub awake : is_resting (running week name i.day) ≡ false
  pub present : un_timed i ≡ false
  pub forward : reversed i ≡ false

module _ (t : State) (week : Week) (n : ℕ) (v : WeekHeld week t.taken) (dates : t.dates ≡ week.dates)
    (stops : n ≡ length (stops_in t.taken)) (name : List ℕ) (i : CallInput) where
  pub front-match : (ts : List (Bool × Answer)) (cs : List Cause) → (Passes week n name i → Matches ts cs)
      → Matches ((not (known n i), Err FieldRange) ∷ running_tests (running week name i.day) ++ time_tests i ++ ts) (call_front t name i cs)
  front-match ts cs rest = (
    refl,
    subst (λ (k : ℕ). Decides (not (known n i)) (k ≤ i.stop ⊎ 65535 ≤ i.trip ⊎ 2 < i.day ⊎ 3 < i.pickup ⊎ 3 < i.drop_off)) stops
        (dec-fields i n),
    λ k. (
      refl,
      dec-unknown v t refl dates name i.day,
      λ m. (
        refl,
        dec-resting v t refl dates name i.day (day_known i n k) m,
        λ q. (
          refl,
          dec-or (is_none i.arrival) (is_none i.departure) (dec-absent i.arrival) (dec-absent i.departure),
          λ u. (refl, dec-reversed i u, λ r. rest (record { right = k; found = m; awake = q; present = u; forward = r })),
        ),
      ),
    ),
  )

-- ---- by the window

module _ (s : Settings) (l : Load) (fs : List FillStep) (w : Start s l fs) (o : Opened s) (i : CallInput) where
  abbrev z : Settings
  z = canonical_of s

  abbrev t : Table
  t = table_of l

  abbrev a : Option ℕ
  a = call_time z i i.arrival

  abbrev d : Option ℕ
  d = call_time z i i.departure

  abbrev out : Bool
  out = windows.outside (reached t a d).horizon a d

  abbrev filled : Bool
  filled = is_full (reached t a d) && ltb (less (reached t a d).horizon) 3600

  fit-answer : (call_fit z t i).answer ≡ two out filled
  unfolding call_fit
  fit-answer = ap (λ (f : Tried). f.answer) (fitted-reached t a d i)

  module _ (present : un_timed i ≡ false) (day : i.day ≤ 2) where
    pub fitting : Fits s (calls_in fs) i t.horizon t.limits (two out filled) (call_fit z t i).table.horizon (call_fit z t i).table.limits
    fitting =
        subst (λ (x : Answer). Fits s (calls_in fs) i t.horizon t.limits x (call_fit z t i).table.horizon (call_fit z t i).table.limits)
        fit-answer
        (fits s o (calls_in fs) w.held.days i present day t (showing s l fs w))

    dec-fitting : (x : Answer) → (two out filled ≡ x) ↔ Fitting s (state_at l fs) i x
    dec-fitting x = (
      λ e. (
        (call_fit z t i).table.horizon,
        (call_fit z t i).table.limits,
        subst (λ (y : Answer). Fits s (calls_in fs) i t.horizon t.limits y (call_fit z t i).table.horizon (call_fit z t i).table.limits)
            e fitting,
      ),
      λ (h, m, f). (one-fits s (calls_in fs) i t.horizon t.limits (two out filled) x (call_fit z t i).table.horizon h
          (call_fit z t i).table.limits m fitting f).answer,
    )

    dec-out : Decides out (Fitting s (state_at l fs) i (Ok Outside))
    dec-out = let f = dec-fitting (Ok Outside) in dec-as out f.0 f.1 (two_out out filled)

    dec-full : out ≡ false → Decides filled (Fitting s (state_at l fs) i (Err NoRoom))
    dec-full e = let f = dec-fitting (Err NoRoom) in dec-as filled f.0 f.1 (two-full out filled e)

  windowed-so : l.searched ≡ false → (name : List ℕ) → un_timed i ≡ false → i.day ≤ 2 → (b : Bool) → l.searched ≡ b
      → Matches (cond b (again_tests l a d (reached t a d) (call_spec (unsearched_of l) name i).load) (tests.call_window z t i))
      (window_causes b s (state_at l fs) name i)
  windowed-so f name u day true e = absurd (true≢false (sym e ∙ f))
  windowed-so f name u day false e = (refl, dec-out u day, λ q. (refl, dec-full u day q, λ r. tt))

  pub call-match : (name : List ℕ) → Matches (add_causes l name i) (call_causes s (state_at l fs) name i)
  call-match name =
      subst (λ (x : Settings). Matches ((not (known l.stop_count i), Err FieldRange) ∷ running_tests (running l.week name i.day)
      ++ time_tests i
      ++ cond l.searched (again_tests l (call_time x i i.arrival) (call_time x i i.departure)
      (reached t (call_time x i i.arrival) (call_time x i i.departure)) (call_spec (unsearched_of l) name i).load)
      (tests.call_window x t i))
      (call_causes s (state_at l fs) name i))
      (sym w.settings)
      (front-match (state_at l fs) l.week l.stop_count w.held.week refl w.held.stops name i
      (cond l.searched (again_tests l a d (reached t a d) (call_spec (unsearched_of l) name i).load) (tests.call_window z t i))
      (window_causes l.searched s (state_at l fs) name i)
      (λ p. windowed-so w.fresh name p.present (day_known i l.stop_count p.right) l.searched refl))
