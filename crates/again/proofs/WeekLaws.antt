-- The week stands beside what a search, a withdrawal and a plain call read; an answered call closes the services and does no more to it.
use Rattle.refusal.specs.declared.Accepted.TheVariants.{Taken}
use Rattle.std.specs.Prelude.{Err, Ok, None, Option, Some}
use Prim.Native.Nat.{ℕ}
use mathlib.Core.Path.{◌≡◌, refl, sym, ap, ◌∙◌}
use mathlib.Core.Logic.{inl, inr}
use mathlib.Core.Bool.{Bool, true, false, cond, false≢true}
use mathlib.Core.List.{List}
use lib.Dec.{leb, ltb}
use Rattle.laws.proofs.Bools.{cond-not}
use Rattle.refusal.specs.declared.Refusal.TheVariants.{SettingsRange, AlreadySearched}
use Rattle.refusal.specs.First.{is_refused, is_taken}
use Rattle.calls.specs.declared.CallInput.{CallInput}
use Rattle.profile.specs.declared.Journey.{Journey}
use Rattle.week.specs.declared.Week.{Week}
use Rattle.week.specs.Weeks.{is_dated, undated_week, closed_week}
use Rattle.week.specs.Sound.{WeekSound}
use Rattle.week.proofs.SoundLaws.{closed-sound}
use Rattle.offers.specs.Search.{Outcome, clashing, falling, found, answer_of}
use Rattle.load.specs.declared.Load.{Load}
use Rattle.load.specs.declared.StepResult.{StepResult}
use Rattle.load.specs.Load.{with_table, with_week}
use Rattle.load.specs.Steps.{call_fitted, plain_call, closed_load, closing, call_spec}
use Rattle.load.specs.Sound.{Sound}
use Rattle.load.proofs.SoundLaws.{with-week-sound}
use Rattle.load.proofs.StepLaws.{Called, without, goes_on, stays_out, sent_back, called}
use Rattle.search.specs.Timetable.{timetable_of}
use Rattle.search.specs.Search.{outcome_of, with_found, with_journeys, settled, search_spec}
use Rattle.search.specs.Within.{outcome_within, finishes_in, sent_back_of, ran_within, within_spec, step_of}
use Rattle.again.specs.Again.{unsearched_of, researched}
use Rattle.again.specs.Claims.{Own, Kept, ClosedSame}

abbrev with_week_of : Week → StepResult → StepResult
with_week_of w r = record { answer = r.answer; load = with_week r.load w }

-- ---- the search

pub search-week : (m : Load) (w : Week) → search_spec (with_week m w)
    ≡ record { answer = (search_spec m).answer; load = with_week (search_spec m).load w }
unfolding search_spec outcome_of timetable_of
search-week m w = go m.searched (outcome_of m)
  where
    go : (b : Bool) (o : Outcome) → cond {A = StepResult} b (record { answer = Err AlreadySearched; load = with_week m w })
        (record { answer = answer_of o; load = settled (with_week m w) o })
        ≡ with_week_of w (cond {A = StepResult} b (record { answer = Err AlreadySearched; load = m })
        (record { answer = answer_of o; load = settled m o }))
    go true o = refl
    go false clashing = refl
    go false falling = refl
    go false (found ks h k) = refl

found-week : (m : Load) (n : ℕ) (w : Week) (ks : List Journey) (h k : ℕ) (f : Bool)
    → cond f (with_journeys (with_week m w) ks h k) (with_found (with_week m w) ks h k (Some n))
    ≡ with_week (cond f (with_journeys m ks h k) (with_found m ks h k (Some n))) w
found-week m n w ks h k true = refl
found-week m n w ks h k false = refl

pub within-week : (m : Load) (n : ℕ) (w : Week) → step_of (within_spec (with_week m w) n) ≡ with_week_of w (step_of (within_spec m n))
unfolding within_spec outcome_within finishes_in timetable_of
within-week m n w = go m.searched (ltb 1 m.settings.max_transfers) (outcome_within m n)
  where
    go : (b c : Bool) (o : Outcome)
        → step_of (cond b (sent_back_of (with_week m w) (Err AlreadySearched))
        (cond c (sent_back_of (with_week m w) (Err SettingsRange)) (ran_within (with_week m w) n o)))
        ≡ with_week_of w (step_of (cond b (sent_back_of m (Err AlreadySearched))
        (cond c (sent_back_of m (Err SettingsRange)) (ran_within m n o))))
    go true c o = refl
    go false true o = refl
    go false false clashing = refl
    go false false falling = refl
    go false false (found ks h k) = ap (λ (x : Load). record { answer = Ok Taken; load = x }) (found-week m n w ks h k (finishes_in m n))

pub research-week : (limit : Option ℕ) (m : Load) (w : Week)
    → researched limit (with_week m w) ≡ record { answer = (researched limit m).answer; load = with_week (researched limit m).load w }
unfolding researched
research-week None m w = search-week m w
research-week (Some n) m w = go (leb m.settings.max_transfers 1)
  where
    go : (c : Bool) → cond c (step_of (within_spec (with_week m w) n)) (search_spec (with_week m w))
        ≡ with_week_of w (cond c (step_of (within_spec m n)) (search_spec m))
    go true = within-week m n w
    go false = search-week m w

pub own-week : (l : Load) (w : Week) → Own l → Own (with_week l w)
unfolding unsearched_of
own-week l w o d = research-week l.limit (unsearched_of l) w ∙ ap (with_week_of w) (o d)

pub week-kept : (l : Load) (w : Week) → WeekSound w → Kept l → Kept (with_week l w)
week-kept l w v k = record { sound = with-week-sound l w k.sound v; own = own-week l w k.own }

pub closed-kept : (l : Load) → Kept l → Kept (closed_load l)
closed-kept l k = week-kept l (closed_week l.week) (closed-sound l.week k.sound.week) k

-- ---- the call

-- a week without dates is closed
undated-closed : (w : Week) → WeekSound w → is_dated w ≡ false → closed_week w ≡ w
unfolding undated_week
undated-closed w s d = let e = s.undated d in ap closed_week e ∙ sym e

pub closed_same : ClosedSame
closed_same l s (inl d) = ap (with_week l) (undated-closed l.week s.week d)
closed_same l s (inr c) = λ j. with_week l (record
    { dates = l.week.dates; services = l.week.services; service_count = l.week.service_count; closed = sym c j })

either-week : (m l : Load) (b : Bool) → m.week ≡ l.week → (cond b l m).week ≡ l.week
either-week m l true e = refl
either-week m l false e = e

plain-week : (l : Load) (i : CallInput) → (plain_call l i).load.week ≡ l.week
unfolding plain_call
plain-week l i = either-week (with_table l (call_fitted l i).table) l (is_refused (call_fitted l i).answer) refl

closing-is : (l : Load) (i : CallInput) → is_refused (plain_call l i).answer ≡ false
    → closing l (plain_call l i) ≡ record { answer = (plain_call l i).answer; load = closed_load (plain_call l i).load }
closing-is l i e =
    let same : (closing l (plain_call l i)).load ≡ with_week (plain_call l i).load (closed_week l.week) = cond-not _ _ e in
    let week : with_week (plain_call l i).load (closed_week l.week) ≡ closed_load (plain_call l i).load =
    ap (λ (w : Week). with_week (plain_call l i).load (closed_week w)) (sym (plain-week l i)) in
    λ j. record { answer = (plain_call l i).answer; load = (same ∙ week) j }

without_is : (l : Load) (i : CallInput) → Sound l → is_dated l.week ≡ false
    → plain_call l i ≡ record { answer = (plain_call l i).answer; load = closed_load (plain_call l i).load }
without_is l i s d =
    let e = plain-week l i in
    let w : closed_week (plain_call l i).load.week ≡ (plain_call l i).load.week =
    ap closed_week e ∙ undated-closed l.week s.week d ∙ sym e in
    λ j. record { answer = (plain_call l i).answer; load = with_week (plain_call l i).load (sym w j) }

-- a call that is taken is the plain call, and the services are closed
pub taken-is-plain : (l : Load) (name : List ℕ) (i : CallInput) → Sound l → (call_spec l name i).answer ≡ Ok Taken
    → call_spec l name i ≡ record { answer = (plain_call l i).answer; load = closed_load (plain_call l i).load }
taken-is-plain l name i s q = go _ (called l name i) q
  where
    go : (r : StepResult) → Called l name i r → r.answer ≡ Ok Taken
        → r ≡ record { answer = (plain_call l i).answer; load = closed_load (plain_call l i).load }
    go _ (without d) q = without_is l i s d
    go _ (goes_on d e) q = closing-is l i (ap is_refused q)
    go _ (stays_out d e) q = absurd (false≢true (ap is_taken q))
    go _ (sent_back d r e) q = absurd (false≢true (ap is_taken q))
