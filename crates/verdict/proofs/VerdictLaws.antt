-- The journey of a connection, and what is said of it.
use mathlib.Core.Path.{◌≡◌, refl, sym, ap, ◌∙◌}
use mathlib.Core.Bool.{Bool, true, false, false≢true}
use mathlib.Core.List.{List}
use Prim.Native.Nat.{ℕ, ◌≤◌, ◌<◌}
use native.Mathlib.Omega.{arith}
use lib.ListN.{take, get_or}
use borrow.Author.Tests.{lt-ltb, le-ltb}
use Rattle.std.specs.Prelude.{None, Option, Some}
use Rattle.laws.proofs.Bools.{cond-by, cond-not}
use Rattle.calls.specs.declared.Call.{Call}
use Rattle.settings.specs.declared.Settings.{Settings}
use Rattle.profile.specs.declared.Ride.{Ride}
use Rattle.profile.specs.declared.Journey.{Journey}
use Rattle.search_input.specs.Feed.{leave_of, arrival_of}
use Rattle.load.specs.declared.Load.{Load}
use Rattle.best.specs.Best.{kept_of}
use Rattle.connection.specs.declared.Connection.{Connection}
use Rattle.connection.specs.declared.Cause.{Cause}
use Rattle.connection.specs.declared.FoundLeg.{FoundLeg}
use Rattle.connection.specs.declared.Way.{Way}
use Rattle.connection.specs.Tests.{first_of}
use Rattle.connection.specs.Find.{way_of, boards, alights}
use Rattle.listing.specs.declared.Verdict.{Verdict}
use Rattle.listing.specs.declared.Verdict.TheVariants.{NotFinished, Late, Impossible}
use Rattle.listing.specs.Listed.{listed_in_of, judged_in}
use Rattle.verdict.specs.Verdicts.{ride_found, last_leg, middle_ride, last_ride, journey_on, causes_by, judged_by, finished_by}
use Rattle.verdict.specs.Verdicts.{is_finished, verdict_of}

module _ (s : Settings) (c : Connection) (w : Way) where
  -- when it is due
  pub due-is : (egress due : ℕ) (leg : FoundLeg) (end : Call) → egress ≡ get_or s.target_walks c.target 0 → leg ≡ last_leg c.rides w
      → end ≡ alights leg
      → due ≡ arrival_of egress end.arrival → due ≡ (journey_on s c w).arrival
  unfolding journey_on arrival_of
  due-is egress due leg end ew el ee e = e ∙ (λ i. arrival_of (ew i) ((ee ∙ ap alights el) i).arrival)

  leave-by : (walk minutes leave : ℕ) (start : Call) → walk ≡ get_or s.origin_walks c.origin 0 → minutes ≡ walk → start ≡ boards w.first
      → leave ≡ leave_of minutes start.departure → leave ≡ (journey_on s c w).leave
  unfolding journey_on leave_of
  leave-by walk minutes leave start ew em es el = el ∙ (λ i. leave_of ((em ∙ ew) i) (es i).departure)

  journey-by : (walk leave due : ℕ) (first middle last : Ride) → walk ≡ get_or s.origin_walks c.origin 0 → leave ≡ (journey_on s c w).leave
      → due ≡ (journey_on s c w).arrival → first ≡ ride_found w.first → middle ≡ middle_ride c.rides w → last ≡ last_ride c.rides w
      → ◌≡◌ {A = Journey}
      (record {
        leave = leave;
        arrival = due;
        rides = c.rides;
        walk = walk;
        origin = c.origin;
        target = c.target;
        first = first;
        middle = middle;
        last = last;
      })
      (journey_on s c w)
  unfolding journey_on
  journey-by walk leave due first middle last ew el ed ef em ez =
      λ i. record {
        leave = el i;
        arrival = ed i;
        rides = c.rides;
        walk = ew i;
        origin = c.origin;
        target = c.target;
        first = ef i;
        middle = em i;
        last = ez i;
      }

  module _ (ks : List Journey) (h due : ℕ) (ed : due ≡ (journey_on s c w).arrival) where
    pub said-late : h < due → Late ≡ judged_in ks h (journey_on s c w)
    unfolding judged_in
    said-late l = sym (cond-by _ _ (lt-ltb h (journey_on s c w).arrival (omega (arith, l, ed))))

    pub said-listed : (js : List Journey) (walk minutes leave : ℕ) (start : Call) (first middle last : Ride) (r : Verdict)
        → due ≤ h → js ≡ ks → walk ≡ get_or s.origin_walks c.origin 0 → minutes ≡ walk
        → start ≡ boards w.first → leave ≡ leave_of minutes start.departure
        → first ≡ ride_found w.first → middle ≡ middle_ride c.rides w → last ≡ last_ride c.rides w
        → r ≡ listed_in_of js (record {
          leave = leave;
          arrival = due;
          rides = c.rides;
          walk = walk;
          origin = c.origin;
          target = c.target;
          first = first;
          middle = middle;
          last = last;
        })
        → r ≡ judged_in ks h (journey_on s c w)
    unfolding judged_in
    said-listed js walk minutes leave start first middle last r l ek ew em es el ef ei ez e =
        let leave-is = leave-by walk minutes leave start ew em es el in
        e ∙ (λ i. listed_in_of (ek i) (journey-by walk leave due first middle last ew leave-is ed ef ei ez i))
        ∙ sym (cond-not _ _ (le-ltb h (journey_on s c w).arrival (omega (arith, l, ed))))

module _ (l : Load) (c : Connection) where
  pub said-nothing : (b : Bool) → b ≡ is_finished l → b ≡ false → NotFinished ≡ verdict_of l c
  unfolding verdict_of
  said-nothing b is f = sym (cond-not _ _ (sym is ∙ f))

  module _ (b : Bool) (is : b ≡ is_finished l) (f : b ≡ true) (cs : List Call) (ec : cs ≡ take l.call_count l.calls) (w : Way)
      (ew : w ≡ way_of cs c.legs)
      (t : Option Cause) (et : t ≡ first_of (causes_by l.settings l.stops l.stop_count (take l.rule_count l.rules) c w)) where
    said : judged_by t (judged_in (kept_of l) l.horizon (journey_on l.settings c w)) ≡ verdict_of l c
    unfolding verdict_of
    said =
        let way : w ≡ way_of (take l.call_count l.calls) c.legs = ew ∙ ap (λ (x : List Call). way_of x c.legs) ec in
        (λ i. judged_by (et i) (judged_in (kept_of l) l.horizon (journey_on l.settings c w)))
        ∙ (λ i. judged_by (first_of (causes_by l.settings l.stops l.stop_count (take l.rule_count l.rules) c (way i)))
        (judged_in (kept_of l) l.horizon (journey_on l.settings c (way i))))
        ∙ sym (cond-by _ _ (sym is ∙ f))

    pub said-impossible : (x : Cause) → t ≡ Some x → Impossible x ≡ verdict_of l c
    said-impossible x e = sym (ap (λ (o : Option Cause). judged_by o (judged_in (kept_of l) l.horizon (journey_on l.settings c w))) e)
        ∙ said

    pub said-free : (r : Verdict) → t ≡ None → r ≡ judged_in (kept_of l) l.horizon (journey_on l.settings c w) → r ≡ verdict_of l c
    said-free r e q = q ∙ sym (ap (λ (o : Option Cause). judged_by o (judged_in (kept_of l) l.horizon (journey_on l.settings c w))) e)
        ∙ said

-- a search is finished where it was not stopped
pub finished-parts : (searched : Bool) (limit : Option ℕ) → finished_by searched limit ≡ true → (searched ≡ true) × (limit ≡ None)
unfolding finished_by
finished-parts true None e = (refl, refl)
finished-parts true (Some n) e = absurd (false≢true e)
finished-parts false limit e = absurd (false≢true e)
