-- An opened load is sound, and the steps that fill it keep it sound.
use Rattle.std.specs.Prelude.{None, Option, Some}
use Prim.Native.Nat.{ℕ, ◌+◌}
use mathlib.Core.Path.{◌≡◌, refl}
use mathlib.Core.Bool.{Bool, true, false, cond, false≢true}
use mathlib.Core.List.{List}
use native.Mathlib.Omega.{arith}
use Rattle.refusal.specs.First.{is_refused, is_taken}
use Rattle.refusal.proofs.FirstLaws.{taken_is}
use Rattle.stops.specs.declared.StopInput.{StopInput}
use Rattle.stops.specs.Taken.{stop_of}
use Rattle.stops.proofs.SoundLaws.{no-stops-sound, stop-keeps-sound}
use Rattle.calls.specs.declared.CallInput.{CallInput}
use Rattle.calls.specs.declared.Table.{Table}
use Rattle.calls.specs.Sound.{TableSound, StopsKnown}
use Rattle.calls.proofs.SoundLaws.{empty-sound, call-keeps-sound}
use Rattle.calls.proofs.KnownLaws.{call-keeps-known, more-stops-known}
use Rattle.rules.specs.declared.Rule.{Rule}
use Rattle.rules.proofs.SoundLaws.{no-rules-sound, rule-keeps-sound, more-stops-sound}
use Rattle.load.specs.declared.Load.{Load}
use Rattle.week.specs.declared.Week.{Week}
use Rattle.week.specs.Weeks.{closed_week}
use Rattle.week.specs.Sound.{WeekSound}
use Rattle.week.proofs.SoundLaws.{undated-sound, dated-sound, closed-sound, service-keeps-sound, exception-keeps-sound}
use Rattle.load.specs.declared.StepResult.{StepResult}
use Rattle.load.specs.Load.{empty_of, table_of, with_table, with_week}
use Rattle.load.specs.Steps.{week_of, station_in, stop_answer, stop_load, stop_spec, call_fitted, plain_call, closing, call_spec}
use Rattle.load.specs.Steps.{rule_answer, rule_load, rule_spec, service_spec, exception_spec}
use Rattle.load.specs.FillStep.{stop, call, rule, service, exception}
use Rattle.load.specs.Sound.{Sound, OpenSound, FillKeepsSound}
use Rattle.load.proofs.StepLaws.{Called, without, goes_on, stays_out, sent_back, called}

pub week-sound : (d : Option (List ℕ)) → WeekSound (week_of d)
week-sound None = undated-sound
week-sound (Some dates) = dated-sound dates

pub open-sound : OpenSound
unfolding empty_of
open-sound o = record {
  stops = no-stops-sound;
  table = empty-sound;
  calls_known = tt;
  rules = no-rules-sound 0;
  few = omega arith;
  long = refl;
  blank = refl;
  in_order = tt;
  none_kept = λ e. refl;
  same_horizon = λ e. refl;
  same_limits = λ e. refl;
  stopped_search = λ e. absurd (false≢true e);
  stopped_change = λ e. absurd (false≢true e);
  week = week-sound o.dates;
}

stop-sound : (l : Load) (id : List ℕ) (name parent : Option (List ℕ)) (i : StopInput) → Sound l → Sound (stop_spec l id name parent i).load
unfolding stop_spec
stop-sound l id name parent i s = go (is_taken (stop_answer l id name parent i)) refl
  where
    go : (b : Bool) → is_taken (stop_answer l id name parent i) ≡ b
        → Sound (stop_load l (stop_of id name (station_in l parent) i) (stop_answer l id name parent i))
    go true e = rw e (record {
      stops = stop-keeps-sound l.searched l.stops l.stop_count id name parent i s.stops (taken_is (stop_answer l id name parent i) e);
      table = s.table;
      calls_known = more-stops-known l.stop_count (l.stop_count + 1) (table_of l) (omega arith) s.calls_known;
      rules = more-stops-sound l.stop_count (l.stop_count + 1) l.rules l.rule_count (omega arith) s.rules;
      few = s.few;
      long = s.long;
      blank = s.blank;
      in_order = s.in_order;
      none_kept = s.none_kept;
      same_horizon = s.same_horizon;
      same_limits = s.same_limits;
      stopped_search = s.stopped_search;
      stopped_change = s.stopped_change;
      week = s.week;
    })
    go false e = rw e s

-- the load with a sound table, whose calls name stops that it knows
pub with-table-sound : (l : Load) (t : Table) → Sound l → TableSound t → StopsKnown l.stop_count t → Sound (with_table l t)
with-table-sound l t s table known = record {
  stops = s.stops;
  table = table;
  calls_known = known;
  rules = s.rules;
  few = s.few;
  long = s.long;
  blank = s.blank;
  in_order = s.in_order;
  none_kept = s.none_kept;
  same_horizon = λ x. refl;
  same_limits = λ x. refl;
  stopped_search = s.stopped_search;
  stopped_change = s.stopped_change;
  week = s.week;
}

plain-sound : (l : Load) (i : CallInput) → Sound l → Sound (plain_call l i).load
unfolding plain_call
plain-sound l i s = go (is_refused (call_fitted l i).answer) refl
  where
    go : (b : Bool) → is_refused (call_fitted l i).answer ≡ b → Sound (cond b l (with_table l (call_fitted l i).table))
    go true e = s
    go false e = with-table-sound l (call_fitted l i).table s
        (call-keeps-sound l.settings l.searched l.stop_count (table_of l) i s.table)
        (call-keeps-known l.settings l.searched l.stop_count (table_of l) i s.table s.calls_known)

-- the load with a sound week
pub with-week-sound : (l : Load) (w : Week) → Sound l → WeekSound w → Sound (with_week l w)
with-week-sound l w s v = record {
  stops = s.stops;
  table = s.table;
  calls_known = s.calls_known;
  rules = s.rules;
  few = s.few;
  long = s.long;
  blank = s.blank;
  in_order = s.in_order;
  none_kept = s.none_kept;
  same_horizon = s.same_horizon;
  same_limits = s.same_limits;
  stopped_search = s.stopped_search;
  stopped_change = s.stopped_change;
  week = v;
}

closing-sound : (l : Load) (r : StepResult) → Sound l → Sound r.load → Sound (closing l r).load
closing-sound l r s v = go (is_refused r.answer)
  where
    go : (b : Bool) → Sound (cond b l (with_week r.load (closed_week l.week)))
    go true = s
    go false = with-week-sound r.load (closed_week l.week) v (closed-sound l.week s.week)

call-sound : (l : Load) (name : List ℕ) (i : CallInput) → Sound l → Sound (call_spec l name i).load
call-sound l name i s = go _ (called l name i)
  where
    go : (r : StepResult) → Called l name i r → Sound r.load
    go _ (without d) = plain-sound l i s
    go _ (goes_on d e) = closing-sound l (plain_call l i) s (plain-sound l i s)
    go _ (stays_out d e) = with-week-sound l (closed_week l.week) s (closed-sound l.week s.week)
    go _ (sent_back d r e) = s

service-sound : (l : Load) (name : List ℕ) (weekdays start end : ℕ) → Sound l → Sound (service_spec l name weekdays start end).load
unfolding service_spec
service-sound l name weekdays start end s = with-week-sound l _ s (service-keeps-sound l.week l.searched name weekdays start end s.week)

exception-sound : (l : Load) (name : List ℕ) (date kind : ℕ) → Sound l → Sound (exception_spec l name date kind).load
unfolding exception_spec
exception-sound l name date kind s = with-week-sound l _ s (exception-keeps-sound l.week l.searched name date kind s.week)

rule-sound : (l : Load) (i : Rule) → Sound l → Sound (rule_spec l i).load
unfolding rule_spec
rule-sound l i s = go (is_taken (rule_answer l i)) refl
  where
    go : (b : Bool) → is_taken (rule_answer l i) ≡ b → Sound (rule_load l i (rule_answer l i))
    go true e = rw e (record {
      stops = s.stops;
      table = s.table;
      calls_known = s.calls_known;
      rules = rule-keeps-sound l.searched l.stop_count l.rules l.rule_count i s.rules (taken_is (rule_answer l i) e);
      few = s.few;
      long = s.long;
      blank = s.blank;
      in_order = s.in_order;
      none_kept = s.none_kept;
      same_horizon = s.same_horizon;
      same_limits = s.same_limits;
      stopped_search = s.stopped_search;
      stopped_change = s.stopped_change;
      week = s.week;
    })
    go false e = rw e s

pub fill-keeps-sound : FillKeepsSound
fill-keeps-sound l (stop id name parent i) s = stop-sound l id name parent i s
fill-keeps-sound l (call name i) s = call-sound l name i s
fill-keeps-sound l (rule i) s = rule-sound l i s
fill-keeps-sound l (service name weekdays start end) s = service-sound l name weekdays start end s
fill-keeps-sound l (exception name date kind) s = exception-sound l name date kind s
