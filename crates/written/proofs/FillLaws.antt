-- Opening and the steps that fill a load give what a written load needs beside soundness.
use Rattle.refusal.specs.declared.Accepted.TheVariants.{Taken}
use Rattle.std.specs.Prelude.{Option, Ok}
use Prim.Native.Nat.{ℕ}
use mathlib.Core.Path.{◌≡◌, refl}
use mathlib.Core.Bool.{Bool, true, false, not, cond}
use mathlib.Core.List.{List, [], ◌∷◌}
use native.Mathlib.Omega.{arith}
use lib.Dec.{ltb}
use lib.ListN.{get_or}
use Rattle.refusal.specs.First.{first_answer, is_refused, is_taken}
use Rattle.refusal.proofs.FirstLaws.{taken_is}
use Rattle.settings.specs.declared.Settings.{Settings}
use Rattle.settings.specs.Settings.{over_counts, all_near, kept_walk, walks_of, settings_tests, canonical_of}
use Rattle.stops.specs.declared.StopInput.{StopInput}
use Rattle.stops.specs.Taken.{stop_of}
use Rattle.calls.specs.declared.CallInput.{CallInput}
use Rattle.rules.specs.declared.Rule.{Rule}
use Rattle.week.specs.declared.Week.{Week}
use Rattle.week.specs.Weeks.{closed_week}
use Rattle.load.specs.declared.Load.{Load}
use Rattle.load.specs.declared.StepResult.{StepResult}
use Rattle.load.specs.Load.{empty_of, table_of, with_table, with_week}
use Rattle.load.specs.Steps.{station_in, stop_answer, stop_load, stop_spec, call_fitted, plain_call, call_spec, rule_answer, rule_load}
use Rattle.load.specs.Steps.{rule_spec, service_spec, exception_spec}
use Rattle.load.specs.FillStep.{stop, call, rule, service, exception}
use Rattle.load.specs.Sound.{Sound}
use Rattle.load.proofs.ClockLaws.{open-fails}
use Rattle.load.proofs.StepLaws.{Called, without, goes_on, stays_out, sent_back, called}
use Rattle.codec.specs.Kinds.{DegreesHeld}
use Rattle.written.specs.Kept.{Kept}
use Rattle.written.specs.Keeps.{OpenKept, FillKeeps}
use Rattle.written.proofs.StopLaws.{stop-keeps}
use Rattle.written.proofs.RuleLaws.{rule-room, rules-kept}
use Rattle.written.proofs.CallLaws.{call-keeps}

-- ---- opening

kept-twice : (n i x : ℕ) → kept_walk n i (kept_walk n i x) ≡ kept_walk n i x
kept-twice n i x = go (ltb i n)
  where
    go : (b : Bool) → cond b (cond b x 0) 0 ≡ cond b x 0
    go true = refl
    go false = refl

walks-twice : (n : ℕ) (w : List ℕ) → walks_of n (walks_of n w) ≡ walks_of n w
unfolding walks_of
walks-twice n w = λ t. kept-twice n 0 (get_or w 0 0) t ∷ kept-twice n 1 (get_or w 1 0) t ∷ kept-twice n 2 (get_or w 2 0) t
    ∷ kept-twice n 3 (get_or w 3 0) t ∷ []

canonical-twice : (s : Settings) → canonical_of (canonical_of s) ≡ canonical_of s
unfolding canonical_of
canonical-twice s = λ t. record {
  origins = s.origins;
  targets = s.targets;
  origin_walks = walks-twice s.origins s.origin_walks t;
  target_walks = walks-twice s.targets s.target_walks t;
  transfer_seconds = s.transfer_seconds;
  max_transfers = s.max_transfers;
  now = s.now;
  epochs = s.epochs;
}

-- opening reads nothing that it leaves out
open-taken : (s : Settings) → over_counts s.origins s.targets s.max_transfers s.transfer_seconds ≡ false
    → not (all_near s.now s.epochs) ≡ false → first_answer (settings_tests (canonical_of s)) ≡ Ok Taken
unfolding first_answer settings_tests canonical_of
open-taken s c n = rw (c, n) refl

pub open_kept : OpenKept
unfolding empty_of
open_kept o w = record {
  settings = let f = open-fails o w in record { opens = open-taken o.settings f.0 f.1; canonical = canonical-twice o.settings };
  stops = λ k h. absurd (omega arith);
  rules = λ k h. absurd (omega arith);
  calls = tt;
}

-- ---- the steps

-- none of it reads the week
pub week-kept : (l : Load) (w : Week) → Kept l → Kept (with_week l w)
week-kept l w k = record { settings = k.settings; stops = k.stops; rules = k.rules; calls = k.calls }

stop-kept : (l : Load) (id : List ℕ) (name parent : Option (List ℕ)) (i : StopInput) → Sound l → Kept l → DegreesHeld i.degrees
    → Kept (stop_spec l id name parent i).load
unfolding stop_spec
stop-kept l id name parent i s w d = go (is_taken (stop_answer l id name parent i)) refl
  where
    go : (b : Bool) → is_taken (stop_answer l id name parent i) ≡ b
        → Kept (stop_load l (stop_of id name (station_in l parent) i) (stop_answer l id name parent i))
    go true e = rw e (record {
      settings = w.settings;
      stops = stop-keeps l.searched l.stops l.stop_count id name parent i s.stops (taken_is (stop_answer l id name parent i) e) d w.stops;
      rules = w.rules;
      calls = w.calls;
    })
    go false e = rw e w

plain-kept : (l : Load) (i : CallInput) → Sound l → Kept l → Kept (plain_call l i).load
unfolding plain_call
plain-kept l i s w = go (is_refused (call_fitted l i).answer) refl
  where
    go : (b : Bool) → is_refused (call_fitted l i).answer ≡ b → Kept (cond b l (with_table l (call_fitted l i).table))
    go true e = w
    go false e = record {
      settings = w.settings;
      stops = w.stops;
      rules = w.rules;
      calls = call-keeps l.settings l.searched l.stop_count (table_of l) i s.table w.calls;
    }

call_kept : (l : Load) (name : List ℕ) (i : CallInput) → Sound l → Kept l → Kept (call_spec l name i).load
call_kept l name i s w = go _ (called l name i)
  where
    closed : (b : Bool) → Kept (cond b l (with_week (plain_call l i).load (closed_week l.week)))
    closed true = w
    closed false = week-kept (plain_call l i).load (closed_week l.week) (plain-kept l i s w)

    go : (r : StepResult) → Called l name i r → Kept r.load
    go _ (without d) = plain-kept l i s w
    go _ (goes_on d e) = closed (is_refused (plain_call l i).answer)
    go _ (stays_out d e) = week-kept l (closed_week l.week) w
    go _ (sent_back d r e) = w

rule-kept : (l : Load) (i : Rule) → Sound l → Kept l → Kept (rule_spec l i).load
unfolding rule_spec
rule-kept l i s w = go (is_taken (rule_answer l i)) refl
  where
    go : (b : Bool) → is_taken (rule_answer l i) ≡ b → Kept (rule_load l i (rule_answer l i))
    go true e = rw e (record {
      settings = w.settings;
      stops = w.stops;
      rules =
          let t = taken_is (rule_answer l i) e in
          let room = rule-room l.searched l.stop_count l.rules l.rule_count i t in
          rules-kept l.searched l.stop_count l.rules l.rule_count i t (omega (arith, room, s.rules.long)) w.rules;
      calls = w.calls;
    })
    go false e = rw e w

service-kept : (l : Load) (name : List ℕ) (weekdays start end : ℕ) → Kept l → Kept (service_spec l name weekdays start end).load
unfolding service_spec
service-kept l name weekdays start end w = week-kept l _ w

exception-kept : (l : Load) (name : List ℕ) (date kind : ℕ) → Kept l → Kept (exception_spec l name date kind).load
unfolding exception_spec
exception-kept l name date kind w = week-kept l _ w

pub fill-keeps : FillKeeps
fill-keeps l (stop id name parent i) s w d = stop-kept l id name parent i s w d
fill-keeps l (call name i) s w d = call_kept l name i s w
fill-keeps l (rule i) s w d = rule-kept l i s w
fill-keeps l (service name weekdays start end) s w d = service-kept l name weekdays start end w
fill-keeps l (exception name date kind) s w d = exception-kept l name date kind w
