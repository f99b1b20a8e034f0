-- The call step keeps the trips and days of the table's calls in range.
use Rattle.refusal.specs.declared.Accepted.TheVariants.{Taken, Outside}
use Rattle.std.specs.Prelude.{Option, Some, Err, Ok}
use Prim.Native.Nat.{ℕ, ◌≤◌, ◌<◌}
use mathlib.Core.Path.{◌≡◌, refl, sym, subst}
use mathlib.Core.Bool.{Bool, true, false, not, cond, ◌&&◌, true≢false}
use mathlib.Core.List.{[], ◌∷◌}
use lib.Dec.{ltb, leb}
use lib.ListN.{take}
use borrow.Author.Tests.{ltb-true, leb-true}
use Rattle.laws.specs.Lists.{All}
use Rattle.laws.proofs.Bools.{and-true-left, and-true-right}
use Rattle.laws.proofs.Every.{all_append, all-gather}
use Rattle.refusal.specs.First.{first_answer, Answer}
use Rattle.settings.specs.declared.Settings.{Settings}
use Rattle.calls.specs.declared.Call.{Call}
use Rattle.calls.specs.declared.CallInput.{CallInput}
use Rattle.calls.specs.declared.Table.{Table}
use Rattle.calls.specs.Tried.{Tried}
use Rattle.calls.specs.Windows.{seen_call, seen}
use Rattle.calls.specs.Tables.{due_by, trim, less}
use Rattle.calls.specs.Calls.{known, call_tests, call_time, call_fit, call_on, ended, goes_on_of}
use Rattle.calls.specs.Sound.{TableSound}
use Rattle.calls.proofs.Fits.{Ends, stands, enters, turned, Keeps, ends}
use Rattle.calls.proofs.SoundLaws.{cut-calls, put-calls, seen-is, sound-keeps, call-tests-fail}
use Rattle.written.specs.Kept.{CallKept}

abbrev pub TableKept : Table → Type 0
TableKept t = All CallKept (take t.count t.calls)

trim-kept : (h : ℕ) (c : Call) → CallKept c → CallKept (trim h c)
unfolding trim
trim-kept h c q = go (leb c.departure h)
  where
    go : (b : Bool) → CallKept (cond b c (record {
      trip = c.trip;
      day = c.day;
      sequence = c.sequence;
      stop = c.stop;
      arrival = c.arrival;
      departure = h;
      board = false;
      alight = c.alight;
      board_request = false;
      alight_request = c.alight_request;
    }))
    go true = q
    go false = record { trip_known = q.trip_known; day_known = q.day_known }

record Held (t : Table) : Type 0 where
  sound : TableSound t
  kept : TableKept t

held_keeps : (a d : Option ℕ) (i : CallInput) → Keeps Held a d i
held_keeps a d i t c p e f l = record {
  sound = sound-keeps a d i t c p.sound e f l;
  kept = subst (All CallKept) (sym (cut-calls (less t.horizon) t p.sound))
      (all-gather CallKept CallKept (due_by (less t.horizon)) (trim (less t.horizon)) (λ x q r. trim-kept (less t.horizon) x q)
      (take t.count t.calls) p.kept);
}

seen-kept : (h : ℕ) (a d : Option ℕ) (i : CallInput) (c : Call) → i.trip < 65535 → i.day ≤ 2 → seen h a d i ≡ Some c → CallKept c
unfolding seen_call
seen-kept h a d i c t k e = subst CallKept (seen-is h a d i c e) (record { trip_known = t; day_known = k })

ended-kept : (u : Table) (a d : Option ℕ) (i : CallInput) → i.trip < 65535 → i.day ≤ 2 → TableKept u → (f : Tried) → Ends Held a d i f
    → TableKept (ended u f).table
ended-kept u a d i x y s _ (stands t p e) = p.kept
ended-kept u a d i x y s _ (enters t c p e h) =
    subst (All CallKept) (sym (put-calls t c p.sound h))
    (all_append CallKept (take t.count t.calls) (c ∷ []) p.kept (seen-kept t.horizon a d i c x y e, tt))
ended-kept u a d i x y s _ (turned t c p e h m) = s

-- 9, where it was not met
record Known (i : CallInput) : Type 0 where
  trip_known : i.trip < 65535
  day_known : i.day ≤ 2

known_of : (n : ℕ) (i : CallInput) → not (known n i) ≡ false → Known i
unfolding known
known_of n i e = go (known n i) refl e
  where
    go : (b : Bool) → known n i ≡ b → not b ≡ false → Known i
    go false q k = absurd (true≢false k)
    go true q k = record {
      trip_known = ltb-true i.trip 65535 (and-true-right (ltb i.stop n) _
          (and-true-left (ltb i.stop n && ltb i.trip 65535) _
          (and-true-left (ltb i.stop n && ltb i.trip 65535 && leb i.day 2) _
          (and-true-left (ltb i.stop n && ltb i.trip 65535 && leb i.day 2 && leb i.pickup 3) _ q))));
      day_known = leb-true i.day 2 (and-true-right (ltb i.stop n && ltb i.trip 65535) _
          (and-true-left (ltb i.stop n && ltb i.trip 65535 && leb i.day 2) _
          (and-true-left (ltb i.stop n && ltb i.trip 65535 && leb i.day 2 && leb i.pickup 3) _ q)));
    }

pub call-keeps : (s : Settings) (b : Bool) (n : ℕ) (t : Table) (i : CallInput) → TableSound t → TableKept t
    → TableKept (call_on s b n t i).table
unfolding call_on call_fit call_tests
call-keeps s b n t i p k = go (first_answer (call_tests b n i)) refl
  where
    go : (a : Answer) → first_answer (call_tests b n i) ≡ a → TableKept (goes_on_of s t i a).table
    go (Err w) e = k
    go (Ok Outside) e = k
    go (Ok Taken) e =
        let w = known_of n i (call-tests-fail b n i e).1.0 in
        ended-kept t (call_time s i i.arrival) (call_time s i i.departure) i w.trip_known w.day_known k _
        (ends Held _ _ i (held_keeps _ _ i) t (record { sound = p; kept = k }))
