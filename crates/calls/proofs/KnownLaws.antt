-- The call step keeps every call of the table at a stop that the load has.
use Rattle.refusal.specs.declared.Accepted.TheVariants.{Taken, Outside}
use Rattle.std.specs.Prelude.{Option, Some, Err, Ok}
use Prim.Native.Nat.{ℕ, ◌<◌}
use mathlib.Core.Path.{◌≡◌, refl, sym, subst}
use mathlib.Core.Bool.{Bool, true, false, cond}
use mathlib.Core.List.{[], ◌∷◌}
use native.Mathlib.Omega.{arith}
use lib.Dec.{leb}
use lib.ListN.{take}
use Rattle.calls.specs.declared.Call.{Call}
use Rattle.calls.specs.declared.CallInput.{CallInput}
use Rattle.calls.specs.declared.Table.{Table}
use Rattle.calls.specs.Tried.{Tried}
use Rattle.refusal.specs.First.{first_answer, Answer}
use Rattle.calls.specs.Windows.{seen_call, seen}
use Rattle.calls.specs.Tables.{due_by, trim, less}
use Rattle.calls.specs.Calls.{call_tests, call_time, call_fit, call_on, ended, goes_on_of}
use Rattle.calls.specs.Sound.{All, TableSound, AtStop, StopsKnown, CallKeepsKnown, MoreStopsKnown}
use Rattle.calls.proofs.Fits.{Ends, stands, enters, turned, Keeps, ends}
use Rattle.calls.proofs.SoundLaws.{all_append, all-gather, all-mem, mem-all, cut-calls, put-calls, seen-is, sound-keeps, passed}

-- a cut leaves a call at its stop, and the window shows it there
either-stop : (b : Bool) (x y : Call) → y.stop ≡ x.stop → (cond b x y).stop ≡ x.stop
either-stop true x y e = refl
either-stop false x y e = e

trim-stop : (h : ℕ) (c : Call) → (trim h c).stop ≡ c.stop
unfolding trim
trim-stop h c = either-stop (leb c.departure h) c _ refl

seen-stop : (h : ℕ) (a d : Option ℕ) (i : CallInput) (c : Call) → seen h a d i ≡ Some c → i.stop ≡ c.stop
unfolding seen_call
seen-stop h a d i c e = (λ k. (seen-is h a d i c e k).stop)

record Held (n : ℕ) (t : Table) : Type 0 where
  sound : TableSound t
  known : StopsKnown n t

held_keeps : (n : ℕ) (a d : Option ℕ) (i : CallInput) → Keeps (Held n) a d i
held_keeps n a d i t c p e f l = record {
  sound = sound-keeps a d i t c p.sound e f l;
  known = subst (All (AtStop n)) (sym (cut-calls (less t.horizon) t p.sound))
      (all-gather (AtStop n) (AtStop n) (due_by (less t.horizon)) (trim (less t.horizon))
      (λ x q r. subst (λ (m : ℕ). m < n) (sym (trim-stop (less t.horizon) x)) q) (take t.count t.calls) p.known);
}

ended-known : (n : ℕ) (u : Table) (a d : Option ℕ) (i : CallInput) → i.stop < n → StopsKnown n u → (f : Tried) → Ends (Held n) a d i f
    → StopsKnown n (ended u f).table
ended-known n u a d i k s _ (stands t p e) = p.known
ended-known n u a d i k s _ (enters t c p e h) =
    subst (All (AtStop n)) (sym (put-calls t c p.sound h))
    (all_append (AtStop n) (take t.count t.calls) (c ∷ []) p.known (subst (λ (m : ℕ). m < n) (seen-stop t.horizon a d i c e) k, tt))
ended-known n u a d i k s _ (turned t c p e h m) = s

pub call-keeps-known : CallKeepsKnown
unfolding call_on call_fit
call-keeps-known s b n t i p k = go (first_answer (call_tests b n i)) refl
  where
    go : (a : Answer) → first_answer (call_tests b n i) ≡ a → StopsKnown n (goes_on_of s t i a).table
    go (Err w) e = k
    go (Ok Outside) e = k
    go (Ok Taken) e =
        ended-known n t (call_time s i i.arrival) (call_time s i i.departure) i (passed b n i e).at_stop k _
        (ends (Held n) _ _ i (held_keeps n _ _ i) t (record { sound = p; known = k }))

pub more-stops-known : MoreStopsKnown
more-stops-known n m t le k =
    mem-all (AtStop m) (take t.count t.calls) (λ x q. omega (arith, all-mem (AtStop n) (take t.count t.calls) k x q))
