-- The call step keeps a table sound.
use Rattle.std.specs.Option.{unwrap_or}
use Rattle.refusal.specs.declared.Accepted.TheVariants.{Taken, Outside}
use Rattle.std.specs.Prelude.{None, Option, Some, Err, Ok, is_none}
use Prim.Native.Nat.{ℕ, suc, ◌+◌, ◌-◌, ◌≤◌, ◌<◌}
use mathlib.Core.Path.{◌≡◌, refl, sym, ap, subst, ◌∙◌}
use mathlib.Core.List.{List, [], ◌∷◌, ◌++◌, tail-eq_of_cons-eq}
use mathlib.Core.Bool.{cond, Bool, true, false, not, ◌&&◌, ◌||◌}
use native.Mathlib.Numerals.{add-one}
use native.Mathlib.Omega.{arith}
use borrow.Author.Tests.{leb-true, leb-false, ltb-true, ltb-false}
use lib.Dec.{leb, ltb, eqb}
use lib.ListN.{length, get_or, take, drop, set, replicate, length-set, length-append, length-replicate, length-take}
use lib.Seq.{drop-cons, drop-set-lt, take-suc-set, take-append_seam, drop-append_seam}
use lib.IntN.{ℤ, pos, negsuc, neg_ℤ, ◌+ℤ◌, ◌-ℤ◌, +ℤ_assoc, +ℤ_comm}
use Rattle.calls.specs.declared.Call.{Call}
use Rattle.calls.specs.declared.CallInput.{CallInput}
use Rattle.calls.specs.declared.Table.{Table}
use Rattle.calls.specs.Tried.{Tried}
use Rattle.calls.specs.Windows.{time_of, time_after, after, within, held, allowed, seen_call, seen}
use Rattle.calls.specs.Tables.{blank_call, due_by, trim, trim_all, cut, less, put}
use Rattle.laws.proofs.Bools.{and-true-left}
use Rattle.refusal.specs.First.{first_answer, AllFail, Answer}
use Rattle.refusal.proofs.FirstLaws.{taken-all-fail, never-taken}
use Rattle.settings.specs.Settings.{near}
use Rattle.calls.specs.Calls.{un_timed, known, call_tests, call_time, call_fit, call_on, ended, goes_on_of}
use Rattle.calls.specs.Sound.{All, one_of, horizons, CallSound, TableSound, EmptySound, CallKeepsSound}
use Rattle.laws.proofs.Pack.{length-gather}
use Rattle.laws.proofs.Every.{one-of}
pub use Rattle.laws.proofs.Every.{all_append, all-gather, all-mem, mem-all}
use Rattle.calls.proofs.Fits.{Ends, stands, enters, turned, Keeps, ends}

-- ---- horizons
abbrev Falls : ℕ → Type 0
Falls h = 3600 ≤ less h → (one_of (less h) horizons ≡ true) × (◌≡◌ {A = ℕ} 1 (cond (eqb (less h) 21600) 0 1))

lowest : 3600 ≤ 2885 → ⊥
lowest h = omega arith

falls : (h : ℕ) → one_of h horizons ≡ true → Falls h
falls h e = one-of h Falls horizons e (
  (λ k. (refl, refl)),
  (
    (λ k. (refl, refl)),
    ((λ k. (refl, refl)), ((λ k. (refl, refl)), ((λ k. (refl, refl)), ((λ k. (refl, refl)), ((λ k. absurd (lowest k)), tt))))),
  ),
)

-- ---- a call that a cut leaves
trim-sound : (h g : ℕ) (c : Call) → CallSound h c → due_by g c ≡ true → CallSound g (trim g c)
unfolding trim
trim-sound h g c s e = go (leb c.departure g) refl
  where
    go : (b : Bool) → leb c.departure g ≡ b → CallSound g (cond b c (record {
      trip = c.trip;
      day = c.day;
      sequence = c.sequence;
      stop = c.stop;
      arrival = c.arrival;
      departure = g;
      board = false;
      alight = c.alight;
      board_request = false;
      alight_request = c.alight_request;
    }))
    go true q =
        record { ordered = s.ordered; due = leb-true c.departure g q; board_marked = s.board_marked; alight_marked = s.alight_marked }
    go false q = record { ordered = leb-true c.arrival g e; due = omega arith; board_marked = λ x. x; alight_marked = s.alight_marked }

module _ (h : ℕ) (t : Table) (s : TableSound t) where
  abbrev left : List Call
  left = trim_all h (take t.count t.calls)

  left-few : length left ≤ 512
  left-few =
      let k : length left ≤ length (take t.count t.calls) = length-gather (due_by h) (trim h) (take t.count t.calls) in
      let m : length (take t.count t.calls) ≤ length t.calls = simp length-take (omega arith) in
      omega (arith, s.long)

  pub cut-calls : take (cut h t).count (cut h t).calls ≡ left
  unfolding cut
  cut-calls = take-append_seam left (replicate (512 - length left) blank_call)

  pub cut-sound : one_of h horizons ≡ true → ◌≡◌ {A = ℕ} 1 (cond (eqb h 21600) 0 1) → TableSound (cut h t)
  unfolding cut
  cut-sound o m = record {
    few = left-few;
    long =
        length-append left (replicate (512 - length left) blank_call)
        ∙ rest (length left) (length (replicate (512 - length left) blank_call)) (length-replicate (512 - length left) blank_call) left-few;
    blank = drop-append_seam left (replicate (512 - length left) blank_call);
    each =
        subst (All (CallSound h)) (sym cut-calls)
        (all-gather (CallSound t.horizon) (CallSound h) (due_by h) (trim h) (λ c x e. trim-sound t.horizon h c x e)
        (take t.count t.calls) s.each);
    known = o;
    limited = m;
  }
    where
      rest : (k r : ℕ) → r ≡ 512 - k → k ≤ 512 → k + r ≡ 512
      rest k r e f = omega arith

-- ---- a call that goes in
module _ (t : Table) (c : Call) (s : TableSound t) (h : t.count < 512) where
  inside : t.count < length t.calls
  inside = omega (arith, s.long)

  pub put-calls : take (t.count + 1) (set t.calls t.count c) ≡ take t.count t.calls ++ (c ∷ [])
  put-calls = rw add-one (take-suc-set t.calls t.count c inside)

  pub put-sound : CallSound t.horizon c → TableSound (put t c)
  put-sound x =
      let n = t.count in
      let more : 512 - n ≡ suc (512 - (n + 1)) = omega arith in
      let split : get_or t.calls n blank_call ∷ drop (suc n) t.calls ≡ blank_call ∷ replicate (512 - (n + 1)) blank_call =
      sym (drop-cons t.calls n blank_call inside) ∙ s.blank ∙ ap (λ (m : ℕ). replicate m blank_call) more in
      let under : n < n + 1 = omega arith in
      record {
        few = omega arith;
        long = length-set t.calls n c ∙ s.long;
        blank = drop-set-lt (n + 1) t.calls n c under ∙ ap (λ (m : ℕ). drop m t.calls) (add-one n) ∙ tail-eq_of_cons-eq split;
        each =
            subst (All (CallSound t.horizon)) (sym put-calls) (all_append (CallSound t.horizon) (take n t.calls) (c ∷ []) s.each (x, tt));
        known = s.known;
        limited = s.limited;
      }

-- ---- a call as the window shows it
held-le : (h m n : ℕ) → m ≤ n → cond (leb m h) m h ≤ cond (leb n h) n h
held-le h m n e = go (leb m h) refl (leb n h) refl
  where
    go : (b : Bool) → leb m h ≡ b → (b' : Bool) → leb n h ≡ b' → cond b m h ≤ cond b' n h
    go true p true q = e
    go true p false q = leb-true m h p
    go false p true q = let x : h < m = leb-false m h p in let y : n ≤ h = leb-true n h q in omega arith
    go false p false q = omega arith

held-top : (h n : ℕ) → cond (leb n h) n h ≤ h
held-top h n = go (leb n h) refl
  where
    go : (b : Bool) → leb n h ≡ b → cond b n h ≤ h
    go true p = leb-true n h p
    go false p = omega arith

pub held-due : (h : ℕ) (t : Option ℕ) → held h t ≤ h
held-due h None = omega arith
held-due h (Some n) = held-top h n

zero-least : (n : ℕ) → 0 ≤ n
zero-least n = omega arith

later : (h : ℕ) (z : ℤ) (k : ℕ) → held h (time_of z) ≤ held h (time_of (z +ℤ pos k))
later h (pos m) k = held-le h m (m + k) (omega arith)
later h (negsuc m) k = zero-least (held h (time_of (negsuc m +ℤ pos k)))

moved : (e n : ℤ) (a k : ℕ) → e +ℤ pos (a + k) -ℤ n ≡ (e +ℤ pos a -ℤ n) +ℤ pos k
moved e n a k =
    ap (λ (x : ℤ). x -ℤ n) (sym (+ℤ_assoc e (pos a) (pos k)))
    ∙ +ℤ_assoc (e +ℤ pos a) (pos k) (neg_ℤ n)
    ∙ ap (λ (x : ℤ). (e +ℤ pos a) +ℤ x) (+ℤ_comm (pos k) (neg_ℤ n))
    ∙ sym (+ℤ_assoc (e +ℤ pos a) (neg_ℤ n) (pos k))

held-mono : (h : ℕ) (e n : ℤ) (a b : ℕ) → a ≤ b → held h (time_after e n a) ≤ held h (time_after e n b)
unfolding time_after
held-mono h e n a b q = go (near e && near n)
  where
    sum : a + (b - a) ≡ b
    sum = omega arith

    same : e +ℤ pos b -ℤ n ≡ (e +ℤ pos a -ℤ n) +ℤ pos (b - a)
    same = ap (λ (x : ℕ). e +ℤ pos x -ℤ n) (sym sum) ∙ moved e n a (b - a)

    go : (c : Bool) → held h (cond c (time_of (e +ℤ pos a -ℤ n)) None) ≤ held h (cond c (time_of (e +ℤ pos b -ℤ n)) None)
    go true = subst (λ (z : ℤ). held h (time_of (e +ℤ pos a -ℤ n)) ≤ held h (time_of z)) (sym same) (later h (e +ℤ pos a -ℤ n) (b - a))
    go false = zero-least 0

-- what is seen is the call held to the horizon
pub seen-is : (h : ℕ) (a d : Option ℕ) (i : CallInput) (c : Call) → seen h a d i ≡ Some c → seen_call h a d i ≡ c
unfolding seen
seen-is h a d i c e = go (is_none d || after h a) e
  where
    go : (b : Bool) → cond b None (Some (seen_call h a d i)) ≡ Some c → seen_call h a d i ≡ c
    go true q = let z : ◌≡◌ {A = ℕ} 0 1 = cc in absurd (omega arith)
    go false q = cc

module _ (h : ℕ) (a d : Option ℕ) (i : CallInput) where
  seen-call-sound : held h a ≤ held h d → CallSound h (seen_call h a d i)
  unfolding seen_call
  seen-call-sound o = record {
    ordered = o;
    due = held-due h d;
    board_marked = and-true-left (allowed (within h d) i.pickup) (eqb i.pickup 2 || eqb i.pickup 3);
    alight_marked = and-true-left (allowed (within h a) i.drop_off) (eqb i.drop_off 2 || eqb i.drop_off 3);
  }

  pub seen-sound : (c : Call) → held h a ≤ held h d → seen h a d i ≡ Some c → CallSound h c
  seen-sound c o e = subst (CallSound h) (seen-is h a d i c e) (seen-call-sound o)

-- ---- the tests before the table
pub record Passed (b : Bool) (n : ℕ) (i : CallInput) : Type 0 where
  pub unsearched : b ≡ false
  pub at_stop : i.stop < n
  pub present : un_timed i ≡ false
  pub ordered : unwrap_or i.arrival 0 ≤ unwrap_or i.departure 0

-- every test fails where the tests answer taken
pub call-tests-fail : (b : Bool) (n : ℕ) (i : CallInput) → first_answer (call_tests b n i) ≡ Ok Taken → AllFail (call_tests b n i)
unfolding call_tests
call-tests-fail b n i e = taken-all-fail (call_tests b n i) (never-taken (call_tests b n i) refl) e

first-true : (a b c d e : Bool) → (a && b && c && d && e) ≡ true → a ≡ true
first-true true b c d e q = refl
first-true false b c d e q = q

not-false : (b : Bool) → not b ≡ false → b ≡ true
not-false true e = refl
not-false false e = sym e

pub passed : (b : Bool) (n : ℕ) (i : CallInput) → first_answer (call_tests b n i) ≡ Ok Taken → Passed b n i
unfolding call_tests known
passed b n i e =
    let f = call-tests-fail b n i e in
    let k : known n i ≡ true = not-false (known n i) f.1.0 in
    record {
      unsearched = f.0;
      at_stop = ltb-true i.stop n (first-true (ltb i.stop n) (ltb i.trip 65535) (leb i.day 2) (leb i.pickup 3) (leb i.drop_off 3) k);
      present = f.1.1.0;
      ordered = ltb-false (unwrap_or i.departure 0) (unwrap_or i.arrival 0) f.1.1.1.0;
    }

-- ---- the step
pub sound-keeps : (a d : Option ℕ) (i : CallInput) → Keeps TableSound a d i
sound-keeps a d i t c s e f l = let k = falls t.horizon s.known l in cut-sound (less t.horizon) t s k.0 k.1

ended-sound : (u : Table) (a d : Option ℕ) (i : CallInput) → ((h : ℕ) → held h a ≤ held h d) → TableSound u → (f : Tried)
    → Ends TableSound a d i f → TableSound (ended u f).table
ended-sound u a d i o s _ (stands t p e) = p
ended-sound u a d i o s _ (enters t c p e h) = put-sound t c p h (seen-sound t.horizon a d i c (o t.horizon) e)
ended-sound u a d i o s _ (turned t c p e h m) = s

pub call-keeps-sound : CallKeepsSound
unfolding call_on call_fit
call-keeps-sound s b n t i p = go (first_answer (call_tests b n i)) refl
  where
    go : (a : Answer) → first_answer (call_tests b n i) ≡ a → TableSound (goes_on_of s t i a).table
    go (Err w) e = p
    go (Ok Outside) e = p
    go (Ok Taken) e =
        ended-sound t (call_time s i i.arrival) (call_time s i i.departure) i
        (λ h. held-mono h (get_or s.epochs i.day (pos 0)) s.now (unwrap_or i.arrival 0) (unwrap_or i.departure 0) (passed b n i e).ordered)
        p _ (ends TableSound _ _ i (sound-keeps _ _ i) t p)

pub empty-sound : EmptySound
empty-sound = record { few = omega arith; long = refl; blank = refl; each = tt; known = refl; limited = refl }
