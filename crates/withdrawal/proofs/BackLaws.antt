-- A call that is taken and cuts nothing is put in last; withdrawing it gives back the table.
use Rattle.refusal.specs.declared.Accepted.TheVariants.{Taken, Outside}
use Rattle.std.specs.Prelude.{Option, Some, Err, Ok}
use Prim.Native.Nat.{ℕ, ◌-◌, ◌≤◌, ◌<◌}
use mathlib.Core.Path.{◌≡◌, refl, sym, ap, subst, ◌∙◌}
use mathlib.Core.Logic.{◌⊎◌, inl, inr}
use mathlib.Core.Bool.{Bool, true, false, not, ◌&&◌, ◌||◌, true≢false}
use mathlib.Core.List.{List, [], ◌∷◌, ◌++◌}
use native.Mathlib.Omega.{arith}
use borrow.Author.Tests.{eq-eqb}
use lib.Dec.{ltb, leb}
use lib.ListN.{length, replicate, length-take, take-append-drop}
use Rattle.laws.specs.Lists.{anyb, padded}
use Rattle.laws.proofs.Lists.{anyb-append}
use Rattle.laws.proofs.Bools.{or_true_right, and-true}
use Rattle.refusal.specs.First.{first_answer, is_taken, Answer}
use Rattle.settings.specs.declared.Settings.{Settings}
use Rattle.calls.specs.declared.Call.{Call}
use Rattle.calls.specs.declared.CallInput.{CallInput}
use Rattle.calls.specs.declared.Table.{Table}
use Rattle.calls.specs.Tried.{Tried}
use Rattle.calls.specs.Windows.{seen_call, seen}
use Rattle.calls.specs.Tables.{blank_call, cut, put}
use Rattle.calls.specs.Calls.{known, call_tests, call_time, call_fit, call_on, ended, goes_on_of}
use Rattle.calls.specs.Shown.{table_calls}
use Rattle.calls.specs.Sound.{TableSound}
use Rattle.calls.proofs.FitLaws.{shrinks}
use Rattle.calls.proofs.Fits.{Ends, stands, enters, turned, Keeps, ends}
use Rattle.calls.proofs.SoundLaws.{seen-is, call-tests-fail, put-calls, call-keeps-sound}
use Rattle.calls.specs.declared.CallKey.{CallKey}
use Rattle.withdrawal.specs.Removal.{without_last, key_of, has_key, key_known, withdrawn, TableTakenBack}
use Rattle.withdrawal.proofs.LeftLaws.{last-gone, is-holding}

-- ---- a call that is taken, and cut nothing, is put in

-- a cut is seen by the horizon
abbrev Cut : Table → Table → Type 0
Cut t u = (u ≡ t) ⊎ (u.horizon < t.horizon)

low : (t u : Table) → Cut t u → u.horizon ≤ t.horizon
low t u (inl e) = rw e (omega arith)
low t u (inr h) = omega arith

cut_keeps : (t : Table) (a d : Option ℕ) (i : CallInput) → Keeps (Cut t) a d i
unfolding cut
cut_keeps t a d i u c p e f l = inr (omega (arith, low t u p, shrinks u.horizon l))

-- the call as it went in
pub record Entered (s : Settings) (b : Bool) (n : ℕ) (t : Table) (i : CallInput) : Type 0 where
  pub call : Call
  pub table : (call_on s b n t i).table ≡ put t call
  pub room : t.count < 512
  pub key : has_key (key_of i) call ≡ true
  pub known-key : key_known (key_of i) ≡ true

seen_key : (h : ℕ) (a d : Option ℕ) (i : CallInput) (c : Call) → seen h a d i ≡ Some c → has_key (key_of i) c ≡ true
unfolding seen_call has_key
seen_key h a d i c e =
    let same = seen-is h a d i c e in
    and-true _ _ (eq-eqb c.trip i.trip (λ k. (sym same k).trip))
    (and-true _ _ (eq-eqb c.day i.day (λ k. (sym same k).day)) (eq-eqb c.sequence i.sequence (λ k. (sym same k).sequence)))

five : (a b c d e : Bool) → not (a && b && c && d && e) ≡ false → (b && c) ≡ true
five true true true d e q = refl
five true true false d e q = absurd (true≢false q)
five true false c d e q = absurd (true≢false q)
five false b c d e q = absurd (true≢false q)

tests-key : (b : Bool) (n : ℕ) (i : CallInput) → first_answer (call_tests b n i) ≡ Ok Taken → key_known (key_of i) ≡ true
unfolding call_tests known key_known
tests-key b n i e = five (ltb i.stop n) (ltb i.trip 65535) (leb i.day 2) (leb i.pickup 3) (leb i.drop_off 3) (call-tests-fail b n i e).1.0

record Inside (t : Table) (i : CallInput) (u : Table) : Type 0 where
  call : Call
  table : u ≡ put t call
  room : t.count < 512
  key : has_key (key_of i) call ≡ true

entered : (t : Table) (a d : Option ℕ) (i : CallInput) (f : Tried) → Ends (Cut t) a d i f → (ended t f).answer ≡ Ok Taken
    → (ended t f).table.horizon ≡ t.horizon → Inside t i (ended t f).table
entered t a d i _ (stands u p e) q h = let z : ◌≡◌ {A = ℕ} 0 1 = cc in absurd (omega arith)
entered t a d i _ (turned u c p e f m) q h = let z : ◌≡◌ {A = ℕ} 0 1 = cc in absurd (omega arith)
entered t a d i _ (enters u c p e r) q h = go p
  where
    go : Cut t u → Inside t i (put u c)
    go (inl x) =
        record {
          call = c;
          table = ap (λ (y : Table). put y c) x;
          room = subst (λ (y : Table). y.count < 512) x r;
          key = seen_key u.horizon a d i c e;
        }
    go (inr x) = absurd (omega (arith, h))

pub call-entered : (s : Settings) (b : Bool) (n : ℕ) (t : Table) (i : CallInput) → (call_on s b n t i).answer ≡ Ok Taken
    → (call_on s b n t i).table.horizon ≡ t.horizon → Entered s b n t i
unfolding call_on call_fit
call-entered s b n t i q h = go (first_answer (call_tests b n i)) refl q h
  where
    go : (a : Answer) → first_answer (call_tests b n i) ≡ a → (goes_on_of s t i a).answer ≡ Ok Taken
        → (goes_on_of s t i a).table.horizon ≡ t.horizon → Entered s b n t i
    go (Err w) e x y = let z : ◌≡◌ {A = ℕ} 0 1 = cc in absurd (omega arith)
    go (Ok Outside) e x y = let z : ◌≡◌ {A = ℕ} 0 1 = cc in absurd (omega arith)
    go (Ok Taken) e x y =
        let w =
        entered t (call_time s i i.arrival) (call_time s i i.departure) i _ (ends (Cut t) _ _ i (cut_keeps t _ _ i) t (inl refl)) x y in
        record { call = w.call; table = rw e w.table; room = w.room; key = w.key; known-key = tests-key b n i e }

-- a call that is not taken, and cut nothing, leaves the table
stood : (t : Table) (a d : Option ℕ) (i : CallInput) (f : Tried) → Ends (Cut t) a d i f → is_taken (ended t f).answer ≡ false
    → (ended t f).table.horizon ≡ t.horizon → (ended t f).table ≡ t
stood t a d i _ (stands u p e) q h = go p
  where
    go : Cut t u → u ≡ t
    go (inl x) = x
    go (inr x) = absurd (omega (arith, h))
stood t a d i _ (turned u c p e f m) q h = refl
stood t a d i _ (enters u c p e r) q h = absurd (true≢false q)

pub call-stood : (s : Settings) (b : Bool) (n : ℕ) (t : Table) (i : CallInput) → is_taken (call_on s b n t i).answer ≡ false
    → (call_on s b n t i).table.horizon ≡ t.horizon → (call_on s b n t i).table ≡ t
unfolding call_on call_fit
call-stood s b n t i q h = go (first_answer (call_tests b n i)) q h
  where
    go : (a : Answer) → is_taken (goes_on_of s t i a).answer ≡ false → (goes_on_of s t i a).table.horizon ≡ t.horizon
        → (goes_on_of s t i a).table ≡ t
    go (Err w) x y = refl
    go (Ok Outside) x y = refl
    go (Ok Taken) x y =
        stood t (call_time s i i.arrival) (call_time s i i.departure) i _ (ends (Cut t) _ _ i (cut_keeps t _ _ i) t (inl refl)) x y

-- ---- and taken out again

module _ (t : Table) (s : TableSound t) where
  front-count : length (table_calls t) ≡ t.count
  front-count = simp length-take (omega (arith, s.few, s.long))

  padded-back : padded blank_call 512 (table_calls t) ≡ t.calls
  padded-back =
      ap (λ (m : ℕ). table_calls t ++ replicate (512 - m) blank_call) front-count
      ∙ ap (λ (r : List Call). table_calls t ++ r) (sym s.blank)
      ∙ take-append-drop t.count t.calls

  -- a table with these calls left is t
  pub left_back : (u : Table) (k : CallKey) → TableSound u → anyb (has_key k) (table_calls u) ≡ true
      → without_last (has_key k) (table_calls u) ≡ table_calls t
      → u.horizon ≡ t.horizon → u.limits ≡ t.limits → withdrawn u k ≡ t
  left_back u k v a e h m = is-holding u k v a ∙ (λ j. record {
    calls = (ap (padded blank_call 512) e ∙ padded-back) j;
    count = (ap (length {A = Call}) e ∙ front-count) j;
    horizon = h j;
    limits = m j;
  })

  module _ (c : Call) (k : CallKey) (r : t.count < 512) (e : has_key k c ≡ true) where
    put-left : without_last (has_key k) (table_calls (put t c)) ≡ table_calls t
    put-left = ap (without_last (has_key k)) (put-calls t c s r) ∙ last-gone (has_key k) (table_calls t) c e

    pub put-there : anyb (has_key k) (table_calls (put t c)) ≡ true
    put-there =
        ap (anyb (has_key k)) (put-calls t c s r)
        ∙ anyb-append (has_key k) (table_calls t) (c ∷ [])
        ∙ or_true_right (anyb (has_key k) (table_calls t)) (has_key k c || false) (rw e refl)

    pub put_back : TableSound (put t c) → withdrawn (put t c) k ≡ t
    put_back v = left_back (put t c) k v put-there put-left refl refl

pub table-taken-back : TableTakenBack
table-taken-back s b n t i sound q h =
    let w = call-entered s b n t i q h in
    let v : TableSound (put t w.call) = subst TableSound w.table (call-keeps-sound s b n t i sound) in
    ap (λ (u : Table). withdrawn u (key_of i)) w.table ∙ put_back t sound w.call (key_of i) w.room w.key v
