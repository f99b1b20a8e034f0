-- The table lemma: cutting and then reading is reading at the smaller horizon.
use Rattle.refusal.specs.declared.Accepted.TheVariants.{Taken, Outside}
use Rattle.std.specs.Prelude.{None, Option, Some, Err, Ok}
use Prim.Native.Nat.{ℕ, ◌≤◌, ◌<◌}
use mathlib.Core.Path.{◌≡◌, refl, sym, ap, ◌∙◌}
use mathlib.Core.List.{List, [], ◌∷◌, ◌++◌, append_assoc, append-nil}
use mathlib.Core.Bool.{cond, Bool, true, false}
use native.Mathlib.Omega.{arith}
use borrow.Author.Tests.{leb-true, leb-false, ltb-true, ltb-false, le-leb, lt-ltb, le-ltb}
use lib.Dec.{leb, ltb, leb-zero}
use lib.ListN.{take}
use Rattle.settings.specs.declared.Settings.{Settings}
use Rattle.calls.specs.declared.Call.{Call}
use Rattle.calls.specs.declared.CallInput.{CallInput}
use Rattle.calls.specs.declared.Table.{Table}
use Rattle.calls.specs.Tried.{Tried}
use Rattle.calls.specs.Windows.{within, held, allowed, asked, seen_call, seen}
use Rattle.calls.specs.Tables.{due_by, trim, trim_all, cut, less}
use Rattle.refusal.specs.First.{first_answer, is_refused, is_taken, Answer}
use Rattle.calls.specs.Calls.{un_timed, call_tests, call_time, call_seen, window, call_fit, call_on, ended, goes_on_of}
use Rattle.calls.specs.Sound.{TableSound}
use Rattle.calls.specs.Shown.{shown, windowed, Shows, StepShows}
use Rattle.laws.proofs.Bools.{cond-by}
use Rattle.laws.proofs.Pack.{gather_append}
use Rattle.calls.proofs.Fits.{Ends, stands, enters, turned, Keeps, ends}
use Rattle.calls.proofs.SoundLaws.{cut-calls, put-calls, sound-keeps, passed}

-- ---- one call
-- a departure at n, held to h and then to g, is held to g
depart : {X : Type 0} (B : ℕ → Bool → X) (g h n : ℕ) → g ≤ h
    → cond (leb (cond (leb n h) n h) g) (B (cond (leb n h) n h) (leb n h)) (B g false) ≡ B (cond (leb n g) n g) (leb n g)
depart B g h n le = go (leb n g) refl (leb n h) refl
  where
    full : (b : Bool) → leb h g ≡ b → cond b (B h false) (B g false) ≡ B g false
    full true e = let k : h ≤ g = leb-true h g e in let q : h ≡ g = omega arith in ap (λ (x : ℕ). B x false) q
    full false e = refl

    go : (b : Bool) → leb n g ≡ b → (b' : Bool) → leb n h ≡ b'
        → cond (leb (cond b' n h) g) (B (cond b' n h) b') (B g false) ≡ B (cond b n g) b
    go true e true f = ap (λ (x : Bool). cond x (B n true) (B g false)) e
    go true e false f = let k : n ≤ g = leb-true n g e in let m : h < n = leb-false n h f in absurd (omega arith)
    go false e true f = ap (λ (x : Bool). cond x (B n true) (B g false)) e
    go false e false f = full (leb h g) refl

module _ (g h : ℕ) (le : g ≤ h) (i : CallInput) where
  abbrev built : ℕ → ℕ → Bool → Bool → Call
  built arr dep wd wa = record {
    trip = i.trip;
    day = i.day;
    sequence = i.sequence;
    stop = i.stop;
    arrival = arr;
    departure = dep;
    board = allowed wd i.pickup;
    alight = allowed wa i.drop_off;
    board_request = asked (allowed wd i.pickup) i.pickup;
    alight_request = asked (allowed wa i.drop_off) i.drop_off;
  }

  trim-seen : (a : Option ℕ) (n : ℕ) → held h a ≡ held g a → within h a ≡ within g a
      → trim g (seen_call h a (Some n) i) ≡ seen_call g a (Some n) i
  unfolding trim seen_call
  trim-seen a n ea wa = depart (λ x b. built (held h a) x b (within h a)) g h n le ∙ (λ k. built (ea k) (held g (Some n)) (leb n g) (wa k))

  -- a call that arrives at m ≤ h
  arrives : (m n : ℕ) → leb m h ≡ true
      → trim_all g (seen_call h (Some m) (Some n) i ∷ []) ≡ cond (leb m g) (trim g (seen_call h (Some m) (Some n) i) ∷ []) []
  unfolding seen_call
  arrives m n e = ap (λ (b : Bool). cond (leb (cond b m h) g) (trim g (seen_call h (Some m) (Some n) i) ∷ []) []) e

  reseen : (a d : Option ℕ) → trim_all g (shown (seen h a d i)) ≡ shown (seen g a d i)
  unfolding seen seen_call
  reseen a None = refl
  reseen None (Some n) =
      ap (λ (b : Bool). cond b (trim g (seen_call h None (Some n) i) ∷ []) []) (leb-zero g)
      ∙ ap (λ (c : Call). c ∷ []) (trim-seen None n refl refl)
  reseen (Some m) (Some n) = go (ltb h m) refl
    where
      inner : leb m h ≡ true → (b : Bool) → leb m g ≡ b
          → cond b (trim g (seen_call h (Some m) (Some n) i) ∷ []) [] ≡ shown (cond (ltb g m) None (Some (seen_call g (Some m) (Some n) i)))
      inner e true f =
          let q : ltb g m ≡ false = le-ltb g m (leb-true m g f) in
          let x : trim g (seen_call h (Some m) (Some n) i) ≡ seen_call g (Some m) (Some n) i =
          trim-seen (Some m) n ((λ k. cond (e k) m h) ∙ (λ k. cond (sym f k) m g)) (e ∙ sym f) in
          ap (λ (c : Call). c ∷ []) x ∙ ap (λ (b : Bool). shown (cond b None (Some (seen_call g (Some m) (Some n) i)))) (sym q)
      inner e false f =
          let q : ltb g m ≡ true = lt-ltb g m (leb-false m g f) in
          ap (λ (b : Bool). shown (cond b None (Some (seen_call g (Some m) (Some n) i)))) (sym q)

      go : (b : Bool) → ltb h m ≡ b
          → trim_all g (shown (cond b None (Some (seen_call h (Some m) (Some n) i))))
          ≡ shown (cond (ltb g m) None (Some (seen_call g (Some m) (Some n) i)))
      go true e =
          let k : h < m = ltb-true h m e in
          let q : ltb g m ≡ true = lt-ltb g m (omega arith) in
          ap (λ (b : Bool). shown (cond b None (Some (seen_call g (Some m) (Some n) i)))) (sym q)
      go false e =
          let q : leb m h ≡ true = le-leb m h (ltb-false h m e) in
          arrives m n q ∙ inner q (leb m g) refl

  rewindow : (s : Settings) → trim_all g (shown (window s h i)) ≡ shown (window s g i)
  unfolding window
  rewindow s = go (un_timed i)
    where
      go : (b : Bool) → trim_all g (shown (cond b None (call_seen s h i))) ≡ shown (cond b None (call_seen s g i))
      go true = refl
      go false = reseen (call_time s i i.arrival) (call_time s i i.departure)

-- ---- a list of calls
-- cutting and then reading is reading at the smaller horizon
pub recut : (s : Settings) (g h : ℕ) → g ≤ h → (is : List CallInput) → trim_all g (windowed s h is) ≡ windowed s g is
recut s g h le [] = refl
recut s g h le (i ∷ is) =
    gather_append (due_by g) (trim g) (shown (window s h i)) (windowed s h is)
    ∙ ap (λ (x : List Call). x ++ trim_all g (windowed s h is)) (rewindow g h le i s)
    ∙ ap (λ (x : List Call). shown (window s g i) ++ x) (recut s g h le is)

module _ (s : Settings) (h : ℕ) where
  windowed-append : (xs ys : List CallInput) → windowed s h (xs ++ ys) ≡ windowed s h xs ++ windowed s h ys
  windowed-append [] ys = refl
  windowed-append (x ∷ xs) ys =
      ap (λ (r : List Call). shown (window s h x) ++ r) (windowed-append xs ys)
      ∙ sym (append_assoc (shown (window s h x)) (windowed s h xs) (windowed s h ys))

  windowed-one : (xs : List CallInput) (i : CallInput) (v : Option Call) → window s h i ≡ v
      → windowed s h (xs ++ (i ∷ [])) ≡ windowed s h xs ++ shown v
  windowed-one xs i v e =
      windowed-append xs (i ∷ []) ∙ ap (λ (r : List Call). windowed s h xs ++ r) (append-nil (shown (window s h i)) ∙ ap shown e)

  pub window-seen : (i : CallInput) → un_timed i ≡ false → window s h i ≡ call_seen s h i
  unfolding window
  window-seen i e = ap (λ (b : Bool). cond b None (call_seen s h i)) e

  pub window-absent : (i : CallInput) → un_timed i ≡ true → window s h i ≡ None
  unfolding window
  window-absent i e = ap (λ (b : Bool). cond b None (call_seen s h i)) e

-- ---- the step
pub record Showing (s : Settings) (is : List CallInput) (t : Table) : Type 0 where
  pub sound : TableSound t
  pub shows : take t.count t.calls ≡ windowed s t.horizon is

lower : (h : ℕ) → less h ≤ h
lower h = omega arith

pub showing-keeps : (s : Settings) (is : List CallInput) (a d : Option ℕ) (i : CallInput) → Keeps (Showing s is) a d i
unfolding cut
showing-keeps s is a d i t c p e f l = record {
  sound = sound-keeps a d i t c p.sound e f l;
  shows =
      cut-calls (less t.horizon) t p.sound ∙ ap (trim_all (less t.horizon)) p.shows
      ∙ recut s (less t.horizon) t.horizon (lower t.horizon) is;
}

module _ (s : Settings) (u : Table) (i : CallInput) (is : List CallInput) (q : Shows s u is) (present : un_timed i ≡ false) where
  ended-shows : (f : Tried) → Ends (Showing s is) (call_time s i i.arrival) (call_time s i i.departure) i f
      → Shows s (ended u f).table (is ++ cond (is_taken f.answer) (i ∷ []) [])
  ended-shows _ (stands t p e) = p.shows ∙ ap (windowed s t.horizon) (sym (append-nil is))
  ended-shows _ (enters t c p e h) =
      put-calls t c p.sound h ∙ ap (λ (x : List Call). x ++ (c ∷ [])) p.shows
      ∙ sym (windowed-one s t.horizon is i (Some c) (window-seen s t.horizon i present ∙ e))
  ended-shows _ (turned t c p e h m) = q ∙ ap (windowed s u.horizon) (sym (append-nil is))

pub step-shows : StepShows
unfolding call_on call_fit
step-shows s b n t i is sound q = go (first_answer (call_tests b n i)) refl
  where
    go : (a : Answer) → first_answer (call_tests b n i) ≡ a
        → Shows s (goes_on_of s t i a).table (is ++ cond (is_taken (goes_on_of s t i a).answer) (i ∷ []) [])
    go (Err w) e = q ∙ ap (windowed s t.horizon) (sym (append-nil is))
    go (Ok Outside) e = q ∙ ap (windowed s t.horizon) (sym (append-nil is))
    go (Ok Taken) e =
        ended-shows s t i is q (passed b n i e).present _
        (ends (Showing s is) (call_time s i i.arrival) (call_time s i i.departure) i
        (showing-keeps s is (call_time s i i.arrival) (call_time s i i.departure) i)
        t (record { sound = sound; shows = q }))

-- a refused call leaves the table as it was given
pub refused-same : (s : Settings) (b : Bool) (n : ℕ) (t : Table) (i : CallInput) → is_refused (call_on s b n t i).answer ≡ true
    → (call_on s b n t i).table ≡ t
unfolding call_on
refused-same s b n t i = go (first_answer (call_tests b n i))
  where
    go : (a : Answer) → is_refused (goes_on_of s t i a).answer ≡ true → (goes_on_of s t i a).table ≡ t
    go (Err w) e = refl
    go (Ok Outside) e = refl
    go (Ok Taken) e = cond-by _ _ e
