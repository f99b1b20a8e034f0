-- Of several calls the last goes; what is left of a sound table is a sound table.
use Prim.Native.Nat.{ℕ, suc, ◌+◌, ◌-◌, ◌≤◌}
use mathlib.Core.Path.{◌≡◌, refl, sym, ap, subst, ◌∙◌}
use mathlib.Core.Bool.{Bool, true, false, cond, not, ◌||◌, true≢false, false≢true}
use mathlib.Core.List.{List, [], ◌∷◌, ◌++◌, append_assoc}
use native.Mathlib.Omega.{arith}
use lib.Dec.{eqb, eqb-suc-zero}
use lib.ListN.{length, replicate, length-append, length-replicate, length-take, take-append-drop, replicate-append-replicate}
use lib.Seq.{take-append_seam, drop-append_seam}
use Rattle.laws.specs.Lists.{anyb, padded}
use Rattle.laws.proofs.Lists.{anyb-append}
use Rattle.laws.proofs.Bools.{or_true_right}
use Rattle.calls.specs.declared.Call.{Call}
use Rattle.calls.specs.declared.Table.{Table}
use Rattle.calls.specs.Tables.{blank_call}
use Rattle.calls.specs.Shown.{table_calls}
use Rattle.calls.specs.Sound.{All, CallSound, AtStop, TableSound, StopsKnown}
use Rattle.calls.specs.declared.CallKey.{CallKey}
use Rattle.withdrawal.specs.Removal.{last_of, without_last, closed_up, has_key, withdrawn, LastGoes, WithoutLast, PlaceTells, Leaves}
use Rattle.withdrawal.specs.Removal.{WithdrawnLeaves}
use Rattle.withdrawal.proofs.RemovalLaws.{closing, closed_some}

-- ---- lists

module _ {A : Type 0} (p : A → Bool) where
  pub goes : (xs : List A) → anyb p xs ≡ true → LastGoes p xs
  goes [] e = absurd (false≢true e)
  goes (x ∷ xs) e = by (goes xs) (anyb p xs) refl (p x) refl e
    where
      by : (anyb p xs ≡ true → LastGoes p xs) → (b : Bool) → anyb p xs ≡ b → (c : Bool) → p x ≡ c → (c || b) ≡ true → LastGoes p (x ∷ xs)
      by ih true q c r h =
          let w = ih q in
          record {
            before = x ∷ w.before;
            gone = w.gone;
            behind = w.behind;
            whole = ap {B = List A} (λ l. x ∷ l) w.whole;
            passes = w.passes;
            last = w.last;
            place = rw q (ap suc w.place);
            left = rw q (ap {B = List A} (λ l. x ∷ l) w.left);
          }
      by ih false q true r h =
          record { before = []; gone = x; behind = xs; whole = refl; passes = r; last = q; place = rw (q, r) refl; left = rw (q, r) refl }
      by ih false q false r h = absurd (false≢true h)

  tells : (xs : List A) → eqb (last_of p xs) 0 ≡ not (anyb p xs)
  tells [] = refl
  tells (x ∷ xs) = by (anyb p xs) (p x)
    where
      by : (b c : Bool) → eqb (cond b (suc (last_of p xs)) (cond c 1 0)) 0 ≡ not (c || b)
      by true true = eqb-suc-zero (last_of p xs)
      by true false = eqb-suc-zero (last_of p xs)
      by false true = refl
      by false false = refl

  -- the last one put in goes
  pub last-gone : (xs : List A) (c : A) → p c ≡ true → without_last p (xs ++ (c ∷ [])) ≡ xs
  last-gone [] c e = rw e refl
  last-gone (x ∷ xs) c e =
      let some : anyb p (xs ++ (c ∷ [])) ≡ true = anyb-append p xs (c ∷ []) ∙ or_true_right (anyb p xs) (p c || false) (rw e refl) in
      rw some (ap {B = List A} (λ l. x ∷ l) (last-gone xs c e))

  pub none-gone : (xs : List A) → anyb p xs ≡ false → without_last p xs ≡ xs
  none-gone [] e = refl
  none-gone (x ∷ xs) e = go (p x) (anyb p xs) e
    where
      go : (b c : Bool) → (b || c) ≡ false → cond c (x ∷ without_last p xs) (cond b xs (x ∷ xs)) ≡ x ∷ xs
      go true c q = absurd (true≢false q)
      go false true q = absurd (true≢false q)
      go false false q = refl

  pub all_without : (P : A → Type 0) (xs : List A) → All P xs → All P (without_last p xs)
  all_without P [] h = tt
  all_without P (x ∷ xs) h = by (anyb p xs) (p x) (all_without P xs h.1)
    where
      by : (b c : Bool) → All P (without_last p xs) → All P (cond b (x ∷ without_last p xs) (cond c xs (x ∷ xs)))
      by true c ih = (h.0, ih)
      by false true ih = h.1
      by false false ih = h

pub without-last : WithoutLast
without-last p xs e = goes p xs e

pub place-tells : PlaceTells
place-tells p xs = tells p xs

-- ---- the array

module _ {A : Type 0} (b : A) where
  closing_at : (xs : List A) (g : A) (ys : List A) → closing b (length xs) (xs ++ (g ∷ ys)) ≡ xs ++ ys ++ (b ∷ [])
  closing_at [] g ys = refl
  closing_at (x ∷ xs) g ys = ap {B = List A} (λ l. x ∷ l) (closing_at xs g ys)

-- the table with these calls and blanks behind them
abbrev pub holding : Table → List Call → Table
holding t cs = record { calls = padded blank_call 512 cs; count = length cs; horizon = t.horizon; limits = t.limits }

module _ (t : Table) (k : CallKey) (s : TableSound t) (e : anyb (has_key k) (table_calls t) ≡ true) where
  front-count : length (table_calls t) ≡ t.count
  front-count = simp length-take (omega (arith, s.few, s.long))

  abbrev left : List Call
  left = without_last (has_key k) (table_calls t)

  w : LastGoes (has_key k) (table_calls t)
  w = goes (has_key k) (table_calls t) e

  counted : length w.before + suc (length w.behind) ≡ t.count
  counted = sym (length-append w.before (w.gone ∷ w.behind)) ∙ ap (length {A = Call}) (sym w.whole) ∙ front-count

  left-count : length left + 1 ≡ t.count
  left-count = omega (arith, counted, ap (length {A = Call}) w.left ∙ length-append w.before w.behind)

  abbrev blanks : List Call
  blanks = replicate (512 - t.count) blank_call

  -- the array, at the call that goes
  calls_are : t.calls ≡ w.before ++ (w.gone ∷ (w.behind ++ blanks))
  calls_are =
      sym (take-append-drop t.count t.calls)
      ∙ ap (λ (r : List Call). table_calls t ++ r) s.blank
      ∙ ap (λ (r : List Call). r ++ blanks) w.whole
      ∙ append_assoc w.before (w.gone ∷ w.behind) blanks

  closed : closing blank_call (length w.before) t.calls ≡ padded blank_call 512 left
  closed =
      let more : 512 - t.count + 1 ≡ 512 - length left = omega (arith, left-count, s.few) in
      ap (closing blank_call (length w.before)) calls_are
      ∙ closing_at blank_call w.before w.gone (w.behind ++ blanks)
      ∙ ap (λ (r : List Call). r ++ (blank_call ∷ [])) (sym (append_assoc w.before w.behind blanks))
      ∙ append_assoc (w.before ++ w.behind) blanks (blank_call ∷ [])
      ∙ ap (λ (r : List Call). w.before ++ w.behind ++ r) (replicate-append-replicate (512 - t.count) 1 blank_call
      ∙ ap (λ (n : ℕ). replicate n blank_call) more)
      ∙ ap (λ (r : List Call). r ++ replicate (512 - length left) blank_call) (sym w.left)

  -- the calls that are left, and blanks behind them
  pub is-holding : withdrawn t k ≡ holding t left
  unfolding withdrawn
  is-holding =
      let at : last_of (has_key k) (table_calls t) - 1 ≡ length w.before = omega (arith, w.place) in
      let few : length w.before + 1 ≤ 512 = omega (arith, counted, s.few) in
      let array =
      ap (λ (n : ℕ). closed_up blank_call n t.calls) at ∙ sym (closed_some blank_call (length w.before) t.calls s.long (omega (arith, few)))
      ∙ closed in
      let count : t.count - 1 ≡ length left = omega (arith, left-count) in
      λ j. record { calls = array j; count = count j; horizon = t.horizon; limits = t.limits }

  left-calls : table_calls (holding t left) ≡ left
  left-calls = take-append_seam left (replicate (512 - length left) blank_call)

  fill-up : (n : ℕ) → n ≤ 512 → n + (512 - n) ≡ 512
  fill-up n h = omega arith

  left-few : length left ≤ 512
  left-few = omega (arith, left-count, s.few)

  left-sound : TableSound (holding t left)
  left-sound = record {
    few = left-few;
    long = length-append left (replicate (512 - length left) blank_call) ∙ rw length-replicate (fill-up (length left) left-few);
    blank = drop-append_seam left (replicate (512 - length left) blank_call);
    each = subst (All (CallSound t.horizon)) (sym left-calls) (all_without (has_key k) (CallSound t.horizon) (table_calls t) s.each);
    known = s.known;
    limited = s.limited;
  }

  left-known : (n : ℕ) → StopsKnown n t → StopsKnown n (holding t left)
  left-known n h = subst (All (AtStop n)) (sym left-calls) (all_without (has_key k) (AtStop n) (table_calls t) h)

  leaves : Leaves t k
  leaves = record {
    calls = ap table_calls is-holding ∙ left-calls;
    sound = subst TableSound (sym is-holding) left-sound;
    known = λ n h. subst (StopsKnown n) (sym is-holding) (left-known n h);
  }

pub withdrawn-leaves : WithdrawnLeaves
withdrawn-leaves t k s e = leaves t k s e
