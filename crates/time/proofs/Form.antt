-- A text of the form is read by its parts, and a text that is taken has them.
use Rattle.std.specs.Prelude.{Err, Ok}
use Prim.Native.Nat.{ℕ, ◌+◌, ◌-◌, ◌^◌, ◌<◌, ◌≤◌}
use mathlib.Core.Path.{◌≡◌, refl, ap, sym, ◌∙◌}
use mathlib.Core.List.{List, [], ◌∷◌, ◌++◌, append_assoc}
use mathlib.Core.Bool.{Bool, true, false, cond, ◌&&◌}
use mathlib.Core.Logic.{⊎_elim}
use native.Mathlib.Omega.{arith}
use borrow.Author.Tests.{le-leb, leb-true, leb-false, ltb-true, lt-ltb, eqb-true}
use lib.Dec.{ltb, leb, eqb}
use lib.ListN.{length, get_or, take, length-append, take-append-drop}
use lib.Seq.{take_at, get_or-append-add}
use Rattle.laws.proofs.Bools.{and-true-left, and-true-right, and-true, test}
use Rattle.refusal.specs.declared.Refusal.TheVariants.{TimeText}
use Rattle.time.specs.Text.{colon, is_digit, all_digits, number, sixty, well_formed, seconds_of, in_range, parsed, time_of}
use Rattle.time.specs.Promises.{Digits, Form}
use Rattle.time.proofs.Laws.{back, last-six, by_parts, short, under, sixty-below}

-- the test of a byte says whether it is a digit
digits_in : (bs : List ℕ) → all_digits bs ≡ true → Digits bs
unfolding is_digit
digits_in [] e = tt
digits_in (b ∷ bs) e =
    let d : (leb 48 b && ltb b 58) ≡ true = and-true-left (leb 48 b && ltb b 58) (all_digits bs) e in
    let h : b < 58 = ltb-true b 58 (and-true-right (leb 48 b) (ltb b 58) d) in (
      leb-true 48 b (and-true-left (leb 48 b) (ltb b 58) d),
      omega arith,
      digits_in bs
          (and-true-right (leb 48 b && ltb b 58) (all_digits bs) e),
    )

digits-out : (bs : List ℕ) → Digits bs → all_digits bs ≡ true
unfolding is_digit
digits-out [] w = refl
digits-out (b ∷ bs) (l, h, w) =
    and-true (leb 48 b && ltb b 58) (all_digits bs) (and-true (leb 48 b) (ltb b 58) (le-leb 48 b l) (lt-ltb b 58 (omega arith)))
    (digits-out bs w)

-- seconds are given only within u32
pub in_range-taken : (t n : ℕ) → in_range t ≡ Ok n → (t < 2 ^ 32) × (n ≡ t)
unfolding in_range
in_range-taken t n e = go (ltb t (2 ^ 32)) refl e
  where
    go : (b : Bool) → ltb t (2 ^ 32) ≡ b → cond b (Ok t) (Err TimeText) ≡ Ok n → (t < 2 ^ 32) × (n ≡ t)
    go true h e = (ltb-true t (2 ^ 32) h, cc)
    go false h e = let z : ◌≡◌ {A = ℕ} 0 1 = cc in absurd (omega arith)

-- and only where the parts are as they should be
pub parsed-taken : (hours : List ℕ) (c : ℕ) (minutes : List ℕ) (d : ℕ) (seconds : List ℕ) (n : ℕ) → parsed hours c minutes d seconds ≡ Ok n
    → (well_formed hours c minutes d seconds ≡ true) × (in_range (seconds_of hours minutes seconds) ≡ Ok n)
unfolding parsed
parsed-taken hours c minutes d seconds n e = go (well_formed hours c minutes d seconds) e
  where
    go : (b : Bool) → cond b (in_range (seconds_of hours minutes seconds)) (Err TimeText) ≡ Ok n
        → (b ≡ true) × (in_range (seconds_of hours minutes seconds) ≡ Ok n)
    go true e = (refl, e)
    go false e = let z : ◌≡◌ {A = ℕ} 0 1 = cc in absurd (omega arith)

pub record Parts (hours : List ℕ) (c : ℕ) (minutes : List ℕ) (d : ℕ) (seconds : List ℕ) : Type 0 where
  pub long : 1 ≤ length hours
  pub first : c ≡ colon
  pub second : d ≡ colon
  pub m : sixty minutes ≡ true
  pub s : sixty seconds ≡ true
  pub h : all_digits hours ≡ true

pub parts : (hours : List ℕ) (c : ℕ) (minutes : List ℕ) (d : ℕ) (seconds : List ℕ) → well_formed hours c minutes d seconds ≡ true
    → Parts hours c minutes d seconds
unfolding well_formed
parts hours c minutes d seconds e =
    let w = leb 1 (length hours) in
    let x = w && eqb c colon in
    let y = x && eqb d colon in
    let z = y && sixty minutes in
    let e₁ = and-true-left (z && sixty seconds) (all_digits hours) e in
    let e₂ = and-true-left z (sixty seconds) e₁ in
    let e₃ = and-true-left y (sixty minutes) e₂ in
    let e₄ = and-true-left x (eqb d colon) e₃ in
    record {
      long = leb-true 1 (length hours) (and-true-left w (eqb c colon) e₄);
      first = eqb-true c colon (and-true-right w (eqb c colon) e₄);
      second = eqb-true d colon (and-true-right x (eqb d colon) e₃);
      m = and-true-right y (sixty minutes) e₂;
      s = and-true-right z (sixty seconds) e₁;
      h = and-true-right (z && sixty seconds) (all_digits hours) e;
    }

-- the digits of a part below 60
sixty-digits : (p : List ℕ) → sixty p ≡ true → all_digits p ≡ true
unfolding sixty
sixty-digits p e = and-true-left (all_digits p) (ltb (number p) 60) e

long-form : (text : List ℕ) (n : ℕ) → 7 ≤ length text → time_of text ≡ Ok n → Form text n
long-form text n k e =
    let hours = take (length text - 6) text in
    let minutes = back text 5 ∷ back text 4 ∷ [] in
    let seconds = back text 2 ∷ back text 1 ∷ [] in
    let got = parsed-taken hours (back text 6) minutes (back text 3) seconds n (sym (by_parts text k) ∙ e) in
    let p = parts hours (back text 6) minutes (back text 3) seconds got.0 in
    let range = in_range-taken (seconds_of hours minutes seconds) n got.1 in
    let whole : text ≡ hours ++ (back text 6 ∷ back text 5 ∷ back text 4 ∷ back text 3 ∷ seconds) =
    sym (take-append-drop (length text - 6) text) ∙ ap (λ (l : List ℕ). hours ++ l) (last-six text (omega arith)) in
    record {
      hours = hours;
      minutes = minutes;
      seconds = seconds;
      form = whole ∙ rw (p.first, p.second) (sym (append_assoc hours (colon ∷ minutes) (colon ∷ seconds)));
      some_hours = p.long;
      two_minutes = refl;
      two_seconds = refl;
      hour_digits = digits_in hours p.h;
      minute_digits = digits_in minutes (sixty-digits minutes p.m);
      second_digits = digits_in seconds (sixty-digits seconds p.s);
      minutes_below = sixty-below minutes p.m;
      seconds_below = sixty-below seconds p.s;
      value = range.1;
      below = rw range.1 range.0;
    }

-- a text that is taken is of the form
pub form_of : (text : List ℕ) (n : ℕ) → time_of text ≡ Ok n → Form text n
form_of text n e = ⊎_elim whole (λ h. absurd (too_short (leb-false 7 (length text) h))) (test (leb 7 (length text)))
  where
    too_short : length text < 7 → ⊥
    too_short h = let r : Err TimeText ≡ Ok n = short text h ∙ e in let z : ◌≡◌ {A = ℕ} 0 1 = cc in omega arith

    whole : leb 7 (length text) ≡ true → Form text n
    whole h = long-form text n (leb-true 7 (length text) h) e

-- the parts of a text that is put together of them
module _ (h : List ℕ) (a b c d : ℕ) where
  abbrev tail : List ℕ
  tail = colon ∷ a ∷ b ∷ colon ∷ c ∷ d ∷ []

  abbrev text : List ℕ
  text = h ++ tail

  long : length text ≡ length h + 6
  long = length-append h tail

  at : (k : ℕ) → k ≤ 6 → back text (6 - k) ≡ get_or tail k 0
  at k e =
      let n : length text - (6 - k) ≡ length h + k = omega (arith, long) in
      ap (λ (m : ℕ). get_or text m 0) n ∙ get_or-append-add h tail k 0

  in-front : take (length text - 6) text ≡ h
  in-front = take_at h tail (length text - 6) (omega (arith, long))

  pub put-together : 0 < length h → time_of text ≡ parsed h colon (a ∷ b ∷ []) colon (c ∷ d ∷ [])
  put-together e =
      by_parts text (omega (arith, long))
      ∙ rw (
        at 0 (omega arith),
        at 1 (omega arith),
        at 2 (omega arith),
        at 3 (omega arith),
        at 4 (omega arith),
        at 5
            (omega arith),
        in-front,
      ) refl

sixty-of : (p : List ℕ) → all_digits p ≡ true → number p < 60 → sixty p ≡ true
unfolding sixty
sixty-of p e h = and-true (all_digits p) (ltb (number p) 60) e (lt-ltb (number p) 60 h)

parsed-form : (hours minutes seconds : List ℕ) → 0 < length hours → all_digits hours ≡ true → sixty minutes ≡ true → sixty seconds ≡ true
    → parsed hours colon minutes colon seconds ≡ in_range (seconds_of hours minutes seconds)
unfolding parsed well_formed
parsed-form hours minutes seconds k h m s = rw (le-leb 1 (length hours) k, m, s, h) refl

-- a text of the form is taken
pub taken_of : (text : List ℕ) (n : ℕ) → Form text n → time_of text ≡ Ok n
taken_of text n f = go f.minutes f.seconds f.two_minutes f.two_seconds f.form refl refl
  where
    go : (minutes seconds : List ℕ) → length minutes ≡ 2 → length seconds ≡ 2 → text ≡ f.hours ++ colon ∷ minutes ++ colon ∷ seconds
        → f.minutes ≡ minutes → f.seconds ≡ seconds → time_of text ≡ Ok n
    go (a ∷ b ∷ []) (c ∷ d ∷ []) l₁ l₂ e em es =
        let m : sixty (a ∷ b ∷ []) ≡ true = rw em at (sixty-of f.minutes (digits-out f.minutes f.minute_digits) f.minutes_below) in
        let s : sixty (c ∷ d ∷ []) ≡ true = rw es at (sixty-of f.seconds (digits-out f.seconds f.second_digits) f.seconds_below) in
        let v : n ≡ seconds_of f.hours (a ∷ b ∷ []) (c ∷ d ∷ []) = rw (em, es) at f.value in
        ap time_of (e ∙ append_assoc f.hours (colon ∷ a ∷ b ∷ []) (colon ∷ c ∷ d ∷ []))
        ∙ put-together f.hours a b c d f.some_hours
        ∙ parsed-form f.hours (a ∷ b ∷ []) (c ∷ d ∷ []) f.some_hours (digits-out f.hours f.hour_digits) m s
        ∙ ap in_range (sym v) ∙ sym (under n f.below)
    go [] seconds l₁ l₂ e em es = absurd (omega arith)
    go (a ∷ []) seconds l₁ l₂ e em es = absurd (omega arith)
    go (a ∷ b ∷ c ∷ m) seconds l₁ l₂ e em es = absurd (omega arith)
    go (a ∷ b ∷ []) [] l₁ l₂ e em es = absurd (omega arith)
    go (a ∷ b ∷ []) (c ∷ []) l₁ l₂ e em es = absurd (omega arith)
    go (a ∷ b ∷ []) (c ∷ d ∷ x ∷ s) l₁ l₂ e em es = absurd (omega arith)
