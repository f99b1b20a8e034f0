-- Reading hours digit by digit, and a text from its end, test by test.
use Rattle.std.specs.Prelude.{Err, Ok, None, Option, Some}
use Rattle.std.specs.Option.{SomeIff, ok_or}
use Prim.Native.Nat.{ℕ, suc, ◌+◌, ◌-◌, ◌*◌, ◌^◌, ◌<◌, ◌≤◌}
use mathlib.Core.Logic.{⊎_elim}
use mathlib.Core.Path.{◌≡◌, refl, ap, ◌∙◌}
use mathlib.Core.List.{List, [], ◌∷◌}
use mathlib.Core.Bool.{Bool, true, false, cond, ◌&&◌}
use native.Mathlib.Numerals.{add-one}
use native.Mathlib.Omega.{arith}
use borrow.Author.Tests.{le-ltb, lt-ltb, le-leb, leb-true, leb-false, eq-eqb, ne_eqb, ltb-true}
use lib.Dec.{ltb, leb, eqb}
use lib.ListN.{length, get_or, take, drop, drop_of_length-le, length-take}
use lib.Seq.{drop-cons}
use Rattle.laws.specs.Lists.{foldl}
use Rattle.laws.proofs.Bools.{and-true-right, test}
use Rattle.refusal.specs.declared.Refusal.TheVariants.{TimeText}
use Rattle.time.specs.Text.{is_digit, all_digits, with_digit, number, sixty, well_formed, in_range, parsed, time_of}
use Rattle.time.specs.Hours.{with_hours}

grows : (v : ℕ) (l : List ℕ) → v ≤ foldl with_digit v l
grows v [] = omega arith
grows v (b ∷ bs) = omega (arith, grows (with_digit v b) bs)

pub over : (n : ℕ) → 2 ^ 32 ≤ n → Err TimeText ≡ in_range n
unfolding in_range
over n h = rw (le-ltb n (2 ^ 32) h) refl

pub under : (n : ℕ) → n < 2 ^ 32 → Ok n ≡ in_range n
unfolding in_range
under n h = rw (lt-ltb n (2 ^ 32) h) refl

-- what a checked sum gives
pub checked_sum : (o : Option ℕ) (n : ℕ) → SomeIff o (n < 2 ^ 32) n → ok_or o TimeText ≡ in_range n
checked_sum None n h = over n (omega (arith, h))
checked_sum (Some x) n (h, e) = rw e (under n h)

-- hours past 1193046 are refused, whatever follows
pub too_many : (v : ℕ) (l : List ℕ) (rest : ℕ) → 1193046 < v → Err TimeText ≡ with_hours v l rest
unfolding with_hours
too_many v l rest h = go (all_digits l)
  where
    go : (b : Bool) → Err TimeText ≡ cond b (in_range (foldl with_digit v l * 3600 + rest)) (Err TimeText)
    go true = over (foldl with_digit v l * 3600 + rest) (omega (arith, grows v l))
    go false = refl

pub digit-turn : (v : ℕ) (l : List ℕ) (i rest w : ℕ) → i < length l → is_digit (get_or l i 0) ≡ true → w ≡ get_or l i 0 - 48
    → with_hours v (drop i l) rest ≡ with_hours (v * 10 + w) (drop (i + 1) l) rest
unfolding with_hours
digit-turn v l i rest w h e q = rw (add-one, drop-cons l i 0, e, q) refl

pub other-turn : (v : ℕ) (l : List ℕ) (i rest : ℕ) → i < length l → is_digit (get_or l i 0) ≡ false
    → Err TimeText ≡ with_hours v (drop i l) rest
unfolding with_hours
other-turn v l i rest h e = rw (drop-cons l i 0, e) refl

pub hours_end : (v : ℕ) (l : List ℕ) (i rest : ℕ) → length l ≤ i → with_hours v (drop i l) rest ≡ in_range (v * 3600 + rest)
unfolding with_hours
hours_end v l i rest h = rw (drop_of_length-le l h) refl

pub sixty-below : (p : List ℕ) → sixty p ≡ true → number p < 60
unfolding sixty
sixty-below p e = ltb-true (number p) 60 (and-true-right (all_digits p) (ltb (number p) 60) e)

-- the byte k before the end
abbrev pub back : List ℕ → ℕ → ℕ
back s k = get_or s (length s - k) 0

back-cons : (s : List ℕ) (k : ℕ) → suc k ≤ length s → drop (length s - suc k) s ≡ back s (suc k) ∷ drop (length s - k) s
back-cons s k h =
    let next : suc (length s - suc k) ≡ length s - k = omega arith in
    drop-cons s (length s - suc k) 0 (omega arith) ∙ ap (λ (m : ℕ). back s (suc k) ∷ drop m s) next

pub last-six : (s : List ℕ) → 6 ≤ length s
    → drop (length s - 6) s ≡ back s 6 ∷ back s 5 ∷ back s 4 ∷ back s 3 ∷ back s 2 ∷ back s 1 ∷ []
last-six s h =
    let none : drop (length s - 0) s ≡ [] = drop_of_length-le s {i = length s - 0} (omega arith) in
    rw (
      back-cons s 5 h,
      back-cons s 4 (omega arith),
      back-cons s 3 (omega arith),
      back-cons s 2 (omega arith),
      back-cons s 1
          (omega arith),
      back-cons s 0 (omega arith),
      none,
    ) refl

-- a text of seven bytes or more has its parts by their distance from the end
pub by_parts : (s : List ℕ) → 7 ≤ length s
    → time_of s ≡ parsed (take (length s - 6) s) (back s 6) (back s 5 ∷ back s 4 ∷ []) (back s 3) (back s 2 ∷ back s 1 ∷ [])
unfolding time_of
by_parts s h =
    let a : length s - 6 + 1 ≡ length s - 5 = omega arith in
    let b : length s - 6 + 3 ≡ length s - 3 = omega arith in
    let c : length s - 6 + 4 ≡ length s - 2 = omega arith in
    let none : drop (length s - 0) s ≡ [] = drop_of_length-le s {i = length s - 0} (omega arith) in
    rw (a, b, c, back-cons s 4 (omega arith), back-cons s 3 (omega arith), back-cons s 1 (omega arith), back-cons s 0 (omega arith), none)
    refl

-- a text of fewer than seven bytes has no hours
pub short : (s : List ℕ) → length s < 7 → Err TimeText ≡ time_of s
unfolding time_of parsed well_formed
short s h =
    let none : length s - 6 ≡ 0 = omega arith in
    rw none refl

-- one false test among others
mid-false : (a b : Bool) → ((a && false) && b) ≡ false
mid-false true b = refl
mid-false false b = refl

-- the tests, in the order of the code
module _ (s : List ℕ) where
  abbrev minutes : List ℕ
  minutes = back s 5 ∷ back s 4 ∷ []

  abbrev seconds : List ℕ
  seconds = back s 2 ∷ back s 1 ∷ []

  abbrev hours : List ℕ
  hours = take (length s - 6) s

  some_hours : 7 ≤ length s → 1 ≤ length hours
  some_hours h = simp length-take (omega arith)

  -- a text of seven bytes or more, all that is left to show
  when-long : (7 ≤ length s → Err TimeText ≡ time_of s) → Err TimeText ≡ time_of s
  when-long f = ⊎_elim (λ e. f (leb-true 7 (length s) e)) (λ e. short s (leb-false 7 (length s) e)) (test (leb 7 (length s)))

  pub first_other : (back s 6 ≡ 58 → ⊥) → Err TimeText ≡ time_of s
  unfolding parsed well_formed
  first_other k = when-long (λ h. rw (by_parts s h, ne_eqb (back s 6) 58 k, le-leb 1 (length hours) (some_hours h)) refl)

  pub second_other : (back s 3 ≡ 58 → ⊥) → Err TimeText ≡ time_of s
  unfolding parsed well_formed
  second_other k =
      when-long (λ h. rw (by_parts s h, ne_eqb (back s 3) 58 k, mid-false (leb 1 (length hours) && eqb (back s 6) 58) (sixty minutes)) refl)

  pub no_minutes : sixty minutes ≡ false → Err TimeText ≡ time_of s
  unfolding parsed well_formed
  no_minutes e =
      when-long (λ h. rw (by_parts s h, e, mid-false (leb 1 (length hours) && eqb (back s 6) 58 && eqb (back s 3) 58) (sixty seconds)) refl)

  pub no_seconds : sixty seconds ≡ false → Err TimeText ≡ time_of s
  unfolding parsed well_formed
  no_seconds e =
      when-long (λ h.
      rw (
        by_parts s h,
        e,
        mid-false (leb 1 (length hours) && eqb (back s 6) 58 && eqb (back s 3) 58 && sixty minutes)
            (all_digits hours),
      ) refl)

  pub right : 7 ≤ length s → back s 6 ≡ 58 → back s 3 ≡ 58 → sixty minutes ≡ true → sixty seconds ≡ true
      → with_hours 0 hours (number minutes * 60 + number seconds) ≡ time_of s
  unfolding parsed well_formed with_hours
  right h k l e f = rw (by_parts s h, le-leb 1 (length hours) (some_hours h), eq-eqb (back s 6) 58 k, eq-eqb (back s 3) 58 l, e, f) refl
