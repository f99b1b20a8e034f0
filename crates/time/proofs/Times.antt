-- The promises on time texts, proved.
use Rattle.std.specs.Prelude.{Err, Ok, Result}
use Rattle.refusal.specs.declared.Refusal.{Refusal}
use Prim.Native.Nat.{ℕ, ◌^◌, ◌<◌}
use mathlib.Core.Path.{◌≡◌, refl, ap}
use mathlib.Core.List.{List, ◌∷◌}
use mathlib.Core.Bool.{Bool, true, false, cond}
use mathlib.Core.Logic.{◌⊎◌, inl, inr}
use native.Mathlib.Omega.{arith}
use borrow.Author.Tests.{ltb-true}
use lib.Dec.{ltb}
use Rattle.refusal.specs.declared.Refusal.TheVariants.{TimeText}
use Rattle.time.specs.Text.{is_digit, sixty, well_formed, seconds_of, in_range, parsed, time_of, answer}
use Rattle.time.specs.Promises.{Taken, Answered, ZeroInFront, Marked}
use Rattle.time.proofs.Form.{form_of, taken_of}

pub taken : Taken
taken text n = (form_of text n, taken_of text n)

-- seconds below 2 ^ 32, or 16
abbrev Either : Result ℕ Refusal → Type 0
Either t = ((n : ℕ) × (answer t ≡ inl n) × (n < 2 ^ 32)) ⊎ (answer t ≡ inr 16)

in_range-either : (n : ℕ) → Either (in_range n)
unfolding in_range
in_range-either n = go (ltb n (2 ^ 32)) refl
  where
    go : (b : Bool) → ltb n (2 ^ 32) ≡ b → Either (cond b (Ok n) (Err TimeText))
    go true e = inl (n, refl, ltb-true n (2 ^ 32) e)
    go false e = inr refl

parsed-either : (hours : List ℕ) (c : ℕ) (minutes : List ℕ) (d : ℕ) (seconds : List ℕ) → Either (parsed hours c minutes d seconds)
unfolding parsed
parsed-either hours c minutes d seconds = go (well_formed hours c minutes d seconds)
  where
    go : (b : Bool) → Either (cond b (in_range (seconds_of hours minutes seconds)) (Err TimeText))
    go true = in_range-either (seconds_of hours minutes seconds)
    go false = inr refl

pub answered : Answered
unfolding time_of
answered text = parsed-either _ _ _ _ _

pub zero-in-front : ZeroInFront
zero-in-front text n e =
    let f = form_of text n e in
    taken_of (48 ∷ text) n
    (record {
      hours = 48 ∷ f.hours;
      minutes = f.minutes;
      seconds = f.seconds;
      form = ap (λ (s : List ℕ). 48 ∷ s) f.form;
      some_hours = omega arith;
      two_minutes = f.two_minutes;
      two_seconds = f.two_seconds;
      hour_digits = (omega arith, omega arith, f.hour_digits);
      minute_digits = f.minute_digits;
      second_digits = f.second_digits;
      minutes_below = f.minutes_below;
      seconds_below = f.seconds_below;
      value = f.value;
      below = f.below;
    })

pub marked : Marked
unfolding time_of parsed well_formed in_range sixty is_digit
marked = (refl, (refl, (refl, (refl, (refl, tt)))))
