-- What is proved of time texts: which are taken, as what, and that every other is refused. RULES 14.
use Rattle.std.specs.Prelude.{ℕ, ◌^◌, ◌≤◌, ◌<◌, ◌≡◌, List, [], ◌∷◌, ◌++◌, ◌⊎◌, ◌↔◌, length, Ok}
use Rattle.std.proofs.Common.{inl, inr}
use Rattle.time.specs.Text.{colon, number, seconds_of, time_of, answer}

-- the bytes 48 to 57, which are "0" to "9"
abbrev pub Digits : List ℕ → Type 0
Digits [] = Unit {0}
Digits (b ∷ bs) = (48 ≤ b) × (b ≤ 57) × Digits bs

-- a text of the form, with its seconds
pub record Form (text : List ℕ) (n : ℕ) : Type 0 where
  pub hours : List ℕ
  pub minutes : List ℕ
  pub seconds : List ℕ
  pub form : text ≡ hours ++ colon ∷ minutes ++ colon ∷ seconds
  pub some_hours : 0 < length hours
  pub two_minutes : length minutes ≡ 2
  pub two_seconds : length seconds ≡ 2
  pub hour_digits : Digits hours
  pub minute_digits : Digits minutes
  pub second_digits : Digits seconds
  pub minutes_below : number minutes < 60
  pub seconds_below : number seconds < 60
  pub value : n ≡ seconds_of hours minutes seconds
  pub below : n < 2 ^ 32

-- a text has seconds exactly if it is of the form
abbrev pub Taken : Type 0
Taken = (text : List ℕ) (n : ℕ) → (time_of text ≡ Ok n) ↔ Form text n

-- every other is refused with 16
abbrev pub Answered : Type 0
Answered = (text : List ℕ) → ((n : ℕ) × (answer (time_of text) ≡ inl n) × (n < 2 ^ 32)) ⊎ (answer (time_of text) ≡ inr 16)

-- a zero in front of a text that is taken changes nothing
abbrev pub ZeroInFront : Type 0
ZeroInFront = (text : List ℕ) (n : ℕ) → time_of text ≡ Ok n → time_of (48 ∷ text) ≡ Ok n

-- "24:00:00", "7:05:00", "07:5:00", "1193046:28:15", and one second more
abbrev pub marked : List (List ℕ × (ℕ ⊎ ℕ))
marked =
    (50 ∷ 52 ∷ 58 ∷ 48 ∷ 48 ∷ 58 ∷ 48 ∷ 48 ∷ [], inl 86400)
    ∷ (55 ∷ 58 ∷ 48 ∷ 53 ∷ 58 ∷ 48 ∷ 48 ∷ [], inl 25500)
    ∷ (48 ∷ 55 ∷ 58 ∷ 53 ∷ 58 ∷ 48 ∷ 48 ∷ [], inr 16)
    ∷ (49 ∷ 49 ∷ 57 ∷ 51 ∷ 48 ∷ 52 ∷ 54 ∷ 58 ∷ 50 ∷ 56 ∷ 58 ∷ 49 ∷ 53 ∷ [], inl 4294967295)
    ∷ (49 ∷ 49 ∷ 57 ∷ 51 ∷ 48 ∷ 52 ∷ 54 ∷ 58 ∷ 50 ∷ 56 ∷ 58 ∷ 49 ∷ 54 ∷ [], inr 16)
    ∷ []

abbrev pub AnsweredSo : List (List ℕ × (ℕ ⊎ ℕ)) → Type 0
AnsweredSo [] = Unit {0}
AnsweredSo (row ∷ rows) = (answer (time_of row.0) ≡ row.1) × AnsweredSo rows

abbrev pub Marked : Type 0
Marked = AnsweredSo marked
