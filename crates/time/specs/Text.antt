-- Time texts, bytes to seconds: hours of one digit or more, ':', two digits, ':', two digits; minutes and seconds below 60; below 2^32
-- seconds in all. Every other text is refused with 16. RULES 14.
use Rattle.refusal.specs.declared.Refusal.{Refusal}
use Rattle.std.specs.Prelude.{ℕ, ◌+◌, ◌-◌, ◌*◌, ◌^◌, List, [], ◌∷◌, Bool, true, cond, ◌&&◌, ◌⊎◌, eqb, ltb, leb, length, get_or, take}
use Rattle.std.specs.Prelude.{drop, Err, Ok, Result}
use Rattle.std.proofs.Common.{inl, inr}
use Rattle.laws.specs.Lists.{foldl}
use Rattle.refusal.specs.declared.Refusal.TheVariants.{TimeText}
use Rattle.refusal.specs.Causes.{number_of}

abbrev pub colon : ℕ
colon = 58

unfoldable pub is_digit : ℕ → Bool
is_digit b = leb 48 b && ltb b 58

abbrev pub all_digits : List ℕ → Bool
all_digits [] = true
all_digits (b ∷ bs) = is_digit b && all_digits bs

abbrev pub with_digit : ℕ → ℕ → ℕ
with_digit n b = n * 10 + (b - 48)

-- the number that digits stand for, without bound; zeros in front count for nothing
abbrev pub number : List ℕ → ℕ
number digits = foldl with_digit 0 digits

-- digits that stand for a number below 60
unfoldable pub sixty : List ℕ → Bool
sixty digits = all_digits digits && ltb (number digits) 60

-- hours, and minutes and seconds, each after a byte that is to be a colon
unfoldable pub well_formed : List ℕ → ℕ → List ℕ → ℕ → List ℕ → Bool
well_formed hours c minutes d seconds =
    leb 1 (length hours) && eqb c colon && eqb d colon && sixty minutes && sixty seconds && all_digits hours

abbrev pub seconds_of : List ℕ → List ℕ → List ℕ → ℕ
seconds_of hours minutes seconds = number hours * 3600 + (number minutes * 60 + number seconds)

-- n seconds, if that is a u32
unfoldable pub in_range : ℕ → Result ℕ Refusal
in_range n = cond (ltb n (2 ^ 32)) (Ok n) (Err TimeText)

unfoldable pub parsed : List ℕ → ℕ → List ℕ → ℕ → List ℕ → Result ℕ Refusal
parsed hours c minutes d seconds = cond (well_formed hours c minutes d seconds) (in_range (seconds_of hours minutes seconds)) (Err TimeText)

-- the parts by their places: all but the last six bytes are hours; these are a colon, two bytes, a colon, two bytes
unfoldable pub time_of : List ℕ → Result ℕ Refusal
time_of text =
    let end = length text - 6 in
    parsed (take end text) (get_or text end 0) (take 2 (drop (end + 1) text)) (get_or text (end + 3) 0) (drop (end + 4) text)

-- the value or number of each case: the seconds, or 16
abbrev pub answer : Result ℕ Refusal → ℕ ⊎ ℕ
answer (Ok n) = inl n
answer (Err cause) = inr (number_of cause)
