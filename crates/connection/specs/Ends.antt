-- What is asked of the ends, and of the number of changes. "Membership byte (bits 0 to 3 origins, bits 4 to 7 targets; bits past the
-- counts are ignored)"; "boarding needs departure at or above walk × 60".
use Rattle.std.specs.Prelude.{Bool, not, ◌&&◌, List, [], ◌∷◌, ℕ, ◌+◌, ◌*◌, ◌/◌, leb, ltb}
use Rattle.laws.specs.Bits.{digit}
use Rattle.connection.specs.declared.Cause.{Cause}
use Rattle.connection.specs.declared.Cause.TheVariants.{NotOrigin, NotTarget, TooEarly, TooManyChanges}

unfoldable pub low_digit : ℕ → ℕ → Bool
low_digit k m = ltb k 4 && digit k m

-- k is one of so many, and digit k of the mask is set
unfoldable pub is_member_of : ℕ → ℕ → ℕ → Bool
is_member_of count k m = ltb k count && low_digit k m

-- `from` and `to` are the membership bytes of the first stop and the last
abbrev pub end_tests : ℕ → ℕ → ℕ → ℕ → ℕ → ℕ → ℕ → ℕ → List (Bool × Cause)
end_tests origins targets o k from to walk departure =
    (not (is_member_of origins o from), NotOrigin)
    ∷ (not (is_member_of targets k (to / 16)), NotTarget)
    ∷ (not (leb (walk * 60) departure), TooEarly (walk * 60) departure)
    ∷ []

-- n rides have n − 1 changes
abbrev pub count_tests : ℕ → ℕ → List (Bool × Cause)
count_tests n most = (ltb (most + 1) n, TooManyChanges most) ∷ []
