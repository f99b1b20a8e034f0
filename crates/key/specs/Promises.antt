-- What is proved of hashes and names.
use Rattle.key.specs.declared.NameError.{NameError}
use Rattle.key.specs.declared.NameError.TheVariants.{NoWord}
use Rattle.std.specs.Prelude.{◌≡◌, ℕ, ◌^◌, ◌<◌, true, false, cond, List, [], ◌∷◌, ◌++◌, map, ◌≢◌, Err, Ok, Result}
use Rattle.std.proofs.Common.{inl, inr}
use Rattle.laws.specs.Lists.{anyb}
use Rattle.key.specs.Hash.{hashed, key_of}
use Rattle.key.specs.Utf8.{utf8, points, encoded_of}
use Rattle.key.specs.Folding.{Fold, parting, barred, to, fold_of}
use Rattle.key.specs.Name.{is_space, is_bad, reason_of, lower_of, full, words, normalized, points_key, name_key, usable, answer}

-- a hash stays a u64
abbrev pub HashFits : Type 0
HashFits = (hash : ℕ) (bytes : List ℕ) → hash < 2 ^ 64 → hashed hash bytes < 2 ^ 64

-- a name that can be used has the hash of its normalized code points' bytes, and any other is refused with 8; what follows is over code
-- points
abbrev pub Answered : Type 0
Answered = (s : List ℕ) → answer (points_key s) ≡ cond (usable s) (inl (key_of (utf8 (normalized s)))) (inr 8)

-- the first bad code point in reading order says why
abbrev pub FirstBad : Type 0
FirstBad = (s t : List ℕ) (b : ℕ) → anyb is_bad s ≡ false → is_bad b ≡ true → points_key (s ++ b ∷ t) ≡ reason_of b

-- a name without a bad code point lacks only a word, or has its key
abbrev pub Wordless : Type 0
Wordless = (s : List ℕ) → anyb is_bad s ≡ false → full (words s) ≡ false → points_key s ≡ Err NoWord

abbrev pub Keyed : Type 0
Keyed = (s : List ℕ) → usable s ≡ true → points_key s ≡ Ok (key_of (utf8 (normalized s)))

abbrev pub Idempotent : Type 0
Idempotent = (s : List ℕ) → normalized (normalized s) ≡ normalized s

-- names that can be used and are normalized alike have one key
abbrev pub OneKey : Type 0
OneKey = (s t : List ℕ) → usable s ≡ true → usable t ≡ true → normalized s ≡ normalized t → points_key s ≡ points_key t

-- two names alike to the normalized code points and to the answer
pub record Alike (s t : List ℕ) : Type 0 where
  pub normal : normalized s ≡ normalized t
  pub key : points_key s ≡ points_key t

-- case counts for nothing
abbrev pub CaseBlind : Type 0
CaseBlind = (s t : List ℕ) → map lower_of s ≡ map lower_of t → Alike s t

-- nor which code point parts two words, nor how many do
abbrev pub SpaceBlind : Type 0
SpaceBlind = (s t : List ℕ) (a b : ℕ) → is_space a ≡ true → is_space b ≡ true → Alike (s ++ a ∷ t) (s ++ b ∷ t)

abbrev pub RunBlind : Type 0
RunBlind = (s t : List ℕ) (a b : ℕ) → is_space a ≡ true → is_space b ≡ true → Alike (s ++ a ∷ b ∷ t) (s ++ b ∷ t)

-- nor white space at the ends
abbrev pub StartBlind : Type 0
StartBlind = (s : List ℕ) (a : ℕ) → is_space a ≡ true → Alike (a ∷ s) s

abbrev pub EndBlind : Type 0
EndBlind = (s : List ℕ) (a : ℕ) → is_space a ≡ true → Alike (s ++ a ∷ []) s

-- ---- UTF-8

abbrev pub AllLatin : List ℕ → Type 0
AllLatin [] = Unit {0}
AllLatin (p ∷ ps) = (p < 256) × AllLatin ps

-- what is written is read back
abbrev pub Decoded : Type 0
Decoded = (ps : List ℕ) → AllLatin ps → points (utf8 ps) ≡ ps

-- and a text that is read through is the writing of code points up to 255, so every other text is ill-formed or goes above
abbrev pub Encoded : Type 0
Encoded = (s : List ℕ) → AllLatin (points s) → utf8 (points s) ≡ s

-- names by their code points
abbrev pub ByPoints : Type 0
ByPoints = (ps : List ℕ) → AllLatin ps → name_key (utf8 ps) ≡ points_key ps

-- so two names that are alike as code points have one key
abbrev pub OneName : Type 0
OneName = (ps qs : List ℕ) → AllLatin ps → AllLatin qs → Alike ps qs → name_key (utf8 ps) ≡ name_key (utf8 qs)

-- a text of bytes below 128 is its own code points
abbrev pub AllAscii : List ℕ → Type 0
AllAscii [] = Unit {0}
AllAscii (b ∷ bs) = (b < 128) × AllAscii bs

abbrev pub AsciiRead : Type 0
AsciiRead = (s : List ℕ) → AllAscii s → points s ≡ s

-- and its answer is the hash of its normalized bytes as they stand, or 8
abbrev pub AsciiAnswered : Type 0
AsciiAnswered = (s : List ℕ) → AllAscii s → answer (name_key s) ≡ cond (usable s) (inl (key_of (normalized s))) (inr 8)

-- an accent counts: é is another name than e
abbrev pub AccentCounts : Type 0
AccentCounts = name_key (utf8 (233 ∷ [])) ≡ name_key (utf8 (101 ∷ [])) → ⊥

-- any text that is not so written is refused with 8
abbrev pub IllFormed : Type 0
IllFormed = (s : List ℕ) → ((ps : List ℕ) → AllLatin ps → utf8 ps ≢ s) → answer (name_key s) ≡ inr 8

-- what a name of one code point gives
abbrev pub alone_of_of : ℕ → Fold → Result ℕ NameError
alone_of_of p parting = Err NoWord
alone_of_of p barred = reason_of p
alone_of_of p (to q) = Ok (key_of (encoded_of q))

abbrev pub Alone : Type 0
Alone = (p : ℕ) → p < 256 → name_key (encoded_of p) ≡ alone_of_of p (fold_of p)
