-- The promises on hashes and names, proved.
use Rattle.key.specs.declared.NameError.{NameError}
use Rattle.key.specs.declared.NameError.TheVariants.{Control, NoWord, NotLatin}
use Rattle.std.specs.Prelude.{Some, Err, Ok, Result}
use Rattle.std.proofs.Common.{◌≡◌, ℕ, ◌*◌, ◌^◌, ◌<◌, Bool, true, false, cond, not, ◌&&◌, ◌||◌, List, [], ◌∷◌, ◌++◌, map, sym, refl, ap, ◌∙◌}
use Rattle.std.proofs.Common.{ap₂, inl, inr, append-nil, mod-lt, arith}
use borrow.Author.Tests.{not-true}
use lib.Bits.{bit_xor}
use Rattle.laws.specs.Lists.{anyb, firstb}
use Rattle.laws.proofs.Bools.{or-false-left, or-false-right, and-true-left, and-true-right}
use Rattle.key.specs.Hash.{prime, step_of, key_of}
use Rattle.key.specs.Utf8.{encoded_of, utf8, points, is_latin}
use Rattle.key.specs.Folding.{parting, barred, to, fold_of}
use Rattle.key.specs.Name.{is_space, is_bad, reason_of, lower_of, full, words, joined, normalized, unless_bad, points_key, name_key, usable}
use Rattle.key.specs.Name.{answer}
use Rattle.key.specs.Promises.{HashFits, Answered, FirstBad, Wordless, Keyed, Idempotent, OneKey, Alike, CaseBlind, SpaceBlind, RunBlind}
use Rattle.key.specs.Promises.{StartBlind, EndBlind, AllLatin, ByPoints, OneName, IllFormed, alone_of_of, Alone}
use Rattle.key.proofs.Points.{lower-bad, lower-reason, space-good, good-latin}
use Rattle.key.proofs.Decoding.{decoded, encoded}
use Rattle.key.proofs.Words.{words_append, words-start, words-lower, normalized-lower, normalized-joined}

step_fits : (hash b : ℕ) → step_of hash b < 2 ^ 64
unfolding step_of
step_fits hash b = mod-lt (bit_xor hash b * prime) (omega arith)

pub hash-fits : HashFits
hash-fits hash [] h = h
hash-fits hash (b ∷ bytes) h = hash-fits (step_of hash b) bytes (step_fits hash b)

pub idempotent : Idempotent
idempotent s = normalized-lower (joined (words s)) ∙ normalized-joined s

-- the answer of s, where k is that of a name with no bad code point
abbrev judged : List ℕ → Result ℕ NameError → Result ℕ NameError
judged s k = unless_bad (firstb is_bad s) k

judged-good : (s : List ℕ) (k : Result ℕ NameError) → anyb is_bad s ≡ false → judged s k ≡ k
judged-good [] k e = refl
judged-good (b ∷ s) k e = rw (or-false-left (is_bad b) (anyb is_bad s) e) (judged-good s k (or-false-right (is_bad b) (anyb is_bad s) e))

refused : (b : ℕ) → answer (reason_of b) ≡ inr 8
unfolding reason_of
refused b = go (is_latin b)
  where
    go : (x : Bool) → answer (cond x (Err Control) (Err NotLatin)) ≡ inr 8
    go true = refl
    go false = refl

judged-bad : (s : List ℕ) (k : Result ℕ NameError) → anyb is_bad s ≡ true → answer (judged s k) ≡ inr 8
judged-bad [] k e = let z : ◌≡◌ {A = ℕ} 0 1 = cc in absurd (omega arith)
judged-bad (b ∷ s) k e = go (is_bad b) (judged-bad s k) e
  where
    go : (x : Bool) → (anyb is_bad s ≡ true → answer (judged s k) ≡ inr 8) → (x || anyb is_bad s) ≡ true
        → answer (unless_bad (cond x (Some b) (firstb is_bad s)) k) ≡ inr 8
    go true more e = refused b
    go false more e = more e

pub answered : Answered
unfolding points_key usable
answered s = go (anyb is_bad s) refl (full (words s))
  where
    go : (x : Bool) → anyb is_bad s ≡ x → (y : Bool)
        → answer (judged s (cond y (Ok (key_of (utf8 (normalized s)))) (Err NoWord)))
        ≡ cond (not x && y) (inl (key_of (utf8 (normalized s)))) (inr 8)
    go true e y = judged-bad s (cond y (Ok (key_of (utf8 (normalized s)))) (Err NoWord)) e
    go false e true = ap answer (judged-good s (Ok (key_of (utf8 (normalized s)))) e)
    go false e false = ap answer (judged-good s (Err NoWord) e)

pub keyed : Keyed
unfolding points_key usable
keyed s e =
    rw (and-true-right (not (anyb is_bad s)) (full (words s)) e)
    (judged-good s (Ok (key_of (utf8 (normalized s)))) (not-true (anyb is_bad s) (and-true-left (not (anyb is_bad s)) (full (words s)) e)))

pub wordless : Wordless
unfolding points_key
wordless s e f = judged-good s (cond (full (words s)) (Ok (key_of (utf8 (normalized s)))) (Err NoWord)) e ∙ rw f refl

pub one_key : OneKey
one_key s t hs ht e = keyed s hs ∙ ap (λ (bytes : List ℕ). Ok (key_of (utf8 bytes))) e ∙ sym (keyed t ht)

-- case counts for nothing
judged-lower : (s : List ℕ) (k : Result ℕ NameError) → judged (map lower_of s) k ≡ judged s k
judged-lower [] k = refl
judged-lower (b ∷ s) k = rw (lower-bad b) (go (is_bad b) (judged-lower s k))
  where
    go : (x : Bool) → judged (map lower_of s) k ≡ judged s k
        → unless_bad (cond x (Some (lower_of b)) (firstb is_bad (map lower_of s))) k ≡ unless_bad (cond x (Some b) (firstb is_bad s)) k
    go true more = lower-reason b
    go false more = more

full-map : (ws : List (List ℕ)) → full (map (map lower_of) ws) ≡ full ws
full-map [] = refl
full-map (w ∷ ws) = refl

name-key-lower : (s : List ℕ) → points_key (map lower_of s) ≡ points_key s
unfolding points_key
name-key-lower s =
    judged-lower s (cond (full (words (map lower_of s))) (Ok (key_of (utf8 (normalized (map lower_of s))))) (Err NoWord))
    ∙ ap (judged s)
    (ap₂ (λ (x : Bool) (bytes : List ℕ). cond x (Ok (key_of (utf8 bytes))) (Err NoWord)) (ap full (words-lower s) ∙ full-map (words s))
    (normalized-lower s))

pub case-blind : CaseBlind
case-blind s t e = record {
  normal = sym (normalized-lower s) ∙ ap normalized e ∙ normalized-lower t;
  key = sym (name-key-lower s) ∙ ap points_key e ∙ name-key-lower t;
}

-- white space: a text parted there is read as its two sides
judged-append : (s t : List ℕ) (k : Result ℕ NameError) → judged (s ++ t) k ≡ judged s (judged t k)
judged-append [] t k = refl
judged-append (b ∷ s) t k = go (is_bad b) (judged-append s t k)
  where
    go : (x : Bool) → judged (s ++ t) k ≡ judged s (judged t k)
        → unless_bad (cond x (Some b) (firstb is_bad (s ++ t))) k ≡ unless_bad (cond x (Some b) (firstb is_bad s)) (judged t k)
    go true more = refl
    go false more = more

pub first-bad : FirstBad
unfolding points_key
first-bad s t b e f =
    let all = s ++ b ∷ t in
    let k = cond (full (words all)) (Ok (key_of (utf8 (normalized all)))) (Err NoWord) in
    judged-append s (b ∷ t) k ∙ judged-good s (judged (b ∷ t) k) e ∙ rw f refl

judged-start : (a : ℕ) (t : List ℕ) (k : Result ℕ NameError) → is_space a ≡ true → judged (a ∷ t) k ≡ judged t k
judged-start a t k e = rw (space-good a e) refl

-- texts of the same words whose bad code points give the same answer
alike : (s t : List ℕ) → words s ≡ words t → ((k : Result ℕ NameError) → judged s k ≡ judged t k) → Alike s t
unfolding points_key
alike s t e j = record {
  normal = ap (λ (ws : List (List ℕ)). map lower_of (joined ws)) e;
  key = j (cond (full (words s)) (Ok (key_of (utf8 (normalized s)))) (Err NoWord))
      ∙ ap (λ (ws : List (List ℕ)). judged t (cond (full ws) (Ok (key_of (utf8 (map lower_of (joined ws))))) (Err NoWord))) e;
}

judged-parted : (s t : List ℕ) (a : ℕ) (k : Result ℕ NameError) → is_space a ≡ true → judged (s ++ a ∷ t) k ≡ judged s (judged t k)
judged-parted s t a k e = judged-append s (a ∷ t) k ∙ ap (judged s) (judged-start a t k e)

pub space-blind : SpaceBlind
space-blind s t a b ea eb =
    alike (s ++ a ∷ t) (s ++ b ∷ t) (words_append a t ea s ∙ sym (words_append b t eb s))
    (λ k. judged-parted s t a k ea ∙ sym (judged-parted s t b k eb))

pub run-blind : RunBlind
run-blind s t a b ea eb =
    alike (s ++ a ∷ b ∷ t) (s ++ b ∷ t)
    (words_append a (b ∷ t) ea s ∙ ap (λ (ws : List (List ℕ)). words s ++ ws) (words-start b t eb) ∙ sym (words_append b t eb s))
    (λ k. judged-parted s (b ∷ t) a k ea ∙ ap (judged s) (judged-start b t k eb) ∙ sym (judged-parted s t b k eb))

pub start-blind : StartBlind
start-blind s a e = alike (a ∷ s) s (words-start a s e) (λ k. judged-start a s k e)

pub end-blind : EndBlind
end-blind s a e = alike (s ++ a ∷ []) s (words_append a [] e s ∙ append-nil (words s)) (λ k. judged-parted s [] a k e)

-- ---- by bytes

pub by-points : ByPoints
unfolding name_key
by-points ps h = ap points_key (decoded ps h)

pub one_name : OneName
one_name ps qs h g a = by-points ps h ∙ a.key ∙ sym (by-points qs g)

good-all : (ps : List ℕ) → anyb is_bad ps ≡ false → AllLatin ps
good-all [] e = tt
good-all (p ∷ ps) e =
    (good-latin p (or-false-left (is_bad p) (anyb is_bad ps) e), good-all ps (or-false-right (is_bad p) (anyb is_bad ps) e))

pub ill-formed : IllFormed
unfolding name_key usable
ill-formed s none = go (anyb is_bad (points s)) refl
  where
    go : (x : Bool) → anyb is_bad (points s) ≡ x → answer (points_key (points s)) ≡ inr 8
    go true e = answered (points s) ∙ rw e refl
    go false e = let h = good-all (points s) e in absurd (none (points s) h (encoded s h))

alone-points : (p : ℕ) → points_key (p ∷ []) ≡ alone_of_of p (fold_of p)
unfolding points_key fold_of
alone-points p = go (is_space p) refl (is_bad p) refl
  where
    go : (x : Bool) → is_space p ≡ x → (y : Bool) → is_bad p ≡ y
        → unless_bad (firstb is_bad (p ∷ [])) (cond (full (words (p ∷ []))) (Ok (key_of (utf8 (normalized (p ∷ []))))) (Err NoWord))
        ≡ alone_of_of p (cond y barred (cond x parting (to (lower_of p))))
    go x e true f = rw f refl
    go true e false f = rw (f, e) refl
    go false e false f = rw (f, e, append-nil (encoded_of (lower_of p))) refl

pub alone : Alone
alone p h = ap name_key (sym (append-nil (encoded_of p))) ∙ by-points (p ∷ []) (h, tt) ∙ alone-points p
