-- Names of bytes below 128 are read and hashed byte by byte; é and e are two names.
use Rattle.key.specs.declared.NameError.{NameError}
use Rattle.key.specs.declared.NameError.TheVariants.{Control, NoWord, NotLatin}
use Rattle.std.specs.Prelude.{Err, Ok, Result}
use Rattle.std.proofs.Common.{◌≡◌, ℕ, Bool, true, false, cond, eqb, List, [], ◌∷◌, ◌++◌, map, sym, refl, ap, ◌∙◌, ap₂, inl, inr, arith}
use Rattle.std.proofs.Common.{ltb-true, lt-ltb}
use Rattle.laws.specs.Lists.{filterb}
use Rattle.key.specs.Hash.{step_of, key_of}
use Rattle.key.specs.Utf8.{encoded_of, utf8, point_of, is_pair, pair_of, is_latin}
use Rattle.key.specs.Name.{is_space, is_control, is_capital, is_bad, lower_of, on_first, pieces, full, words, spaced, joined, normalized}
use Rattle.key.specs.Name.{points_key, name_key, usable, answer}
use Rattle.key.specs.Promises.{AllAscii, AsciiRead, AsciiAnswered, AccentCounts}
use Rattle.key.proofs.Points.{lower-low}
use Rattle.key.proofs.Decoding.{points-low, written_low}
use Rattle.key.proofs.Names.{answered}

pub ascii-read : AsciiRead
ascii-read [] h = refl
ascii-read (b ∷ s) h = points-low b s (lt-ltb b 128 h.0) ∙ ap (λ (l : List ℕ). b ∷ l) (ascii-read s h.1)

utf8-ascii : (s : List ℕ) → AllAscii s → utf8 s ≡ s
utf8-ascii [] h = refl
utf8-ascii (b ∷ s) h = ap₂ (λ (x y : List ℕ). x ++ y) (written_low b (lt-ltb b 128 h.0)) (utf8-ascii s h.1)

-- ---- the words of such a text, joined and folded, have such bytes alone

abbrev Rows : List (List ℕ) → Type 0
Rows [] = Unit {0}
Rows (w ∷ ws) = AllAscii w × Rows ws

pieces-ascii : (s : List ℕ) → AllAscii s → Rows (pieces s)
pieces-ascii [] h = (tt, tt)
pieces-ascii (b ∷ s) h = go (is_space b) (pieces s) (pieces-ascii s h.1)
  where
    go : (c : Bool) (ps : List (List ℕ)) → Rows ps → Rows (cond c ([] ∷ ps) (on_first b ps))
    go true ps r = (tt, r)
    go false [] r = ((h.0, tt), tt)
    go false (p ∷ ps) r = ((h.0, r.0), r.1)

full-ascii : (ps : List (List ℕ)) → Rows ps → Rows (filterb full ps)
full-ascii [] r = tt
full-ascii ([] ∷ ps) r = full-ascii ps r.1
full-ascii ((b ∷ p) ∷ ps) r = (r.0, full-ascii ps r.1)

both : (s t : List ℕ) → AllAscii s → AllAscii t → AllAscii (s ++ t)
both [] t h g = g
both (b ∷ s) t h g = (h.0, both s t h.1 g)

spaced-ascii : (ws : List (List ℕ)) → Rows ws → AllAscii (spaced ws)
spaced-ascii [] r = tt
spaced-ascii (w ∷ ws) r = (omega arith, both w (spaced ws) r.0 (spaced-ascii ws r.1))

joined-ascii : (ws : List (List ℕ)) → Rows ws → AllAscii (joined ws)
joined-ascii [] r = tt
joined-ascii (w ∷ ws) r = both w (spaced ws) r.0 (spaced-ascii ws r.1)

lower-ascii : (s : List ℕ) → AllAscii s → AllAscii (map lower_of s)
lower-ascii [] h = tt
lower-ascii (b ∷ s) h = (ltb-true (lower_of b) 128 (lower-low b ∙ lt-ltb b 128 h.0), lower-ascii s h.1)

normalized-ascii : (s : List ℕ) → AllAscii s → utf8 (normalized s) ≡ normalized s
normalized-ascii s h =
    utf8-ascii (normalized s) (lower-ascii (joined (words s)) (joined-ascii (words s) (full-ascii (pieces s) (pieces-ascii s h))))

pub ascii-answered : AsciiAnswered
unfolding name_key
ascii-answered s h =
    ap (λ (ps : List ℕ). answer (points_key ps)) (ascii-read s h)
    ∙ answered s
    ∙ ap (λ (bytes : List ℕ). cond (usable s) (inl (key_of bytes)) (inr 8)) (normalized-ascii s h)

-- ---- é and e

-- whether a key is the hash of the letter e
abbrev is_e : Result ℕ NameError → Bool
is_e (Ok h) = eqb h 0xaf63d84c8601e5c0
is_e (Err NoWord) = false
is_e (Err Control) = false
is_e (Err NotLatin) = false

plain-e : is_e (name_key (utf8 (101 ∷ []))) ≡ true
unfolding name_key points_key encoded_of point_of is_pair pair_of is_bad is_latin is_control is_space is_capital lower_of step_of
plain-e = refl

accented-e : is_e (name_key (utf8 (233 ∷ []))) ≡ false
unfolding name_key points_key encoded_of point_of is_pair pair_of is_bad is_latin is_control is_space is_capital lower_of step_of
accented-e = refl

pub accent-counts : AccentCounts
accent-counts e =
    let q : true ≡ false = sym plain-e ∙ ap is_e (sym e) ∙ accented-e in
    let z : ◌≡◌ {A = ℕ} 0 1 = cc q in
    absurd (omega arith)
