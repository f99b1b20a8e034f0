-- The code point at the front of a text, and what is left; what is written is read back.
use Rattle.std.proofs.Common.{◌≡◌, ℕ, ◌+◌, ◌/◌, ◌%◌, ◌<◌, ◌≤◌, Bool, true, false, cond, ◌&&◌, ltb, leb, List, [], ◌∷◌, ◌++◌, get_or, refl}
use Rattle.std.proofs.Common.{ap, ◌∙◌, subst, ap₂, arith, ltb-false, le-ltb, le-leb, leb-true}
use Rattle.laws.proofs.Bools.{and-true-left, and-true-right}
use Rattle.key.specs.Utf8.{encoded_of, utf8, unread, is_pair, pair_of, point_of, points}
use Rattle.key.specs.Promises.{AllLatin, Decoded, Encoded}

-- ---- pairs

pub record Pair (b next : ℕ) : Type 0 where
  pub b-from : 194 ≤ b
  pub b-to : b ≤ 195
  pub next-from : 128 ≤ next
  pub next-to : next ≤ 191

pub pair-of : (b next : ℕ) → is_pair b next ≡ true → Pair b next
unfolding is_pair
pair-of b next e =
    let l = and-true-left (leb 194 b && leb b 195) (leb 128 next && leb next 191) e in
    let r = and-true-right (leb 194 b && leb b 195) (leb 128 next && leb next 191) e in
    record {
      b-from = leb-true 194 b (and-true-left (leb 194 b) (leb b 195) l);
      b-to = leb-true b 195 (and-true-right (leb 194 b) (leb b 195) l);
      next-from = leb-true 128 next (and-true-left (leb 128 next) (leb next 191) r);
      next-to = leb-true next 191 (and-true-right (leb 128 next) (leb next 191) r);
    }

pub pair-test : (b next : ℕ) → Pair b next → is_pair b next ≡ true
unfolding is_pair
pair-test b next p = rw (le-leb 194 b p.b-from, le-leb b 195 p.b-to, le-leb 128 next p.next-from, le-leb next 191 p.next-to) refl

-- no pair without a byte after
pub pair-none : (b : ℕ) → is_pair b 0 ≡ false
unfolding is_pair
pair-none b = go (leb 194 b && leb b 195)
  where
    go : (x : Bool) → (x && false) ≡ false
    go true = refl
    go false = refl

-- ---- the front

pub points-low : (b : ℕ) (bs : List ℕ) → ltb b 128 ≡ true → points (b ∷ bs) ≡ b ∷ points bs
unfolding point_of
points-low b [] e = rw e refl
points-low b (next ∷ bs) e = rw e refl

pub points-pair : (b next : ℕ) (bs : List ℕ) → ltb b 128 ≡ false → is_pair b next ≡ true
    → points (b ∷ next ∷ bs) ≡ pair_of b next ∷ points bs
points-pair b next bs e f = rw (e, f) refl

pub points_none : (b : ℕ) (bs : List ℕ) → ltb b 128 ≡ false → is_pair b (get_or bs 0 0) ≡ false → points (b ∷ bs) ≡ unread ∷ []
unfolding point_of
points_none b [] e f = rw (e, f) refl
points_none b (next ∷ bs) e f = rw (e, f) refl

pair-range : (b next : ℕ) → Pair b next → (128 ≤ pair_of b next) × (pair_of b next < 256)
unfolding pair_of
pair-range b next p = (omega (arith, p.b-from, p.next-from), omega (arith, p.b-to, p.next-to))

-- the two parts of a pair, taken apart again
apart : (b next : ℕ) → 194 ≤ b → b ≤ 195 → 128 ≤ next → next ≤ 191 → (192 + pair_of b next / 64 ≡ b) × (128 + pair_of b next % 64 ≡ next)
unfolding pair_of
apart b next h g k l = (omega arith, omega arith)

-- ---- what is written is read back

-- the two bytes of a code point from 128 to 255
bytes_pair : (p : ℕ) → 128 ≤ p → p < 256 → Pair (192 + p / 64) (128 + p % 64)
bytes_pair p h g = record { b-from = omega arith; b-to = omega arith; next-from = omega arith; next-to = omega arith }

bytes_read : (p : ℕ) → pair_of (192 + p / 64) (128 + p % 64) ≡ p
unfolding pair_of
bytes_read p = omega arith

pub decoded : Decoded
unfolding encoded_of
decoded [] h = refl
decoded (p ∷ ps) h = step (ltb p 128) refl (decoded ps h.1)
  where
    step : (x : Bool) → ltb p 128 ≡ x → points (utf8 ps) ≡ ps
        → points (cond x (p ∷ []) ((192 + p / 64) ∷ (128 + p % 64) ∷ []) ++ utf8 ps) ≡ p ∷ ps
    step true e q = points-low p (utf8 ps) e ∙ ap (λ (s : List ℕ). p ∷ s) q
    step false e q =
        points-pair (192 + p / 64) (128 + p % 64) (utf8 ps) (le-ltb (192 + p / 64) 128 (omega arith))
        (pair-test (192 + p / 64) (128 + p % 64) (bytes_pair p (ltb-false p 128 e) h.0))
        ∙ ap₂ (λ (n : ℕ) (s : List ℕ). n ∷ s) (bytes_read p) q

-- and what is read is written so

pub written_low : (b : ℕ) → ltb b 128 ≡ true → encoded_of b ≡ b ∷ []
unfolding encoded_of
written_low b e = rw e refl

written-pair : (b next : ℕ) → Pair b next → encoded_of (pair_of b next) ≡ b ∷ next ∷ []
unfolding encoded_of
written-pair b next p =
    let e : 192 + pair_of b next / 64 ≡ b = high b next p in
    let f : 128 + pair_of b next % 64 ≡ next = low b next p in
    rw (le-ltb (pair_of b next) 128 (pair-range b next p).0, e, f) refl
  where
    high : (b next : ℕ) → Pair b next → 192 + pair_of b next / 64 ≡ b
    high b next p = (apart b next p.b-from p.b-to p.next-from p.next-to).0

    low : (b next : ℕ) → Pair b next → 128 + pair_of b next % 64 ≡ next
    low b next p = (apart b next p.b-from p.b-to p.next-from p.next-to).1

absent : {A : Type 0} → unread < 256 → A
absent h = absurd (omega arith)

pub encoded : Encoded
encoded [] h = refl
encoded (b ∷ []) h = go (ltb b 128) refl h
  where
    go : (x : Bool) → ltb b 128 ≡ x → AllLatin (points (b ∷ [])) → utf8 (points (b ∷ [])) ≡ b ∷ []
    go true e h = ap utf8 (points-low b [] e) ∙ ap (λ (s : List ℕ). s ++ []) (written_low b e)
    go false e h = absent (subst AllLatin (points_none b [] e (pair-none b)) h).0
encoded (b ∷ next ∷ bs) h = go (ltb b 128) refl (is_pair b next) refl (encoded (next ∷ bs)) (encoded bs) h
  where
    go : (x : Bool) → ltb b 128 ≡ x → (y : Bool) → is_pair b next ≡ y
        → (AllLatin (points (next ∷ bs)) → utf8 (points (next ∷ bs)) ≡ next ∷ bs) → (AllLatin (points bs) → utf8 (points bs) ≡ bs)
        → AllLatin (points (b ∷ next ∷ bs)) → utf8 (points (b ∷ next ∷ bs)) ≡ b ∷ next ∷ bs
    go true e y f one two h =
        let q = points-low b (next ∷ bs) e in
        ap utf8 q ∙ ap₂ (λ (s t : List ℕ). s ++ t) (written_low b e) (one (subst AllLatin q h).1)
    go false e true f one two h =
        let q = points-pair b next bs e f in
        ap utf8 q ∙ ap₂ (λ (s t : List ℕ). s ++ t) (written-pair b next (pair-of b next f)) (two (subst AllLatin q h).1)
    go false e false f one two h = absent (subst AllLatin (points_none b (next ∷ bs) e f) h).0
