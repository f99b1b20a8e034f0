-- What a text begins with, by its first two bytes.
use Rattle.std.proofs.Common.{◌≡◌, ℕ, ◌+◌, ◌-◌, ◌*◌, ◌<◌, ◌≤◌, true, false, List, [], ◌∷◌, length, get_or, take, drop, arith, length-drop}
use Rattle.std.proofs.Common.{le-ltb, lt-ltb}
use Rattle.std.proofs.lemmas.List.{take_all}
use Rattle.key.specs.Utf8.{unread, is_pair, pair_of, points}
use Rattle.key.specs.Stream.{Front}
use Rattle.key.proofs.Decoding.{pair-of, pair-none, points-low, points-pair, points_none}

-- all that is left after the first k bytes
all-left : (k : ℕ) (s : List ℕ) → take (length s - k) (drop k s) ≡ drop k s
all-left k s = take_all (length s - k) (drop k s) (omega (arith, length-drop k s))

fewer : (k : ℕ) (s : List ℕ) → 1 ≤ k → k ≤ length s → length (take (length s - k) (drop k s)) < length s
fewer k s h g = rw (all-left k s) (omega (arith, length-drop k s))

pub low_front : (s : List ℕ) → 1 ≤ length s → get_or s 0 0 < 128 → Front s (get_or s 0 0) (take (length s - 1) (drop 1 s))
low_front [] h e = absurd (omega arith)
low_front (b ∷ bs) h e = record {
  begins = rw (all-left 1 (b ∷ bs)) (points-low b bs (lt-ltb b 128 e));
  latin = omega arith;
  fewer = fewer 1 (b ∷ bs) (omega arith) h;
}

pub pair_front : (s : List ℕ) → 2 ≤ length s → 128 ≤ get_or s 0 0 → is_pair (get_or s 0 0) (get_or s 1 0) ≡ true
    → Front s ((get_or s 0 0 - 192) * 64 + (get_or s 1 0 - 128)) (take (length s - 2) (drop 2 s))
unfolding pair_of
pair_front [] h e f = absurd (omega arith)
pair_front (b ∷ []) h e f = absurd (omega arith)
pair_front (b ∷ next ∷ bs) h e f = record {
  begins = rw (all-left 2 (b ∷ next ∷ bs)) (points-pair b next bs (le-ltb b 128 e) f);
  latin = let p = pair-of b next f in omega (arith, p.b-to, p.next-to);
  fewer = fewer 2 (b ∷ next ∷ bs) (omega arith) h;
}

pub no_front : (s : List ℕ) → 128 ≤ get_or s 0 0 → is_pair (get_or s 0 0) (get_or s 1 0) ≡ false → 1 ≤ length s → points s ≡ unread ∷ []
no_front [] e f h = absurd (omega arith)
no_front (b ∷ bs) e f h = points_none b bs (le-ltb b 128 e) f

pub lone_front : (s : List ℕ) → 128 ≤ get_or s 0 0 → length s < 2 → 1 ≤ length s → points s ≡ unread ∷ []
lone_front [] e k h = absurd (omega arith)
lone_front (b ∷ []) e k h = no_front (b ∷ []) e (pair-none b) h
lone_front (b ∷ n ∷ bs) e k h = absurd (omega arith)
