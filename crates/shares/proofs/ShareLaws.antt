-- The shares, dealt from the first group on: what holds of those dealt from any point on.
use Rattle.std.specs.Array.{IsMapOf, MapsFrom}
use Rattle.std.specs.Fn.{Called}
use denote.Param.Members.{Mut}
use mathlib.Core.Path.{◌≡◌, refl, ap, sym, ◌∙◌}
use mathlib.Core.List.{List, [], ◌∷◌}
use Prim.Native.Nat.{ℕ, zero, suc, ◌+◌, ◌-◌, ◌*◌, ◌≤◌, ◌<◌, min}
use native.Mathlib.Omega.{arith}
use native.Mathlib.Numerals.{add-one}
use lib.ListN.{length, get_or, drop, drop_of_length-le}
use lib.Seq.{drop-cons}
use Rattle.shares.specs.Shares.{at_first_of, needs, total, first_total, dealt, shares_of}
use Rattle.shares.specs.Promises.{SharesRight, SharesMarked}

pub dealt-length : (left : ℕ) (ns : List ℕ) → length (dealt left ns) ≡ length ns
unfolding dealt
dealt-length left [] = refl
dealt-length left (n ∷ ns) = ap suc (dealt-length (left - needs n) ns)

dealt-least : (left : ℕ) (ns : List ℕ) (i : ℕ) → at_first_of (get_or ns i 0) ≤ get_or (dealt left ns) i 0
unfolding dealt
dealt-least left [] i = omega arith
dealt-least left (n ∷ ns) zero = omega arith
dealt-least left (n ∷ ns) (suc i) = dealt-least (left - needs n) ns i

dealt-most : (left : ℕ) (ns : List ℕ) (i : ℕ) → get_or (dealt left ns) i 0 ≤ get_or ns i 0
unfolding dealt
dealt-most left [] i = omega arith
dealt-most left (n ∷ ns) zero = omega arith
dealt-most left (n ∷ ns) (suc i) = dealt-most (left - needs n) ns i

-- what is dealt is what all get at first, and no more than what is left
dealt-fit : (left : ℕ) (ns : List ℕ) → total (dealt left ns) ≤ first_total ns + left
unfolding dealt
dealt-fit left [] = omega arith
dealt-fit left (n ∷ ns) = let h = dealt-fit (left - needs n) ns in omega arith

-- where nothing is left, each gets what it gets at first
dealt-none : (ns : List ℕ) (k : ℕ) → get_or (dealt 0 ns) k 0 ≤ at_first_of (get_or ns k 0)
unfolding dealt
dealt-none [] k = omega arith
dealt-none (n ∷ ns) zero = omega arith
dealt-none (n ∷ ns) (suc k) = rw (e n) (dealt-none ns k)
  where
    e : (n : ℕ) → 0 - needs n ≡ 0
    e n = omega arith

-- where one gets more than at first, something was left for it
dealt-left : (left : ℕ) (ns : List ℕ) (k : ℕ) → at_first_of (get_or ns k 0) < get_or (dealt left ns) k 0 → 0 < left
dealt-left zero ns k h = let m = dealt-none ns k in absurd (omega arith)
dealt-left (suc left) ns k h = omega arith

dealt-in-order : (left : ℕ) (ns : List ℕ) (i k : ℕ) → i < k → at_first_of (get_or ns k 0) < get_or (dealt left ns) k 0
    → get_or (dealt left ns) i 0 ≡ get_or ns i 0
unfolding dealt
dealt-in-order left [] i k l h = refl
dealt-in-order left (n ∷ ns) i zero l h = absurd (omega arith)
dealt-in-order left (n ∷ ns) zero (suc k) l h = let m = dealt-left (left - needs n) ns k h in omega arith
dealt-in-order left (n ∷ ns) (suc i) (suc k) l h = dealt-in-order (left - needs n) ns i k (omega arith) h

dealt-all : (left : ℕ) (ns : List ℕ) → first_total ns ≤ total (dealt left ns)
unfolding dealt
dealt-all left [] = omega arith
dealt-all left (n ∷ ns) = let h = dealt-all (left - needs n) ns in omega arith

-- where one gets less than its list, all that was left is dealt
dealt-used : (left : ℕ) (ns : List ℕ) (i : ℕ) → get_or (dealt left ns) i 0 < get_or ns i 0 → total (dealt left ns) ≡ first_total ns + left
unfolding dealt
dealt-used left [] i h = absurd (omega arith)
dealt-used left (n ∷ ns) zero h = let e = dealt-all (left - needs n) ns in let f = dealt-fit (left - needs n) ns in omega arith
dealt-used left (n ∷ ns) (suc i) h = let e = dealt-used (left - needs n) ns i h in omega arith

first-total-small : (ns : List ℕ) → first_total ns ≤ 16 * length ns
first-total-small [] = omega arith
first-total-small (n ∷ ns) = let h = first-total-small ns in omega arith

pub shares-right : SharesRight
unfolding shares_of
shares-right ns h = record {
  each = dealt-length left ns;
  least = dealt-least left ns;
  most = dealt-most left ns;
  fit = omega (arith, dealt-fit left ns, small);
  in_order = dealt-in-order left ns;
  used = λ i l. omega (arith, dealt-used left ns i l, small);
}
  where
    left : ℕ
    left = 64 - first_total ns

    small : first_total ns ≤ 64
    small = omega (arith, first-total-small ns)

pub shares-marked : SharesMarked
unfolding dealt shares_of
shares-marked = record { three = refl; two = refl; four = refl }

-- ---- the code's: calls in turn, of which each deals a share and leaves the rest

module _ {F : Type 0} (g : Mut F (ℕ × Unit {0}) ℕ) (read : F → ℕ)
    (step : (p q : F) (x y : ℕ) → Called g p (x, tt) y q → (y ≡ at_first_of x + min (read p) (needs x)) × (read q ≡ read p - needs x))
    (ns ys : List ℕ) where
  dealt-from : (f : F) (i n : ℕ) → length ns ≡ i + n → length ys ≡ i + n → MapsFrom g f ns ys i n → drop i ys ≡ dealt (read f) (drop i ns)
  unfolding dealt
  dealt-from f i zero k l m = rw (drop_of_length-le ys {i = i} (omega (arith, l)), drop_of_length-le ns {i = i} (omega (arith, k)))
  dealt-from f i (suc n) k l (q, x, y, a, b, called, more) =
      let s = step f q x y called in
      let rest : drop (suc i) ys ≡ dealt (read q) (drop (suc i) ns) =
      rw (sym (add-one i)) (dealt-from q (i + 1) n (omega (arith, k)) (omega (arith, l)) more) in
      drop-cons ys i 0 (omega (arith, l)) ∙ (λ t. (b.1 0 ∙ s.0) t ∷ (rest ∙ ap (λ r. dealt r (drop (suc i) ns)) s.1) t)
      ∙ sym (ap (dealt (read f)) (drop-cons ns i 0 (omega (arith, k)) ∙ ap (λ r. r ∷ drop (suc i) ns) (a.1 0)))

  pub mapped-dealt : (f : F) → length ns ≡ 4 → IsMapOf g f ns ys 4 → ys ≡ dealt (read f) ns
  mapped-dealt f k m = dealt-from f 0 4 k m.long m.each

-- what is left of 64 after what four get at first
pub left-of-four : (ns : List ℕ) {p q r s : ℕ} → length ns ≡ 4 → p ≡ at_first_of (get_or ns 0 0)
    → q ≡ at_first_of (get_or ns 1 0) → r ≡ at_first_of (get_or ns 2 0)
    → s ≡ at_first_of (get_or ns 3 0) → 64 - (p + q + r + s) ≡ 64 - first_total ns
left-of-four [] l e f g h = absurd (omega arith)
left-of-four (a ∷ []) l e f g h = absurd (omega arith)
left-of-four (a ∷ b ∷ []) l e f g h = absurd (omega arith)
left-of-four (a ∷ b ∷ c ∷ []) l e f g h = absurd (omega arith)
left-of-four (a ∷ b ∷ c ∷ d ∷ []) l e f g h = omega (arith, e, f, g, h)
left-of-four (a ∷ b ∷ c ∷ d ∷ x ∷ xs) l e f g h = absurd (omega arith)
