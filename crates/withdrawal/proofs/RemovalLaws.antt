-- The last element that passes a test, its place, and the list without it.
use Prim.Native.Nat.{ℕ, suc, ◌-◌, ◌≤◌, ◌<◌, min}
use mathlib.Core.Path.{◌≡◌, refl, sym, ap, ◌∙◌}
use mathlib.Core.Bool.{Bool, true, false, cond, ◌||◌}
use mathlib.Core.List.{List, [], ◌∷◌, ◌++◌}
use native.Mathlib.Omega.{arith}
use borrow.Author.Tests.{le-leb, lt-leb, ltb-true, ltb-false}
use lib.Dec.{ltb}
use lib.ListN.{length, get_or, take, drop, set, length-take}
use lib.Seq.{take-suc, take_all, drop-set-lt, length-take-le}
use borrow.Rule.Slice.PartMut.{put_mid}
use Rattle.std.proofs.lemmas.Slice.{put_mid-rotated}
use Rattle.std.proofs.lemmas.List.{take-set, get_or-set_same}
use lib.ListN.{length-set}
use Rattle.laws.specs.Lists.{anyb}
use Rattle.laws.proofs.Lists.{anyb-append}
use Rattle.withdrawal.specs.Removal.{last_of, closed_up}

-- ---- the place of the last

module _ {A : Type 0} (p : A → Bool) where
  last_snoc : (xs : List A) (c : A) → last_of p (xs ++ (c ∷ [])) ≡ cond (p c) (suc (length xs)) (last_of p xs)
  last_snoc [] c = refl
  last_snoc (x ∷ xs) c =
      rw (anyb-append p xs (c ∷ []), last_snoc xs c) (go (p c) (anyb p xs))
    where
      go : (b d : Bool) → cond (d || (b || false)) (suc (cond b (suc (length xs)) (last_of p xs))) (cond (p x) 1 0)
          ≡ cond b (suc (suc (length xs))) (cond d (suc (last_of p xs)) (cond (p x) 1 0))
      go true true = refl
      go true false = refl
      go false true = refl
      go false false = refl

  pub last-below : (xs : List A) → last_of p xs ≤ length xs
  last-below [] = omega arith
  last-below (x ∷ xs) = go (anyb p xs) (p x) (last-below xs)
    where
      go : (b c : Bool) → last_of p xs ≤ length xs → cond b (suc (last_of p xs)) (cond c 1 0) ≤ suc (length xs)
      go true c ih = omega arith
      go false true ih = omega arith
      go false false ih = omega arith

  -- a place is one of those looked at
  pub last-counted : (l : List A) (n : ℕ) → last_of p (take n l) ≤ n
  last-counted l n =
      let short : length (take n l) ≤ n = simp length-take (omega arith) in
      omega (arith, last-below (take n l), short)

  pub last-start : (l : List A) (count : ℕ) → length l ≡ 512 → last_of p (take count l) ≡ last_of p (take (min count 512) l)
  last-start l count e = ap (last_of p) (go (ltb count 512) refl)
    where
      go : (b : Bool) → ltb count 512 ≡ b → take count l ≡ take (min count 512) l
      go true q = let m : count ≡ min count 512 = omega (arith, ltb-true count 512 q) in ap (λ (n : ℕ). take n l) m
      go false q =
          let h : 512 ≤ count = ltb-false count 512 q in
          let m : min count 512 ≡ 512 = omega arith in
          take_all count l (omega (arith, e)) ∙ sym (take_all 512 l (omega (arith, e))) ∙ ap (λ (n : ℕ). take n l) (sym m)

  -- the last of a list
  pub last_end : (xs ys : List A) (x : A) → xs ≡ ys ++ (x ∷ []) → last_of p xs ≡ cond (p x) (suc (length ys)) (last_of p ys)
  last_end xs ys x e = ap (last_of p) e ∙ last_snoc ys x

  -- a turn, from the right
  pub last_turn : (d : A) (l : List A) (n : ℕ) → 0 < n → n ≤ length l
      → last_of p (take n l) ≡ cond (p (get_or l (n - 1) d)) n (last_of p (take (n - 1) l))
  last_turn d l n h g =
      let e : n ≡ suc (n - 1) = omega arith in
      let t : take n l ≡ take (n - 1) l ++ (get_or l (n - 1) d ∷ []) = ap (λ (m : ℕ). take m l) e ∙ take-suc l (n - 1) d (omega arith) in
      let f : suc (length (take (n - 1) l)) ≡ n = omega (arith, length-take-le (n - 1) l (omega arith)) in
      ap (last_of p) t ∙ last_snoc (take (n - 1) l) (get_or l (n - 1) d)
      ∙ ap (λ (m : ℕ). cond (p (get_or l (n - 1) d)) m (last_of p (take (n - 1) l))) f

-- ---- an array closed up

module _ {A : Type 0} (b : A) where
  -- what it is to be once those behind the place i have moved down
  abbrev pub closing : ℕ → List A → List A
  closing i l = take i l ++ drop (suc i) l ++ (b ∷ [])

  pub closed_none : (n : ℕ) (l : List A) → length l ≡ 512 → 512 ≤ n → l ≡ closed_up b n l
  closed_none n l e h = rw (le-leb (length l) n (omega (arith, e))) refl

  pub closed_some : (n : ℕ) (l : List A) → length l ≡ 512 → n < 512 → closing n l ≡ closed_up b n l
  closed_some n l e h = rw (lt-leb (length l) n (omega (arith, e))) refl

  -- b at the place n, moved behind those after it
  pub closed_by : (n : ℕ) (l m : List A) → length l ≡ 512 → n < 512
      → m ≡ drop 1 (take (512 - n) (drop n (set l n b))) ++ take 1 (take (512 - n) (drop n (set l n b)))
      → put_mid n (512 - n) (set l n b) m ≡ closed_up b n l
  closed_by n l m e h q =
      let long : length (set l n b) ≡ 512 = length-set l n b ∙ e in
      put_mid-rotated n (512 - n) (set l n b) m b (omega arith) (omega arith) q
      ∙ rw (take-set l n b, drop-set-lt (suc n) l n b (omega arith), get_or-set_same l n b b (omega arith))
      (closed_some n l e h)
