-- Lists each of whose elements stands so to all after it.
use Prim.Native.Nat.{ℕ, zero, suc, ◌/◌, ◌%◌, ◌<◌}
use mathlib.Core.Path.{◌≡◌, refl, sym, subst}
use mathlib.Core.Logic.{◌⊎◌, inl, inr}
use mathlib.Core.Bool.{Bool, true, false, cond}
use mathlib.Core.List.Memᴰ
use mathlib.Core.List.{List, [], ◌∷◌, ◌++◌, map, Memᴰ}
use native.Mathlib.Omega.{arith}
use lib.Dec.{eqb}
use Rattle.laws.specs.Lists.{concat_map, filterb, take_while}
use Rattle.laws.specs.Tails.{over_tails}
use Rattle.laws.specs.Bits.{bits_from}
use Rattle.laws.proofs.Lists.{filterb-mem}
use Rattle.laws.proofs.Folds.{concat_map-mem}
use Rattle.laws.proofs.Tails.{over_tails-mem, take_while-mem, tail-mem}
use Rattle.laws.proofs.Bits.{bits-mem}

module _ {A : Type 0} (R : A → A → Type 0) where
  abbrev pub Pairs : List A → Type 0
  Pairs [] = Unit {0}
  Pairs (x ∷ xs) = ((y : A) → Memᴰ y xs → R x y) × Pairs xs

  pub pairs-append : (xs ys : List A) → Pairs xs → Pairs ys → ((x y : A) → Memᴰ x xs → Memᴰ y ys → R x y) → Pairs (xs ++ ys)
  pairs-append [] ys p q f = q
  pairs-append (x ∷ xs) ys p q f = (λ y m. go y (Memᴰ.append_cases xs m), pairs-append xs ys p.1 q (λ z y m n. f z y (Memᴰ.tail m) n))
    where
      go : (y : A) → Memᴰ y xs ⊎ Memᴰ y ys → R x y
      go y (inl m) = p.0 y m
      go y (inr m) = f x y (Memᴰ.head refl) m

  pub pairs-cond : (b : Bool) (xs : List A) → Pairs xs → Pairs (cond b xs [])
  pairs-cond true xs p = p
  pairs-cond false xs p = tt

module _ {A B : Type 0} (R : A → A → Type 0) (S : B → B → Type 0) where
  pub pairs-concat : (g : B → List A) (ys : List B) → Pairs S ys → ((y : B) → Pairs R (g y))
      → ((y z : B) → S y z → (a b : A) → Memᴰ a (g y) → Memᴰ b (g z) → R a b) → Pairs R (concat_map g ys)
  pairs-concat g [] p q f = tt
  pairs-concat g (y ∷ ys) p q f =
      pairs-append R (g y) (concat_map g ys) (q y) (pairs-concat g ys p.1 q f)
      (λ a b m n. let (z, i, k) = concat_map-mem g ys n in f y z (p.0 z i) a b m k)

  -- over tails, where what stands after an element is known to
  pub pairs-tails : (g : B → List B → List A) (ys : List B) → Pairs S ys → ((y : B) (zs : List B) → Pairs S zs → Pairs R (g y zs))
      → ((y z : B) (ys zs : List B) → S y z → (a b : A) → Memᴰ a (g y ys) → Memᴰ b (g z zs) → R a b) → Pairs R (over_tails g ys)
  pairs-tails g [] p q f = tt
  pairs-tails g (y ∷ ys) p q f =
      pairs-append R (g y ys) (over_tails g ys) (q y ys p.1) (pairs-tails g ys p.1 q f)
      (λ a b m n. let (z, zs, tl, k) = over_tails-mem g ys n in f y z ys zs (p.0 z (tail-mem z zs ys tl)) a b m k)

pub pairs-while : {B : Type 0} (S : B → B → Type 0) (p : B → Bool) (ys : List B) → Pairs S ys → Pairs S (take_while p ys)
pairs-while S p [] w = tt
pairs-while S p (y ∷ ys) w = go (p y) (pairs-while S p ys w.1)
  where
    go : (b : Bool) → Pairs S (take_while p ys) → Pairs S (cond b (y ∷ take_while p ys) [])
    go true v = (λ z m. w.0 z (take_while-mem p ys m).0, v)
    go false v = tt

pub pairs-filter : {B : Type 0} (S : B → B → Type 0) (p : B → Bool) (ys : List B) → Pairs S ys → Pairs S (filterb p ys)
pairs-filter S p [] w = tt
pairs-filter S p (y ∷ ys) w = go (p y) (pairs-filter S p ys w.1)
  where
    go : (b : Bool) → Pairs S (filterb p ys) → Pairs S (cond b (y ∷ filterb p ys) (filterb p ys))
    go true v = (λ z m. w.0 z (filterb-mem p ys m).0, v)
    go false v = v

pub pairs-map : {A B : Type 0} (R : A → A → Type 0) (S : B → B → Type 0) (f : B → A) (ys : List B) → Pairs S ys
    → ((y z : B) → S y z → R (f y) (f z)) → Pairs R (map f ys)
pairs-map R S f [] w h = tt
pairs-map R S f (y ∷ ys) w h = (λ x m. let (z, i, e) = Memᴰ.of_map f ys m in subst (R (f y)) e (h y z (w.0 z i)), pairs-map R S f ys w.1 h)

pub pairs-bits : (n b m : ℕ) → Pairs ◌<◌ (bits_from n b m)
pairs-bits zero b m = tt
pairs-bits (suc n) b m = go (eqb (m % 2) 1) (pairs-bits n (suc b) (m / 2))
  where
    go : (c : Bool) → Pairs ◌<◌ (bits_from n (suc b) (m / 2))
        → Pairs ◌<◌ (cond c (b ∷ bits_from n (suc b) (m / 2)) (bits_from n (suc b) (m / 2)))
    go true v = (λ k i. let (x, h, e, d) = bits-mem n (suc b) (m / 2) i in omega arith, v)
    go false v = v

-- two such lists of the same elements are one, where no two stand so both ways
module _ {A : Type 0} (R : A → A → Type 0) (asym : (x y : A) → R x y → R y x → ⊥) where
  pub one-pairs : (xs ys : List A) → Pairs R xs → Pairs R ys → ((x : A) → Memᴰ x xs → Memᴰ x ys) → ((x : A) → Memᴰ x ys → Memᴰ x xs)
      → xs ≡ ys
  one-pairs [] [] p q f g = refl
  one-pairs [] (y ∷ ys) p q f g = absurd (Memᴰ.not-nil (g y (Memᴰ.head refl)))
  one-pairs (x ∷ xs) [] p q f g = absurd (Memᴰ.not-nil (f x (Memᴰ.head refl)))
  one-pairs (x ∷ xs) (y ∷ ys) p q f g = λ k. same k
      ∷ one-pairs xs ys p.1 q.1 (λ z m. rest z m (Memᴰ.cases_cons (f z (Memᴰ.tail m))))
      (λ z m. back z m (Memᴰ.cases_cons (g z (Memᴰ.tail m)))) k
    where
      same : x ≡ y
      same = go (Memᴰ.cases_cons (f x (Memᴰ.head refl))) (Memᴰ.cases_cons (g y (Memᴰ.head refl)))
        where
          go : (x ≡ y) ⊎ Memᴰ x ys → (y ≡ x) ⊎ Memᴰ y xs → x ≡ y
          go (inl e) w = e
          go (inr m) (inl e) = sym e
          go (inr m) (inr n) = absurd (asym x y (p.0 y n) (q.0 x m))

      rest : (z : A) → Memᴰ z xs → (z ≡ y) ⊎ Memᴰ z ys → Memᴰ z ys
      rest z m (inl e) = absurd (twice (p.0 z m))
        where
          twice : R x z → ⊥
          twice r = let o = subst (R x) e r in asym x y o (subst (λ (u : A). R u x) same (subst (R x) (sym same) o))
      rest z m (inr n) = n

      back : (z : A) → Memᴰ z ys → (z ≡ x) ⊎ Memᴰ z xs → Memᴰ z xs
      back z m (inl e) = absurd (twice (q.0 z m))
        where
          twice : R y z → ⊥
          twice r = let o = subst (R y) e r in asym y x o (subst (λ (u : A). R u y) (sym same) (subst (R y) same o))
      back z m (inr n) = n
