-- Flat lists over the places of a list: by a function of the place, by tests, and what is left of a count.
use mathlib.Core.Path.{◌≡◌, refl, sym, ap, ◌∙◌}
use mathlib.Core.Bool.{Bool, true, false, cond}
use mathlib.Core.List.{List, [], ◌∷◌, ◌++◌, map, map-append}
use Prim.Native.Nat.{ℕ, zero, suc, ◌+◌, ◌-◌, ◌≤◌, ◌<◌}
use native.Mathlib.Omega.{arith}
use native.Mathlib.Numerals.{add-one}
use lib.ListN.{length, get_or, take}
use Rattle.laws.specs.Lists.{concat_map, take_while, span}
use Rattle.laws.specs.Tails.{over_tails}

module _ {A B : Type 0} where
  pub concat_map-cong : (f g : B → List A) → ((x : B) → f x ≡ g x) → (xs : List B) → concat_map f xs ≡ concat_map g xs
  concat_map-cong f g e [] = refl
  concat_map-cong f g e (x ∷ xs) = rw (e x, concat_map-cong f g e xs)

  -- a test that is the same for every element
  pub concat_map-cond : (c : Bool) (g : B → List A) (xs : List B) → concat_map (λ x. cond c (g x) []) xs ≡ cond c (concat_map g xs) []
  concat_map-cond true g xs = refl
  concat_map-cond false g [] = refl
  concat_map-cond false g (x ∷ xs) = concat_map-cond false g xs

-- each of the numbers up to n, with those after it
pub tails-span : {A : Type 0} (g : ℕ → List ℕ → List A) (n k i : ℕ) → n ≡ i + k
    → over_tails g (span i k) ≡ concat_map (λ m. g m (span (m + 1) (n - (m + 1)))) (span i k)
tails-span g n zero i e = refl
tails-span g n (suc k) i e =
    let q : n - (i + 1) ≡ k = omega arith in
    rw (q, add-one i, tails-span g n k (suc i) (omega arith))

module _ {A B : Type 0} where
  pub map-cond : (c : Bool) (f : A → B) (xs : List A) → map f (cond c xs []) ≡ cond c (map f xs) []
  map-cond true f xs = refl
  map-cond false f xs = refl

module _ {A B C : Type 0} where
  pub concat_map-map : (f : C → B) (g : B → List A) (xs : List C) → concat_map g (map f xs) ≡ concat_map (λ x. g (f x)) xs
  concat_map-map f g [] = refl
  concat_map-map f g (x ∷ xs) = ap (λ (r : List A). g (f x) ++ r) (concat_map-map f g xs)

  pub map-concat_map : (f : A → B) (g : C → List A) (xs : List C) → map f (concat_map g xs) ≡ concat_map (λ x. map f (g x)) xs
  map-concat_map f g [] = refl
  map-concat_map f g (x ∷ xs) = map-append f (g x) (concat_map g xs) ∙ ap (λ (r : List B). map f (g x) ++ r) (map-concat_map f g xs)

module _ {A B : Type 0} where
  pub take_while-map : (f : B → A) (p : A → Bool) (xs : List B) → take_while p (map f xs) ≡ map f (take_while (λ x. p (f x)) xs)
  take_while-map f p [] = refl
  take_while-map f p (x ∷ xs) = go (p (f x)) (take_while-map f p xs)
    where
      go : (b : Bool) → take_while p (map f xs) ≡ map f (take_while (λ x. p (f x)) xs)
          → cond b (f x ∷ take_while p (map f xs)) [] ≡ map f (cond b (x ∷ take_while (λ x. p (f x)) xs) [])
      go true e = ap {B = List A} (λ r. f x ∷ r) e
      go false e = refl

module _ {B : Type 0} where
  -- the first n elements by their places
  pub take_places : (l : List B) (d : B) (n : ℕ) → n ≤ length l → take n l ≡ map (λ i. get_or l i d) (span 0 n)
  take_places l d n h = from l n h (λ i. get_or l i d) 0 (λ i. ap (λ (k : ℕ). get_or l k d) (omega arith))
    where
      from : (m : List B) (n : ℕ) → n ≤ length m → (at : ℕ → B) (k : ℕ) → ((i : ℕ) → at (k + i) ≡ get_or m i d)
          → take n m ≡ map at (span k n)
      from m zero h at k e = refl
      from [] (suc n) h at k e = absurd (omega arith)
      from (x ∷ m) (suc n) h at k e =
          let q : x ≡ at k = sym (e 0) ∙ ap at (omega arith) in
          let r : take n m ≡ map at (span (suc k) n) = from m n (omega arith) at (suc k) (λ i. ap at (omega arith) ∙ e (suc i)) in
          ap (λ (y : B). y ∷ take n m) q ∙ ap {B = List B} (λ y. at k ∷ y) r

-- what is left of a count from i up to n
pub span-cons : (i n : ℕ) → i < n → span i (n - i) ≡ i ∷ span (i + 1) (n - (i + 1))
span-cons i n h =
    let e : n - i ≡ suc (n - (i + 1)) = omega arith in
    rw (e, add-one)

pub span-nil : (i n : ℕ) → n ≤ i → span i (n - i) ≡ []
span-nil i n h =
    let e : n - i ≡ 0 = omega arith in
    rw e
