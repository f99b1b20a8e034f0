-- Flat lists over other lists: over the tails of a mapped list, over a flat list, under a test.
use mathlib.Core.Path.{◌≡◌, refl, ap, ◌∙◌}
use mathlib.Core.Logic.{inl, inr}
use mathlib.Core.Bool.{Bool, true, false, cond}
use mathlib.Core.List.{List, [], ◌∷◌, ◌++◌, map, map-append, Memᴰ}
use Rattle.laws.specs.Lists.{concat_map, filterb}
use Rattle.laws.specs.Tails.{over_tails, Tail}
use Rattle.laws.proofs.Folds.{concat_map-append}

module _ {A B : Type 0} where
  -- functions that agree on a list's members, and on its tails
  pub map-agree : (f g : B → A) (xs : List B) → ((x : B) → Memᴰ x xs → f x ≡ g x) → map f xs ≡ map g xs
  map-agree f g [] e = refl
  map-agree f g (x ∷ xs) e = rw (e x (Memᴰ.head refl), map-agree f g xs (λ y m. e y (Memᴰ.tail m)))

  pub tails-agree : (f g : B → List B → List A) (xs : List B) → ((x : B) (l : List B) → Tail x l xs → f x l ≡ g x l)
      → over_tails f xs ≡ over_tails g xs
  tails-agree f g [] e = refl
  tails-agree f g (x ∷ xs) e = rw (e x xs (inl (refl, refl)), tails-agree f g xs (λ y l t. e y l (inr t)))

  pub concat_map-filterb : (p : B → Bool) (g : B → List A) (xs : List B)
      → concat_map g (filterb p xs) ≡ concat_map (λ x. cond (p x) (g x) []) xs
  concat_map-filterb p g [] = refl
  concat_map-filterb p g (x ∷ xs) = go (p x) (concat_map-filterb p g xs)
    where
      go : (b : Bool) → concat_map g (filterb p xs) ≡ concat_map (λ x. cond (p x) (g x) []) xs
          → concat_map g (cond b (x ∷ filterb p xs) (filterb p xs)) ≡ cond b (g x) [] ++ concat_map (λ x. cond (p x) (g x) []) xs
      go true e = ap (λ (r : List A). g x ++ r) e
      go false e = e

  pub flat-cond : (c : Bool) (g : B → List A) (xs : List B) → concat_map g (cond c xs []) ≡ cond c (concat_map g xs) []
  flat-cond true g xs = refl
  flat-cond false g xs = refl

module _ {A B C : Type 0} where
  pub tails-map : (h : C → B) (g : B → List B → List A) (xs : List C) → over_tails g (map h xs) ≡ over_tails (λ x l. g (h x) (map h l)) xs
  tails-map h g [] = refl
  tails-map h g (x ∷ xs) = ap (λ (r : List A). g (h x) (map h xs) ++ r) (tails-map h g xs)

  pub map-tails : (f : A → B) (g : C → List C → List A) (xs : List C) → map f (over_tails g xs) ≡ over_tails (λ x l. map f (g x l)) xs
  map-tails f g [] = refl
  map-tails f g (x ∷ xs) = map-append f (g x xs) (over_tails g xs) ∙ ap (λ (r : List B). map f (g x xs) ++ r) (map-tails f g xs)

  pub flat-tails : (f : B → List A) (g : C → List C → List B) (xs : List C)
      → concat_map f (over_tails g xs) ≡ over_tails (λ x l. concat_map f (g x l)) xs
  flat-tails f g [] = refl
  flat-tails f g (x ∷ xs) =
      concat_map-append f (g x xs) (over_tails g xs) ∙ ap (λ (r : List A). concat_map f (g x xs) ++ r) (flat-tails f g xs)

  pub flat-flat : (f : B → List A) (g : C → List B) (xs : List C) → concat_map f (concat_map g xs) ≡ concat_map (λ x. concat_map f (g x)) xs
  flat-flat f g [] = refl
  flat-flat f g (x ∷ xs) = concat_map-append f (g x) (concat_map g xs) ∙ ap (λ (r : List A). concat_map f (g x) ++ r) (flat-flat f g xs)

-- one for each
pub flat-single : {A B : Type 0} (f : B → A) (xs : List B) → concat_map (λ x. f x ∷ []) xs ≡ map f xs
flat-single f [] = refl
flat-single {A} f (x ∷ xs) = ap {B = List A} (λ r. f x ∷ r) (flat-single f xs)
