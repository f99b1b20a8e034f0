-- A filter and a search of a mapped list, where the test of an image is that of the element.
use mathlib.Core.Path.{◌≡◌, refl}
use mathlib.Core.Bool.{Bool, true, false, cond}
use mathlib.Core.List.{List, [], ◌∷◌, map, Memᴰ}
use Rattle.laws.specs.Lists.{filterb, anyb}

module _ {A B : Type 0} (f : A → B) where
  pub filterb-map : (p : A → Bool) (q : B → Bool) (xs : List A) → ((x : A) → Memᴰ x xs → q (f x) ≡ p x)
      → filterb q (map f xs) ≡ map f (filterb p xs)
  filterb-map p q [] e = refl
  filterb-map p q (x ∷ xs) e = rw (e x (Memᴰ.head refl), filterb-map p q xs (λ y m. e y (Memᴰ.tail m))) (go (p x))
    where
      go : (b : Bool) → cond b (f x ∷ map f (filterb p xs)) (map f (filterb p xs)) ≡ map f (cond b (x ∷ filterb p xs) (filterb p xs))
      go true = refl
      go false = refl

  pub anyb-map : (p : A → Bool) (q : B → Bool) (xs : List A) → ((x : A) → Memᴰ x xs → q (f x) ≡ p x) → anyb q (map f xs) ≡ anyb p xs
  anyb-map p q [] e = refl
  anyb-map p q (x ∷ xs) e = rw (e x (Memᴰ.head refl), anyb-map p q xs (λ y m. e y (Memᴰ.tail m)))
