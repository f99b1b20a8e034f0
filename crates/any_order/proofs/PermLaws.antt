-- Permuted lists: mapped, searched, and put together.
use mathlib.Core.Path.{◌≡◌, refl, ap, subst, ◌∙◌}
use mathlib.Core.Bool.{Bool, true, false, ◌||◌}
use mathlib.Core.List.Permᴰ
use mathlib.Core.List.{List, [], ◌∷◌, ◌++◌, map, Permᴰ}
use Rattle.laws.specs.Lists.{anyb, concat_map}

across : {B : Type 0} (xs ys l : List B) → Permᴰ (xs ++ (ys ++ l)) (ys ++ (xs ++ l))
across [] ys l = Permᴰ.refl (ys ++ l)
across (x ∷ xs) ys l = Permᴰ.trans (Permᴰ.cons refl (across xs ys l)) (Permᴰ.symm (Permᴰ.middle x ys (xs ++ l)))

module _ {A B : Type 0} where
  pub perm-map : (f : A → B) {xs ys : List A} → Permᴰ xs ys → Permᴰ (map f xs) (map f ys)
  perm-map f Permᴰ.nil = Permᴰ.nil
  perm-map f (Permᴰ.cons e p) = Permᴰ.cons (ap f e) (perm-map f p)
  perm-map f (Permᴰ.swap d e) = Permᴰ.swap (ap f d) (ap f e)
  perm-map f (Permᴰ.trans p q) = Permᴰ.trans (perm-map f p) (perm-map f q)

  pub perm-concat : (g : A → List B) {xs ys : List A} → Permᴰ xs ys → Permᴰ (concat_map g xs) (concat_map g ys)
  perm-concat g Permᴰ.nil = Permᴰ.nil
  perm-concat g (Permᴰ.cons {a = a} {l₁ = xs} {l₂ = ys} e p) =
      subst (λ (x : A). Permᴰ (g a ++ concat_map g xs) (g x ++ concat_map g ys)) e (Permᴰ.append_left (g a) (perm-concat g p))
  perm-concat g (Permᴰ.swap {a = a} {b = b} {a' = a'} {b' = b'} {l = l} d e) =
      subst (λ (x : A). Permᴰ (g a ++ (g b ++ concat_map g l)) (g x ++ (g b' ++ concat_map g l))) e
      (subst (λ (x : A). Permᴰ (g a ++ (g b ++ concat_map g l)) (g b ++ (g x ++ concat_map g l))) d (across (g a) (g b) (concat_map g l)))
  perm-concat g (Permᴰ.trans p q) = Permᴰ.trans (perm-concat g p) (perm-concat g q)

or-across : (a b c : Bool) → (a || (b || c)) ≡ (b || (a || c))
or-across true true c = refl
or-across true false c = refl
or-across false b c = refl

pub perm-any : {A : Type 0} (p : A → Bool) {xs ys : List A} → Permᴰ xs ys → anyb p xs ≡ anyb p ys
perm-any p Permᴰ.nil = refl
perm-any p (Permᴰ.cons {a = a} {b = b} {l₁ = xs} {l₂ = ys} e q) = λ i. p (e i) || perm-any p q i
perm-any p (Permᴰ.swap {a = a} {b = b} {l = l} d e) = or-across (p a) (p b) (anyb p l) ∙ (λ i. p (e i) || (p (d i) || anyb p l))
perm-any p (Permᴰ.trans q r) = perm-any p q ∙ perm-any p r
