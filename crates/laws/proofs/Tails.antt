-- Members of a list under a test, of the beginning of a list, and of what each element offers with those after it.
use mathlib.Core.Path.{◌≡◌, refl, ap, ◌∙◌}
use mathlib.Core.Logic.{◌⊎◌, inl, inr}
use mathlib.Core.Bool.{Bool, true, false, cond}
use mathlib.Core.List.Memᴰ
use mathlib.Core.List.{List, [], ◌∷◌, Memᴰ}
use Rattle.laws.specs.Lists.{take_while}
use Rattle.laws.specs.Tails.{over_tails, Tail}

module _ {A : Type 0} where
  pub cond-mem : (c : Bool) {x : A} (xs : List A) → Memᴰ x (cond c xs []) → (c ≡ true) × Memᴰ x xs
  cond-mem true xs m = (refl, m)
  cond-mem false xs m = absurd (Memᴰ.not-nil m)

  pub mem-cond : (c : Bool) {x : A} (xs : List A) → c ≡ true → Memᴰ x xs → Memᴰ x (cond c xs [])
  mem-cond c xs e m = rw e m

module _ {B : Type 0} where
  pub mem-tail : {x : B} {l : List B} → Memᴰ x l → (xs : List B) × Tail x xs l
  mem-tail (Memᴰ.head {x = y} {xs = ys} e) = (ys, inl (e, refl))
  mem-tail (Memᴰ.tail m) = let (xs, t) = mem-tail m in (xs, inr t)

  pub tail-mem : (x : B) (xs l : List B) → Tail x xs l → Memᴰ x l
  tail-mem x xs [] t = absurd t
  tail-mem x xs (y ∷ ys) (inl (e, f)) = Memᴰ.head e
  tail-mem x xs (y ∷ ys) (inr t) = Memᴰ.tail (tail-mem x xs ys t)

  pub tail-rest : (x : B) (xs l : List B) → Tail x xs l → {y : B} → Memᴰ y xs → Memᴰ y l
  tail-rest x xs [] t m = absurd t
  tail-rest x xs (y ∷ ys) (inl (e, f)) m = Memᴰ.tail (rw f at m)
  tail-rest x xs (y ∷ ys) (inr t) m = Memᴰ.tail (tail-rest x xs ys t m)

  pub take_while-mem : (p : B → Bool) {x : B} (xs : List B) → Memᴰ x (take_while p xs) → Memᴰ x xs × (p x ≡ true)
  take_while-mem p [] m = absurd (Memᴰ.not-nil m)
  take_while-mem p {x} (y ∷ ys) m = step (p y) refl (λ k. take_while-mem p ys k) m
    where
      found : p y ≡ true → (Memᴰ x (take_while p ys) → Memᴰ x ys × (p x ≡ true)) → (x ≡ y) ⊎ Memᴰ x (take_while p ys)
          → Memᴰ x (y ∷ ys) × (p x ≡ true)
      found e ih (inl q) = (Memᴰ.head q, ap p q ∙ e)
      found e ih (inr k) = (Memᴰ.tail (ih k).0, (ih k).1)

      step : (b : Bool) → p y ≡ b → (Memᴰ x (take_while p ys) → Memᴰ x ys × (p x ≡ true)) → Memᴰ x (cond b (y ∷ take_while p ys) [])
          → Memᴰ x (y ∷ ys) × (p x ≡ true)
      step true e ih k = found e ih (Memᴰ.cases_cons k)
      step false e ih k = absurd (Memᴰ.not-nil k)

module _ {A B : Type 0} (g : B → List B → List A) where
  pub over_tails-mem : {j : A} (l : List B) → Memᴰ j (over_tails g l) → (x : B) × (xs : List B) × Tail x xs l × Memᴰ j (g x xs)
  over_tails-mem [] m = absurd (Memᴰ.not-nil m)
  over_tails-mem {j} (y ∷ ys) m = go (Memᴰ.append_cases (g y ys) m) (λ k. over_tails-mem ys k)
    where
      go : Memᴰ j (g y ys) ⊎ Memᴰ j (over_tails g ys)
          → (Memᴰ j (over_tails g ys) → (x : B) × (xs : List B) × Tail x xs ys × Memᴰ j (g x xs))
          → (x : B) × (xs : List B) × Tail x xs (y ∷ ys) × Memᴰ j (g x xs)
      go (inl k) ih = (y, ys, inl (refl, refl), k)
      go (inr k) ih = let (x, xs, t, n) = ih k in (x, xs, inr t, n)

  pub mem-over_tails : {j : A} (x : B) (xs l : List B) → Tail x xs l → Memᴰ j (g x xs) → Memᴰ j (over_tails g l)
  mem-over_tails x xs [] t m = absurd t
  mem-over_tails x xs (y ∷ ys) (inl (e, f)) m = Memᴰ.append_left (over_tails g ys) (rw (e, f) at m)
  mem-over_tails x xs (y ∷ ys) (inr t) m = Memᴰ.append_right (g y ys) (mem-over_tails x xs ys t m)
