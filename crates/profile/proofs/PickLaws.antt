-- What `pick` gives: one of the list that none is preferred to; the loop that keeps what it has where they tie; and the first of a list in
-- order.
use Rattle.std.specs.Prelude.{None, Option, Some}
use mathlib.Core.Path.{◌≡◌, refl, sym, ◌∙◌}
use mathlib.Core.Logic.{◌⊎◌, inl, inr}
use mathlib.Core.Bool.{Bool, true, false, cond, true≢false}
use mathlib.Core.List.Memᴰ
use mathlib.Core.List.{List, [], ◌∷◌, Memᴰ}
use Rattle.laws.specs.Lists.{filterb, foldl, firstb}
use Rattle.laws.proofs.Bools.{not-true}
use Rattle.laws.proofs.Lists.{filterb-mem}
use Rattle.profile.specs.Figures.{Figures, prefer}
use Rattle.profile.specs.Best.{choose, pick, keep, Ordered}
use Rattle.profile.proofs.FiguresLaws.{prefer-refl, prefer-trans, prefer-total}

module _ {A : Type 0} (fig : A → Figures) where
  -- what was picked is one of the list, and preferred to each of it; or the list is empty
  abbrev pub Picked : List A → Option A → Type 0
  Picked xs None = (x : A) → Memᴰ x xs → ⊥
  Picked xs (Some b) = Memᴰ b xs × ((x : A) → Memᴰ x xs → prefer (fig b) (fig x) ≡ true)

  picked-cons : (x : A) (xs : List A) (r : Option A) → Picked xs r → Picked (x ∷ xs) (choose fig x r)
  picked-cons x xs None w = (Memᴰ.head refl, λ y m. go y (Memᴰ.cases_cons m))
    where
      go : (y : A) → (y ≡ x) ⊎ Memᴰ y xs → prefer (fig x) (fig y) ≡ true
      go y (inl e) = rw e (prefer-refl (fig x))
      go y (inr m) = absurd (w y m)
  picked-cons x xs (Some b) (n, w) = by (prefer (fig x) (fig b)) refl
    where
      first : prefer (fig x) (fig b) ≡ true → (y : A) → (y ≡ x) ⊎ Memᴰ y xs → prefer (fig x) (fig y) ≡ true
      first p y (inl e) = rw e (prefer-refl (fig x))
      first p y (inr m) = prefer-trans (fig x) (fig b) (fig y) p (w y m)

      rest : prefer (fig x) (fig b) ≡ false → (y : A) → (y ≡ x) ⊎ Memᴰ y xs → prefer (fig b) (fig y) ≡ true
      rest p y (inl e) = rw e (prefer-total (fig x) (fig b) p)
      rest p y (inr m) = w y m

      by : (t : Bool) → prefer (fig x) (fig b) ≡ t → Picked (x ∷ xs) (cond t (Some x) (Some b))
      by true p = (Memᴰ.head refl, λ y m. first p y (Memᴰ.cases_cons m))
      by false p = (Memᴰ.tail n, λ y m. rest p y (Memᴰ.cases_cons m))

  pub pick-picked : (xs : List A) → Picked xs (pick fig xs)
  pick-picked [] = λ x m. Memᴰ.not-nil m
  pick-picked (x ∷ xs) = picked-cons x xs (pick fig xs) (pick-picked xs)

  -- ---- the loop from the left

  choose-past : (b x : A) (r : Option A) → prefer (fig b) (fig x) ≡ true → choose fig b (choose fig x r) ≡ choose fig b r
  choose-past b x None p = rw p
  choose-past b x (Some y) p = by (prefer (fig x) (fig y)) refl
    where
      by : (t : Bool) → prefer (fig x) (fig y) ≡ t → choose fig b (cond t (Some x) (Some y)) ≡ choose fig b (Some y)
      by true q = rw (p, prefer-trans (fig b) (fig x) (fig y) p q)
      by false q = refl

  choose-over : (b x : A) (r : Option A) → prefer (fig b) (fig x) ≡ false → choose fig b (choose fig x r) ≡ choose fig x r
  choose-over b x None p = rw p
  choose-over b x (Some y) p = by (prefer (fig x) (fig y)) refl
    where
      by : (t : Bool) → prefer (fig x) (fig y) ≡ t → choose fig b (cond t (Some x) (Some y)) ≡ cond t (Some x) (Some y)
      by true q = rw p
      by false q =
          rw (not-true (prefer (fig b) (fig y))
          (λ z. true≢false (sym (prefer-trans (fig b) (fig y) (fig x) z (prefer-total (fig x) (fig y) q)) ∙ p)))

  pub keep-pick : (b : A) (xs : List A) → foldl (keep fig) (Some b) xs ≡ pick fig (b ∷ xs)
  keep-pick b [] = refl
  keep-pick b (x ∷ xs) = by (prefer (fig b) (fig x)) refl (keep-pick b xs) (keep-pick x xs)
    where
      by : (t : Bool) → prefer (fig b) (fig x) ≡ t → foldl (keep fig) (Some b) xs ≡ choose fig b (pick fig xs)
          → foldl (keep fig) (Some x) xs ≡ choose fig x (pick fig xs)
          → foldl (keep fig) (cond t (Some b) (Some x)) xs ≡ choose fig b (choose fig x (pick fig xs))
      by true p h k = h ∙ sym (choose-past b x (pick fig xs) p)
      by false p h k = k ∙ sym (choose-over b x (pick fig xs) p)

  pub loop-pick : (xs : List A) → foldl (keep fig) None xs ≡ pick fig xs
  loop-pick [] = refl
  loop-pick (x ∷ xs) = keep-pick x xs

  -- ---- a list in the order of best: the first that passes the test is picked of those that do

  choose-first : (x : A) (xs : List A) → ((y : A) → Memᴰ y xs → prefer (fig x) (fig y) ≡ true) → (r : Option A) → Picked xs r
      → choose fig x r ≡ Some x
  choose-first x xs f None w = refl
  choose-first x xs f (Some b) (m, w) = rw (f b m)

  pub ordered-first : (p : A → Bool) (xs : List A) → Ordered fig xs → pick fig (filterb p xs) ≡ firstb p xs
  ordered-first p [] s = refl
  ordered-first p (x ∷ xs) (f, s) = by (p x) (ordered-first p xs s)
    where
      by : (b : Bool) → pick fig (filterb p xs) ≡ firstb p xs
          → pick fig (cond b (x ∷ filterb p xs) (filterb p xs)) ≡ cond b (Some x) (firstb p xs)
      by true ih = choose-first x (filterb p xs) (λ y m. f y (filterb-mem p xs m).0) (pick fig (filterb p xs)) (pick-picked (filterb p xs))
      by false ih = ih
