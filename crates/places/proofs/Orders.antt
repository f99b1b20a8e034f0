-- Lists of numbers in order: no number twice, and what stands before an element.
use Prim.Native.Nat.{ℕ, zero, suc}
use mathlib.Core.Path.{◌≡◌, refl, sym, ap, ◌∙◌}
use mathlib.Core.Logic.{◌⊎◌, inl, inr}
use mathlib.Core.Bool.{Bool, true, false, cond}
use mathlib.Core.List.Memᴰ
use mathlib.Core.List.{List, [], ◌∷◌, ◌++◌, Memᴰ}
use native.Mathlib.Omega.{arith}
use Rattle.laws.specs.Lists.{span}
use Rattle.laws.specs.Sort.{insert_by, sort, Ordered}
use Rattle.laws.proofs.Folds.{span-mem}
use Rattle.laws.proofs.Sort.{sort-mem}

-- no number twice
abbrev pub Apart : List ℕ → Type 0
Apart [] = Unit {0}
Apart (x ∷ l) = (Memᴰ x l → ⊥) × Apart l

span-apart : (a n : ℕ) → Apart (span a n)
span-apart a zero = tt
span-apart a (suc n) = ((λ m. omega (arith, (span-mem (suc a) n m).0)), span-apart (suc a) n)

module _ (lt : ℕ → ℕ → Bool) where
  insert_by-mem : (x : ℕ) (l : List ℕ) {y : ℕ} → Memᴰ y (insert_by lt x l) → (y ≡ x) ⊎ Memᴰ y l
  insert_by-mem x [] m = Memᴰ.cases_cons m
  insert_by-mem x (z ∷ l) {y} m = go (lt z x) m (λ k. insert_by-mem x l k)
    where
      tail : (y ≡ z) ⊎ Memᴰ y (insert_by lt x l) → (Memᴰ y (insert_by lt x l) → (y ≡ x) ⊎ Memᴰ y l) → (y ≡ x) ⊎ Memᴰ y (z ∷ l)
      tail (inl e) ih = inr (Memᴰ.head e)
      tail (inr k) ih = later (ih k)
        where
          later : (y ≡ x) ⊎ Memᴰ y l → (y ≡ x) ⊎ Memᴰ y (z ∷ l)
          later (inl e) = inl e
          later (inr j) = inr (Memᴰ.tail j)

      go : (b : Bool) → Memᴰ y (cond b (z ∷ insert_by lt x l) (x ∷ z ∷ l)) → (Memᴰ y (insert_by lt x l) → (y ≡ x) ⊎ Memᴰ y l)
          → (y ≡ x) ⊎ Memᴰ y (z ∷ l)
      go true k ih = tail (Memᴰ.cases_cons k) ih
      go false k ih = Memᴰ.cases_cons k

  insert_by-apart : (x : ℕ) (l : List ℕ) → (Memᴰ x l → ⊥) → Apart l → Apart (insert_by lt x l)
  insert_by-apart x [] n a = ((λ m. Memᴰ.not-nil m), tt)
  insert_by-apart x (z ∷ l) n a = go (lt z x) (insert_by-apart x l (λ m. n (Memᴰ.tail m)) a.1)
    where
      other : (z ≡ x) ⊎ Memᴰ z l → ⊥
      other (inl e) = n (Memᴰ.head (sym e))
      other (inr m) = a.0 m

      go : (b : Bool) → Apart (insert_by lt x l) → Apart (cond b (z ∷ insert_by lt x l) (x ∷ z ∷ l))
      go true ih = ((λ m. other (insert_by-mem x l m)), ih)
      go false ih = (n, a)

  sort-apart : (l : List ℕ) → Apart l → Apart (sort lt l)
  sort-apart [] a = tt
  sort-apart (x ∷ l) a = insert_by-apart x (sort lt l) (λ m. a.0 (sort-mem lt l m)) (sort-apart l a.1)

  pub order-apart : (n : ℕ) → Apart (sort lt (span 0 n))
  order-apart n = sort-apart (span 0 n) (span-apart 0 n)

  -- what stands before an element is not above it
  pub ordered-mid : (l : List ℕ) (x : ℕ) (m : List ℕ) {r : ℕ} → Ordered lt (l ++ x ∷ m) → Memᴰ r l → lt x r ≡ false
  ordered-mid [] x m o k = absurd (Memᴰ.not-nil k)
  ordered-mid (y ∷ l) x m {r} o k = go (Memᴰ.cases_cons k) (λ j. ordered-mid l x m o.1 j)
    where
      go : (r ≡ y) ⊎ Memᴰ r l → (Memᴰ r l → lt x r ≡ false) → lt x r ≡ false
      go (inl e) ih = ap (lt x) e ∙ o.0 x (Memᴰ.append_right l (Memᴰ.head refl))
      go (inr j) ih = ih j

  pub ordered-snoc : (l : List ℕ) (x : ℕ) → Ordered lt l → ((r : ℕ) → Memᴰ r l → lt x r ≡ false) → Ordered lt (l ++ x ∷ [])
  ordered-snoc [] x o h = ((λ y m. absurd (Memᴰ.not-nil m)), tt)
  ordered-snoc (y ∷ l) x o h = ((λ z m. go z (Memᴰ.append_cases l m)), ordered-snoc l x o.1 (λ r m. h r (Memᴰ.tail m)))
    where
      go : (z : ℕ) → Memᴰ z l ⊎ Memᴰ z (x ∷ []) → lt z y ≡ false
      go z (inl m) = o.0 z m
      go z (inr m) = ap (λ (w : ℕ). lt w y) (Memᴰ.eq_of_singleton m) ∙ h y (Memᴰ.head refl)

-- an element does not stand before itself
pub apart-mid : (l : List ℕ) (x : ℕ) (m : List ℕ) → Apart (l ++ x ∷ m) → Memᴰ x l → ⊥
apart-mid [] x m a k = Memᴰ.not-nil k
apart-mid (y ∷ l) x m a k = go (Memᴰ.cases_cons k) (λ j. apart-mid l x m a.1 j)
  where
    go : (x ≡ y) ⊎ Memᴰ x l → (Memᴰ x l → ⊥) → ⊥
    go (inl e) ih = a.0 (rw (sym e) (Memᴰ.append_right l (Memᴰ.head refl)))
    go (inr j) ih = ih j
