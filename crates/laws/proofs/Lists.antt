-- Lists filtered and searched by a Bool test: members, lengths, appends; and induction from the right.
use mathlib.Core.Path.{◌≡◌, refl, sym, ap, ◌∙◌, subst}
use mathlib.Core.Logic.{◌⊎◌, inl, inr}
use mathlib.Core.Bool.{Bool, true, false, cond, ◌||◌, true≢false, false≢true}
use mathlib.Core.List.Memᴰ
use mathlib.Core.List.{List, [], ◌∷◌, ◌++◌, append_assoc, append-nil, Memᴰ}
use Prim.Native.Nat.{ℕ, suc, ◌≤◌, ◌<◌}
use native.Mathlib.Omega.{arith}
use lib.ListN.{length, get_or}
use Rattle.laws.specs.Lists.{filterb, anyb}
use Rattle.laws.proofs.Bools.{or-true-cases, or-true-left, or_true_right, not-true}

module _ {A : Type 0} where
  pub anyb-mem : (p : A → Bool) (xs : List A) → anyb p xs ≡ true → (x : A) × Memᴰ x xs × (p x ≡ true)
  anyb-mem p [] e = absurd (false≢true e)
  anyb-mem p (x ∷ xs) e = step (or-true-cases (p x) (anyb p xs) e) (λ f. anyb-mem p xs f)
    where
      step : (p x ≡ true) ⊎ (anyb p xs ≡ true) → (anyb p xs ≡ true → (y : A) × Memᴰ y xs × (p y ≡ true))
          → (y : A) × Memᴰ y (x ∷ xs) × (p y ≡ true)
      step (inl f) ih = (x, Memᴰ.head refl, f)
      step (inr f) ih = ((ih f).0, Memᴰ.tail (ih f).1, (ih f).2)

  pub mem-anyb : (p : A → Bool) {x : A} {xs : List A} → Memᴰ x xs → p x ≡ true → anyb p xs ≡ true
  mem-anyb p (Memᴰ.head {x = y} {xs = ys} q) e = or-true-left (p y) (anyb p ys) (ap p (sym q) ∙ e)
  mem-anyb p (Memᴰ.tail {x = y} {xs = ys} m) e = or_true_right (p y) (anyb p ys) (mem-anyb p m e)

  pub anyb-not : (p : A → Bool) {x : A} {xs : List A} → anyb p xs ≡ false → Memᴰ x xs → p x ≡ false
  anyb-not p {x} e m = not-true (p x) (λ f. true≢false (sym (mem-anyb p m f) ∙ e))

  pub anyb-none : (p : A → Bool) (xs : List A) → ((x : A) → Memᴰ x xs → p x ≡ false) → anyb p xs ≡ false
  anyb-none p xs h = not-true (anyb p xs) (λ e. let w = anyb-mem p xs e in true≢false (sym w.2 ∙ h w.0 w.1))

  pub anyb-append : (p : A → Bool) (xs ys : List A) → anyb p (xs ++ ys) ≡ (anyb p xs || anyb p ys)
  anyb-append p [] ys = refl
  anyb-append p (x ∷ xs) ys = step (p x) (anyb-append p xs ys)
    where
      step : (b : Bool) → anyb p (xs ++ ys) ≡ (anyb p xs || anyb p ys) → (b || anyb p (xs ++ ys)) ≡ (b || anyb p xs || anyb p ys)
      step true e = refl
      step false e = e

  pub filterb-mem : (p : A → Bool) {y : A} (xs : List A) → Memᴰ y (filterb p xs) → Memᴰ y xs × (p y ≡ true)
  filterb-mem p [] m = absurd (Memᴰ.not-nil m)
  filterb-mem p {y} (x ∷ xs) m = step (p x) refl (λ k. filterb-mem p xs k) m
    where
      found : p x ≡ true → (Memᴰ y (filterb p xs) → Memᴰ y xs × (p y ≡ true)) → (y ≡ x) ⊎ Memᴰ y (filterb p xs)
          → Memᴰ y (x ∷ xs) × (p y ≡ true)
      found e ih (inl q) = (Memᴰ.head q, ap p q ∙ e)
      found e ih (inr k) = (Memᴰ.tail (ih k).0, (ih k).1)

      step : (b : Bool) → p x ≡ b → (Memᴰ y (filterb p xs) → Memᴰ y xs × (p y ≡ true)) → Memᴰ y (cond b (x ∷ filterb p xs) (filterb p xs))
          → Memᴰ y (x ∷ xs) × (p y ≡ true)
      step true e ih k = found e ih (Memᴰ.cases_cons k)
      step false e ih k = (Memᴰ.tail (ih k).0, (ih k).1)

  pub mem-filterb : (p : A → Bool) {y : A} {xs : List A} → Memᴰ y xs → p y ≡ true → Memᴰ y (filterb p xs)
  mem-filterb p {y} (Memᴰ.head {x = x} {xs = ys} q) e = step (p x) (ap p (sym q) ∙ e)
    where
      step : (b : Bool) → b ≡ true → Memᴰ y (cond b (x ∷ filterb p ys) (filterb p ys))
      step true f = Memᴰ.head q
      step false f = absurd (false≢true f)
  mem-filterb p {y} (Memᴰ.tail {x = x} {xs = ys} m) e = step (p x) (mem-filterb p m e)
    where
      step : (b : Bool) → Memᴰ y (filterb p ys) → Memᴰ y (cond b (x ∷ filterb p ys) (filterb p ys))
      step true k = Memᴰ.tail k
      step false k = k

  pub filterb-cong : (p q : A → Bool) (xs : List A) → ((x : A) → Memᴰ x xs → p x ≡ q x) → filterb p xs ≡ filterb q xs
  filterb-cong p q [] h = refl
  filterb-cong p q (x ∷ xs) h = rw (h x (Memᴰ.head refl), filterb-cong p q xs (λ y m. h y (Memᴰ.tail m)))

  pub filterb-all : (p : A → Bool) (xs : List A) → ((x : A) → Memᴰ x xs → p x ≡ true) → filterb p xs ≡ xs
  filterb-all p [] h = refl
  filterb-all p (x ∷ xs) h = rw (h x (Memᴰ.head refl), filterb-all p xs (λ y m. h y (Memᴰ.tail m)))

  pub filterb-append : (p : A → Bool) (xs ys : List A) → filterb p (xs ++ ys) ≡ filterb p xs ++ filterb p ys
  filterb-append p [] ys = refl
  filterb-append p (x ∷ xs) ys = step (p x) (filterb-append p xs ys)
    where
      step : (b : Bool) → filterb p (xs ++ ys) ≡ filterb p xs ++ filterb p ys
          → cond b (x ∷ filterb p (xs ++ ys)) (filterb p (xs ++ ys)) ≡ cond b (x ∷ filterb p xs) (filterb p xs) ++ filterb p ys
      step true e = ap {B = List A} (λ r. x ∷ r) e
      step false e = e

  pub length-filterb : (p : A → Bool) (xs : List A) → length (filterb p xs) ≤ length xs
  length-filterb p [] = omega arith
  length-filterb p (x ∷ xs) = step (p x) (length-filterb p xs)
    where
      step : (b : Bool) → length (filterb p xs) ≤ length xs → length (cond b (x ∷ filterb p xs) (filterb p xs)) ≤ suc (length xs)
      step true h = omega arith
      step false h = omega arith

  -- one that fails the test makes the list shorter
  pub length-filterb-lt : (p : A → Bool) {y : A} {xs : List A} → Memᴰ y xs → p y ≡ false → length (filterb p xs) < length xs
  length-filterb-lt p (Memᴰ.head {x = x} {xs = ys} q) e = step (p x) (ap p (sym q) ∙ e) (length-filterb p ys)
    where
      step : (b : Bool) → b ≡ false → length (filterb p ys) ≤ length ys
          → length (cond b (x ∷ filterb p ys) (filterb p ys)) < suc (length ys)
      step true f h = absurd (true≢false f)
      step false f h = omega arith
  length-filterb-lt p (Memᴰ.tail {x = x} {xs = ys} m) e = step (p x) (length-filterb-lt p m e)
    where
      step : (b : Bool) → length (filterb p ys) < length ys → length (cond b (x ∷ filterb p ys) (filterb p ys)) < suc (length ys)
      step true h = omega arith
      step false h = omega arith

  -- induction from the right
  pub snoc-ind {κ} : (P : List A → Type κ) → P [] → ((xs : List A) (x : A) → P xs → P (xs ++ x ∷ [])) → (xs : List A) → P xs
  snoc-ind P base step xs = go [] base xs
    where
      go : (ys : List A) → P ys → (zs : List A) → P (ys ++ zs)
      go ys h [] = rw append-nil h
      go ys h (z ∷ zs) = subst P (append_assoc ys (z ∷ []) zs) (go (ys ++ z ∷ []) (step ys z h) zs)

module _ {A : Type 0} (d : A) where
  -- an element of a list stands at some place
  pub mem-get_d : {x : A} {l : List A} → Memᴰ x l → (n : ℕ) × (n < length l) × (get_or l n d ≡ x)
  mem-get_d (Memᴰ.head q) = (0, omega arith, sym q)
  mem-get_d (Memᴰ.tail m) = let (n, h, e) = mem-get_d m in (suc n, omega arith, e)
