-- What holds of each element of a list, or of each number below another: lists appended and gathered, members; a number that is in a list.
use mathlib.Core.Path.{◌≡◌, refl, sym, subst}
use mathlib.Core.Logic.{◌⊎◌, inl, inr}
use mathlib.Core.Bool.{Bool, true, false, cond, ◌||◌, false≢true}
use mathlib.Core.List.Memᴰ
use mathlib.Core.List.{List, [], ◌∷◌, ◌++◌, Memᴰ}
use Prim.Native.Nat.{ℕ, zero, suc, ◌<◌}
use native.Mathlib.Nat.{not-suc-le-zero, le_of_suc-le-suc}
use lib.Dec.{eqb}
use borrow.Author.Tests.{eqb-true}
use Rattle.laws.specs.Lists.{All, one_of, gather}

pub all_append : {A : Type 0} (P : A → Type 0) (xs ys : List A) → All P xs → All P ys → All P (xs ++ ys)
all_append P [] ys p q = q
all_append P (x ∷ xs) ys p q = (p.0, all_append P xs ys p.1 q)

pub all-gather : {A B : Type 0} (P : A → Type 0) (Q : B → Type 0) (p : A → Bool) (f : A → B) → ((x : A) → P x → p x ≡ true → Q (f x))
    → (xs : List A) → All P xs → All Q (gather p f xs)
all-gather P Q p f k [] h = tt
all-gather P Q p f k (x ∷ xs) h = go (all-gather P Q p f k xs h.1) (p x) refl
  where
    go : All Q (gather p f xs) → (b : Bool) → p x ≡ b → All Q (cond b (f x ∷ gather p f xs) (gather p f xs))
    go r true e = (k x h.0 e, r)
    go r false e = r

pub all-mem : {A : Type 0} (P : A → Type 0) (xs : List A) → All P xs → (x : A) → Memᴰ x xs → P x
all-mem P [] h x m = absurd (Memᴰ.not-nil m)
all-mem P (y ∷ ys) h x m = go (Memᴰ.cases_cons m) (all-mem P ys h.1 x)
  where
    go : (x ≡ y) ⊎ Memᴰ x ys → (Memᴰ x ys → P x) → P x
    go (inl e) ih = subst P (sym e) h.0
    go (inr k) ih = ih k

pub mem-all : {A : Type 0} (P : A → Type 0) (xs : List A) → ((x : A) → Memᴰ x xs → P x) → All P xs
mem-all P [] h = tt
mem-all P (y ∷ ys) h = (h y (Memᴰ.head refl), mem-all P ys (λ x m. h x (Memᴰ.tail m)))

pub one-of : (h : ℕ) (P : ℕ → Type 0) (ms : List ℕ) → one_of h ms ≡ true → All P ms → P h
one-of h P [] e p = absurd (false≢true e)
one-of h P (m ∷ ms) e p = go (one-of h P ms) (eqb h m) refl e
  where
    go : (one_of h ms ≡ true → All P ms → P h) → (b : Bool) → eqb h m ≡ b → (b || one_of h ms) ≡ true → P h
    go f true q r = subst P (sym (eqb-true h m q)) p.0
    go f false q r = f r p.1

-- what holds of the numbers below n, one by one
abbrev pub Each : (ℕ → Type 0) → ℕ → Type 0
Each P zero = Unit {0}
Each P (suc n) = P 0 × Each (λ k. P (suc k)) n

pub each_at : (P : ℕ → Type 0) (n : ℕ) → Each P n → (k : ℕ) → k < n → P k
each_at P zero ps k h = absurd (not-suc-le-zero h)
each_at P (suc n) ps zero h = ps.0
each_at P (suc n) ps (suc k) h = each_at (λ k. P (suc k)) n ps.1 k (le_of_suc-le-suc h)
