-- The laws of `lexb`.
use mathlib.Core.Path.{◌≡◌, refl, sym, ◌∙◌}
use mathlib.Core.Logic.{◌⊎◌, inl, inr}
use mathlib.Core.Bool.{Bool, true, false, ◌&&◌, ◌||◌, true≢false, false≢true}
use Prim.Native.Nat.{ℕ, ◌≤◌, ◌<◌}
use native.Mathlib.Omega.{arith}
use lib.Dec.{ltb, eqb}
use borrow.Author.Tests.{ltb-true, ltb-false, lt-ltb, le-ltb, eqb-true, eqb-false, eq-eqb, ne_eqb}
use Rattle.laws.specs.Lex.{lexb}
use Rattle.laws.proofs.Bools.{not-true}

pub lexb-lt : (x y : ℕ) (b : Bool) → x < y → lexb x y b ≡ true
unfolding lexb
lexb-lt x y b h = rw (lt-ltb x y h)

pub lexb-eq : (x y : ℕ) (b : Bool) → x ≡ y → b ≡ true → lexb x y b ≡ true
unfolding lexb
lexb-eq x y b e h = rw (eq-eqb x y e, h, le-ltb x y (omega arith))

-- the two other ways of a branch on x and y
pub lexb-same : (x y : ℕ) (b : Bool) → x ≡ y → lexb x y b ≡ b
unfolding lexb
lexb-same x y b e = rw (eq-eqb x y e, le-ltb x y (omega arith))

pub lexb-gt : (x y : ℕ) (b : Bool) → y < x → lexb x y b ≡ false
unfolding lexb
lexb-gt x y b h = rw (ne_eqb x y (λ e. omega arith), le-ltb x y (omega arith))

pub lexb-true : (x y : ℕ) (b : Bool) → lexb x y b ≡ true → (x < y) ⊎ ((x ≡ y) × (b ≡ true))
unfolding lexb
lexb-true x y b h = go (ltb x y) refl (eqb x y) refl h
  where
    go : (l : Bool) → ltb x y ≡ l → (e : Bool) → eqb x y ≡ e → (l || (e && b)) ≡ true → (x < y) ⊎ ((x ≡ y) × (b ≡ true))
    go true p e q k = inl (ltb-true x y p)
    go false p true q k = inr (eqb-true x y q, k)
    go false p false q k = absurd (false≢true k)

pub lexb-false : (x y : ℕ) (b : Bool) → lexb x y b ≡ false → (y < x) ⊎ ((y ≡ x) × (b ≡ false))
lexb-false x y b h = go (ltb x y) refl (eqb x y) refl
  where
    go : (l : Bool) → ltb x y ≡ l → (e : Bool) → eqb x y ≡ e → (y < x) ⊎ ((y ≡ x) × (b ≡ false))
    go true p e q = absurd (true≢false (sym (lexb-lt x y b (ltb-true x y p)) ∙ h))
    go false p true q = inr (sym (eqb-true x y q), not-true b (λ t. true≢false (sym (lexb-eq x y b (eqb-true x y q) t) ∙ h)))
    go false p false q = let n : ¬ (x ≡ y) = eqb-false x y q in let l = ltb-false x y p in inl (omega arith)

pub lexb-map : (x y : ℕ) (b c : Bool) → lexb x y b ≡ true → (b ≡ true → c ≡ true) → lexb x y c ≡ true
lexb-map x y b c h f = go (lexb-true x y b h)
  where
    go : (x < y) ⊎ ((x ≡ y) × (b ≡ true)) → lexb x y c ≡ true
    go (inl l) = lexb-lt x y c l
    go (inr (e, t)) = lexb-eq x y c e (f t)

pub lexb-trans : (x y z : ℕ) (b c d : Bool) → lexb x y b ≡ true → lexb y z c ≡ true → (b ≡ true → c ≡ true → d ≡ true) → lexb x z d ≡ true
lexb-trans x y z b c d h k f = go (lexb-true x y b h) (lexb-true y z c k)
  where
    go : (x < y) ⊎ ((x ≡ y) × (b ≡ true)) → (y < z) ⊎ ((y ≡ z) × (c ≡ true)) → lexb x z d ≡ true
    go (inl l) (inl m) = lexb-lt x z d (omega arith)
    go (inl l) (inr (e, t)) = lexb-lt x z d (omega arith)
    go (inr (e, t)) (inl m) = lexb-lt x z d (omega arith)
    go (inr (e, t)) (inr (e', t')) = lexb-eq x z d (e ∙ e') (f t t')

pub lexb-total : (x y : ℕ) (b c : Bool) → lexb x y b ≡ false → (b ≡ false → c ≡ true) → lexb y x c ≡ true
lexb-total x y b c h f = go (lexb-false x y b h)
  where
    go : (y < x) ⊎ ((y ≡ x) × (b ≡ false)) → lexb y x c ≡ true
    go (inl l) = lexb-lt y x c l
    go (inr (e, t)) = lexb-eq y x c e (f t)

pub lexb-antisym : (x y : ℕ) (b c : Bool) → lexb x y b ≡ true → lexb y x c ≡ true → (x ≡ y) × (b ≡ true) × (c ≡ true)
lexb-antisym x y b c h k = go (lexb-true x y b h) (lexb-true y x c k)
  where
    go : (x < y) ⊎ ((x ≡ y) × (b ≡ true)) → (y < x) ⊎ ((y ≡ x) × (c ≡ true)) → (x ≡ y) × (b ≡ true) × (c ≡ true)
    go (inl l) (inl m) = absurd (omega arith)
    go (inl l) (inr (e, t)) = absurd (omega arith)
    go (inr (e, t)) (inl m) = absurd (omega arith)
    go (inr (e, t)) (inr (e', t')) = (e, t, t')

pub lexb-le : (x y : ℕ) (b : Bool) → lexb x y b ≡ true → x ≤ y
lexb-le x y b h = go (lexb-true x y b h)
  where
    go : (x < y) ⊎ ((x ≡ y) × (b ≡ true)) → x ≤ y
    go (inl l) = omega arith
    go (inr (e, t)) = omega arith
