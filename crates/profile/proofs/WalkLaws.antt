-- The laws of one walk over a kept list: on an antichain it is judging and then dropping, and so over every search; how many it reads.
use mathlib.Core.Path.{◌≡◌, refl, sym, ap, ◌∙◌}
use mathlib.Core.Logic.{◌⊎◌, inl, inr}
use mathlib.Core.Bool.{Bool, true, false, not, cond, ◌&&◌, ◌||◌, true≢false, false≢true, and-false}
use mathlib.Core.List.Memᴰ
use mathlib.Core.List.{List, [], ◌∷◌, Memᴰ}
use Prim.Native.Nat.{ℕ, suc, ◌≤◌, ◌<◌}
use native.Mathlib.Omega.{arith}
use lib.ListN.{length, get_or, take}
use Rattle.laws.specs.Lists.{filterb, anyb, foldl}
use Rattle.laws.proofs.Bools.{test, not-true, and-true-left, or-false-left, or-false-right}
use Rattle.laws.proofs.Lists.{anyb-none, snoc-ind}
use Rattle.laws.proofs.Folds.{foldl-append}
use Rattle.profile.specs.Front.{Order, beats}
use Rattle.profile.specs.Kept.{SearchState, going, refused, too_late, offer, run}
use Rattle.profile.specs.Walk.{place, near, Antichain, passes, reads, walk, walk_reads}
use Rattle.profile.proofs.FrontLaws.{front-antichain}
use Rattle.profile.proofs.KeptLaws.{Holds, run_holds}

-- ---- the place of the first that passes a test

module _ {A : Type 0} (p : A → Bool) where
  pub place-le : (ks : List A) → place p ks ≤ length ks
  place-le [] = omega arith
  place-le (k ∷ ks) = go (p k) (place-le ks)
    where
      go : (b : Bool) → place p ks ≤ length ks → cond b 0 (suc (place p ks)) ≤ suc (length ks)
      go true h = omega arith
      go false h = omega arith

  -- a test that all pass which fail p passes all in front of that place
  pub place-before : (q : A → Bool) → ((k : A) → p k ≡ false → q k ≡ true) → (ks : List A)
      → filterb q (take (place p ks) ks) ≡ take (place p ks) ks
  place-before q f [] = refl
  place-before q f (k ∷ ks) = go (test (p k)) (place-before q f ks)
    where
      go : (p k ≡ true) ⊎ (p k ≡ false) → filterb q (take (place p ks) ks) ≡ take (place p ks) ks
          → filterb q (take (cond (p k) 0 (suc (place p ks))) (k ∷ ks)) ≡ take (cond (p k) 0 (suc (place p ks))) (k ∷ ks)
      go (inl e) ih = rw e refl
      go (inr e) ih = rw (e, f k e) (ap {B = List A} (λ r. k ∷ r) ih)

-- ---- what the walk finds, by the place of the first that is near

module _ {A : Type 0} (cov : A → A → Bool) (o : A) where
  pub passes-found : (d : A) (ks : List A) → place (λ k. near cov k o) ks < length ks
      → passes cov o ks ≡ cov (get_or ks (place (λ k. near cov k o) ks) d) o
  passes-found d [] h = absurd (omega arith)
  passes-found d (k ∷ ks) h = go (test (cov k o)) (test (cov o k)) h (λ h'. passes-found d ks h')
    where
      p : ℕ
      p = place (λ k. near cov k o) ks

      go : (cov k o ≡ true) ⊎ (cov k o ≡ false) → (cov o k ≡ true) ⊎ (cov o k ≡ false) → cond (near cov k o) 0 (suc p) < suc (length ks)
          → (p < length ks → passes cov o ks ≡ cov (get_or ks p d) o)
          → cond (cov k o) true (cond (cov o k) false (passes cov o ks)) ≡ cov (get_or (k ∷ ks) (cond (near cov k o) 0 (suc p)) d) o
      go (inl a) b h ih = rw a (sym a)
      go (inr a) (inl b) h ih = rw (a, b) (sym a)
      go (inr a) (inr b) h ih = rw (a, b) (ih (omega (arith, rw (a, b) at h)))

  pub passes_none : (ks : List A) → length ks ≤ place (λ k. near cov k o) ks → passes cov o ks ≡ false
  passes_none [] h = refl
  passes_none (k ∷ ks) h = go (test (cov k o)) (test (cov o k)) h (λ h'. passes_none ks h')
    where
      p : ℕ
      p = place (λ k. near cov k o) ks

      go : (cov k o ≡ true) ⊎ (cov k o ≡ false) → (cov o k ≡ true) ⊎ (cov o k ≡ false) → suc (length ks) ≤ cond (near cov k o) 0 (suc p)
          → (length ks ≤ p → passes cov o ks ≡ false) → cond (cov k o) true (cond (cov o k) false (passes cov o ks)) ≡ false
      go (inl a) b h ih = absurd (omega (arith, rw a at h))
      go (inr a) (inl b) h ih = rw (a, b) refl
      go (inr a) (inr b) h ih = rw (a, b) (ih (omega (arith, rw (a, b) at h)))

-- ---- on an antichain

module _ {A : Type 0} {cov : A → A → Bool} {due : A → ℕ} (ord : Order cov due) where
  open ord use {cov_trans}

  -- none of an antichain covers an offer that covers one of it
  beaten-alone : (o k : A) (ks : List A) → cov o k ≡ true → ((y : A) → Memᴰ y ks → near cov k y ≡ false) → anyb (λ k. cov k o) ks ≡ false
  beaten-alone o k ks b f =
      anyb-none (λ k. cov k o) ks
      (λ y m. not-true (cov y o) (λ c. true≢false (sym (cov_trans y o k c b) ∙ or-false-right (cov k y) (cov y k) (f y m))))

  pub antichain-passes : (o : A) (ks : List A) → Antichain cov ks → passes cov o ks ≡ anyb (λ k. cov k o) ks
  antichain-passes o [] w = refl
  antichain-passes o (k ∷ ks) (f, w) = go (test (cov k o)) (test (cov o k)) (antichain-passes o ks w)
    where
      go : (cov k o ≡ true) ⊎ (cov k o ≡ false) → (cov o k ≡ true) ⊎ (cov o k ≡ false) → passes cov o ks ≡ anyb (λ k. cov k o) ks
          → cond (cov k o) true (cond (cov o k) false (passes cov o ks)) ≡ (cov k o || anyb (λ k. cov k o) ks)
      go (inl a) b ih = rw a refl
      go (inr a) (inl b) ih = rw (a, b, beaten-alone o k ks b f) refl
      go (inr a) (inr b) ih = rw (a, b) ih

  pub antichain-place : (o : A) (ks : List A) → Antichain cov ks → anyb (λ k. cov k o) ks ≡ true
      → place (λ k. near cov k o) ks ≡ place (λ k. cov k o) ks
  antichain-place o [] w e = refl
  antichain-place o (k ∷ ks) (f, w) e = go (test (cov k o)) (test (cov o k)) e (λ e'. antichain-place o ks w e')
    where
      go : (cov k o ≡ true) ⊎ (cov k o ≡ false) → (cov o k ≡ true) ⊎ (cov o k ≡ false) → (cov k o || anyb (λ k. cov k o) ks) ≡ true
          → (anyb (λ k. cov k o) ks ≡ true → place (λ k. near cov k o) ks ≡ place (λ k. cov k o) ks)
          → cond (near cov k o) 0 (suc (place (λ k. near cov k o) ks)) ≡ cond (cov k o) 0 (suc (place (λ k. cov k o) ks))
      go (inl a) b e ih = rw a refl
      go (inr a) (inl b) e ih = absurd (true≢false (sym (rw a at e) ∙ beaten-alone o k ks b f))
      go (inr a) (inr b) e ih = rw (a, b) (ap suc (ih (rw a at e)))

  -- two of an antichain of which one covers the other are the same
  antichain-same : (k k' : A) (ks : List A) → Antichain cov ks → Memᴰ k ks → Memᴰ k' ks → cov k k' ≡ true → k ≡ k'
  antichain-same k k' [] w m m' c = absurd (Memᴰ.not-nil m)
  antichain-same k k' (x ∷ ks) (f, w) m m' c = go (Memᴰ.cases_cons m) (Memᴰ.cases_cons m') (λ n n'. antichain-same k k' ks w n n' c)
    where
      go : (k ≡ x) ⊎ Memᴰ k ks → (k' ≡ x) ⊎ Memᴰ k' ks → (Memᴰ k ks → Memᴰ k' ks → k ≡ k') → k ≡ k'
      go (inl e) (inl e') ih = e ∙ sym e'
      go (inl e) (inr n') ih =
          let c' : cov x k' ≡ true = rw e at c in
          absurd (true≢false (sym c' ∙ or-false-left (cov x k') (cov k' x) (f k' n')))
      go (inr n) (inl e') ih =
          let c' : cov k x ≡ true = rw e' at c in
          absurd (true≢false (sym c' ∙ or-false-right (cov x k) (cov k x) (f k n)))
      go (inr n) (inr n') ih = ih n n'

  -- an offer that one of an antichain covers beats none of it
  pub antichain-unbeaten : (o k k' : A) (ks : List A) → Antichain cov ks → Memᴰ k ks → cov k o ≡ true → Memᴰ k' ks → beats cov o k' ≡ false
  antichain-unbeaten o k k' ks w m c m' =
      not-true (beats cov o k') (λ b.
      let oc : cov o k' ≡ true = and-true-left (cov o k') (not (cov k' o)) b in
      let e : k ≡ k' = antichain-same k k' ks w m m' (cov_trans k o k' c oc) in
      let c' : cov k' o ≡ true = rw e at c in
      let n : (cov o k' && not true) ≡ true = rw c' at b in
      true≢false (sym n ∙ and-false (cov o k')))

  pub reads-by-place : (o : A) (ks : List A) → Antichain cov ks
      → reads cov o ks ≡ cond (anyb (λ k. cov k o) ks) (suc (place (λ k. cov k o) ks)) (length ks)
  reads-by-place o ks w = rw (antichain-passes o ks w) (go (test (anyb (λ k. cov k o) ks)))
    where
      go : (anyb (λ k. cov k o) ks ≡ true) ⊎ (anyb (λ k. cov k o) ks ≡ false)
          → cond (anyb (λ k. cov k o) ks) (suc (place (λ k. near cov k o) ks)) (length ks)
          ≡ cond (anyb (λ k. cov k o) ks) (suc (place (λ k. cov k o) ks)) (length ks)
      go (inl e) = rw (e, antichain-place o ks w e) refl
      go (inr e) = rw e refl

  module _ (cap floor : ℕ) where
    pub one-walk : (ks : List A) (h l : ℕ) (o : A) → Antichain cov ks
        → walk cov due cap floor (going ks h l) o ≡ offer cov due cap floor (going ks h l) o
    one-walk ks h l o w = rw (antichain-passes o ks w) refl

    walk-holds : (h₀ : ℕ) (os : List A) (s : SearchState A) (o : A) → Holds cov due cap h₀ os s
        → walk cov due cap floor s o ≡ offer cov due cap floor s o
    walk-holds h₀ os refused o w = refl
    walk-holds h₀ os (going ks h l) o (e, len, le) = one-walk ks h l o (rw e (front-antichain cov due h os))

    -- the walks of all offers are a search
    pub walks-run : 0 < floor → (h₀ l₀ : ℕ) (os : List A)
        → foldl (walk cov due cap floor) (going [] h₀ l₀) os ≡ run cov due cap floor h₀ l₀ os
    walks-run pos h₀ l₀ os = snoc-ind (λ xs. foldl (walk cov due cap floor) (going [] h₀ l₀) xs ≡ run cov due cap floor h₀ l₀ xs) refl
        (λ xs x ih. rw (
          foldl-append (walk cov due cap floor) (going [] h₀ l₀) xs (x ∷ []),
          foldl-append (offer cov due cap floor) (going [] h₀ l₀) xs
              (x ∷ []),
          ih,
        )
        (walk-holds h₀ xs (run cov due cap floor h₀ l₀ xs) x (run_holds ord cap floor pos h₀ l₀ xs))) os

  -- what is covered by an offer that the walk passes over is passed over too, whatever the list
  pub passes-covered : (b o : A) (ks : List A) → cov b o ≡ true → passes cov b ks ≡ true → passes cov o ks ≡ true
  passes-covered b o [] c e = e
  passes-covered b o (k ∷ ks) c e =
      go (test (cov k b)) (test (cov b k)) (test (cov k o)) (test (cov o k)) e (λ e'. passes-covered b o ks c e')
    where
      go : (cov k b ≡ true) ⊎ (cov k b ≡ false) → (cov b k ≡ true) ⊎ (cov b k ≡ false) → (cov k o ≡ true) ⊎ (cov k o ≡ false)
          → (cov o k ≡ true) ⊎ (cov o k ≡ false)
          → cond (cov k b) true (cond (cov b k) false (passes cov b ks)) ≡ true → (passes cov b ks ≡ true → passes cov o ks ≡ true)
          → cond (cov k o) true (cond (cov o k) false (passes cov o ks)) ≡ true
      go x y (inl z) t e ih = rw z refl
      go (inl x) y (inr z) t e ih = absurd (true≢false (sym (cov_trans k b o x c) ∙ z))
      go (inr x) (inl y) (inr z) t e ih = absurd (false≢true (rw (x, y) at e))
      go (inr x) (inr y) (inr z) (inl t) e ih = absurd (true≢false (sym (cov_trans b o k c t) ∙ y))
      go (inr x) (inr y) (inr z) (inr t) e ih = rw (z, t) (ih (rw (x, y) at e))

-- ---- offers that change nothing

module _ {A : Type 0} (cov : A → A → Bool) (due : A → ℕ) (cap floor : ℕ) where
  pub walk-late : (s : SearchState A) (o : A) → too_late s (due o) ≡ true → walk cov due cap floor s o ≡ s
  walk-late (going ks h l) o e = rw e
  walk-late refused o e = refl

  pub reads-late : (s : SearchState A) (o : A) → too_late s (due o) ≡ true → walk_reads cov due s o ≡ 0
  reads-late (going ks h l) o e = rw e
  reads-late refused o e = refl

  pub walks-late : (s : SearchState A) (os : List A) → ((o : A) → Memᴰ o os → too_late s (due o) ≡ true)
      → foldl (walk cov due cap floor) s os ≡ s
  walks-late s [] f = refl
  walks-late s (o ∷ os) f = rw (walk-late s o (f o (Memᴰ.head refl))) (walks-late s os (λ x m. f x (Memᴰ.tail m)))
