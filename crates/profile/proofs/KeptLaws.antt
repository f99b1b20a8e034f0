-- What a search keeps after any list of offers: the unbeaten list at the horizon reached, which covers every offer due by it.
use mathlib.Core.Path.{◌≡◌, refl}
use mathlib.Core.Logic.{◌⊎◌, inl, inr}
use mathlib.Core.Bool.{Bool, true, false, not, cond}
use mathlib.Core.List.{List, [], ◌∷◌, ◌++◌, Memᴰ}
use Prim.Native.Nat.{ℕ, suc, ◌-◌, ◌≤◌, ◌<◌}
use native.Mathlib.Omega.{arith}
use lib.Dec.{leb, ltb}
use borrow.Author.Tests.{leb-true, leb-false, le-leb, lt-leb, ltb-true, ltb-false}
use lib.ListN.{length}
use Rattle.laws.specs.Lists.{filterb, anyb}
use Rattle.laws.proofs.Bools.{test}
use Rattle.laws.proofs.Lists.{snoc-ind, length-filterb-lt}
use Rattle.laws.proofs.Folds.{foldl-append}
use Rattle.profile.specs.Front.{Order, front}
use Rattle.profile.specs.Kept.{SearchState, going, refused, latest, settle, offer, run}
use Rattle.profile.proofs.FrontLaws.{after-due, after-mem, front-late, front-covered, front-added, front-one-more, front-covers}

module _ {A : Type 0} (due : A → ℕ) where
  pub latest-le : (h : ℕ) (xs : List A) → ((x : A) → Memᴰ x xs → due x ≤ h) → latest due xs ≤ h
  latest-le h [] f = omega arith
  latest-le h (x ∷ xs) f = let a = f x (Memᴰ.head refl) in let b = latest-le h xs (λ y m. f y (Memᴰ.tail m)) in omega arith

  pub latest-mem : (xs : List A) → 0 < length xs → (x : A) × Memᴰ x xs × (due x ≡ latest due xs)
  latest-mem [] l = absurd (omega arith)
  latest-mem (x ∷ []) l = (x, Memᴰ.head refl, omega arith)
  latest-mem (x ∷ y ∷ ys) l = go (test (leb (due x) (latest due (y ∷ ys)))) (latest-mem (y ∷ ys) (omega arith))
    where
      go : (leb (due x) (latest due (y ∷ ys)) ≡ true) ⊎ (leb (due x) (latest due (y ∷ ys)) ≡ false)
          → (z : A) × Memᴰ z (y ∷ ys) × (due z ≡ latest due (y ∷ ys))
          → (z : A) × Memᴰ z (x ∷ y ∷ ys) × (due z ≡ latest due (x ∷ y ∷ ys))
      go (inl e) (z, m, q) = (z, Memᴰ.tail m, omega (arith, leb-true (due x) (latest due (y ∷ ys)) e))
      go (inr e) w = (x, Memᴰ.head refl, omega (arith, leb-false (due x) (latest due (y ∷ ys)) e))

module _ {A : Type 0} (due : A → ℕ) (cap floor : ℕ) where
  -- the three ways of `settle`: the list fits, the search is refused, or the horizon falls
  pub settle-elim : (P : SearchState A → Type 0) (ks : List A) (h l : ℕ)
      → (length ks ≤ cap → P (going ks h l))
      → (cap < length ks → P refused)
      → (cap < length ks → floor ≤ latest due ks - 1 → P (going (filterb (λ k. leb (due k) (latest due ks - 1)) ks) (latest due ks - 1) 1))
      → P (settle due cap floor ks h l)
  settle-elim P ks h l whole low cut = fit (leb (length ks) cap) refl
    where
      g : ℕ
      g = latest due ks - 1

      falls : cap < length ks → (b : Bool) → ltb g floor ≡ b → P (cond b refused (going (filterb (λ k. leb (due k) g) ks) g 1))
      falls more true e = low more
      falls more false e = cut more (ltb-false g floor e)

      fit : (b : Bool) → leb (length ks) cap ≡ b
          → P (cond b (going ks h l) (cond (ltb g floor) refused (going (filterb (λ k. leb (due k) g) ks) g 1)))
      fit true e = whole (leb-true (length ks) cap e)
      fit false e = falls (leb-false (length ks) cap e) (ltb g floor) refl

-- those that count are due by the horizon
pub front-latest : {A : Type 0} (cov : A → A → Bool) (due : A → ℕ) (h : ℕ) (os : List A) → latest due (front cov due h os) ≤ h
front-latest cov due h os = latest-le due h (front cov due h os) (λ k m. (after-mem cov due h [] os m).1)

module _ {A : Type 0} (cov : A → A → Bool) (due : A → ℕ) (cap : ℕ) where
  -- what holds of a state after the offers `os`, from the horizon h₀
  abbrev pub Holds : ℕ → List A → SearchState A → Type 0
  Holds h₀ os (going ks h l) = (ks ≡ front cov due h os) × (length ks ≤ cap) × (h ≤ h₀)
  Holds h₀ os refused = Unit {0}

module _ {A : Type 0} {cov : A → A → Bool} {due : A → ℕ} (ord : Order cov due) (cap floor : ℕ) (floor-pos : 0 < floor) where
  -- an offer settles the list of those that count
  pub offer-settles : (h l : ℕ) (os : List A) (o : A) → length (front cov due h os) ≤ cap
      → offer cov due cap floor (going (front cov due h os) h l) o ≡ settle due cap floor (front cov due h (os ++ o ∷ [])) h l
  offer-settles h l os o len = late (test (ltb h (due o)))
    where
      stays : front cov due h (os ++ o ∷ []) ≡ front cov due h os
          → going (front cov due h os) h l ≡ settle due cap floor (front cov due h (os ++ o ∷ [])) h l
      stays e = rw (e, le-leb (length (front cov due h os)) cap len)

      covered : ltb h (due o) ≡ false
          → (anyb (λ k. cov k o) (front cov due h os) ≡ true) ⊎ (anyb (λ k. cov k o) (front cov due h os) ≡ false)
          → cond (anyb (λ k. cov k o) (front cov due h os)) (going (front cov due h os) h l)
          (settle due cap floor (filterb (λ k. not (cov o k)) (front cov due h os) ++ o ∷ []) h l)
          ≡ settle due cap floor (front cov due h (os ++ o ∷ [])) h l
      covered d (inl e) = rw e (stays (front-covered ord h os o e))
      covered d (inr e) = rw (e, front-added ord h os o (ltb-false h (due o) d) e)

      late : (ltb h (due o) ≡ true) ⊎ (ltb h (due o) ≡ false)
          → offer cov due cap floor (going (front cov due h os) h l) o ≡ settle due cap floor (front cov due h (os ++ o ∷ [])) h l
      late (inl d) = rw d (stays (front-late ord h os o (ltb-true h (due o) d)))
      late (inr d) = rw d (covered d (test (anyb (λ k. cov k o) (front cov due h os))))

  -- a list of at most one too many is cut
  pub settle-holds : (h₀ : ℕ) (os : List A) (h l : ℕ) → length (front cov due h os) ≤ suc cap → h ≤ h₀
      → Holds cov due cap h₀ os (settle due cap floor (front cov due h os) h l)
  settle-holds h₀ os h l len le =
      settle-elim due cap floor (Holds cov due cap h₀ os) (front cov due h os) h l (λ fits. (refl, fits, le)) (λ more. tt)
      (λ more low. (
        after-due cov due g h [] os (omega (arith, front-latest cov due h os)),
        shorter more low,
        omega
            (arith, front-latest cov due h os),
      ))
    where
      g : ℕ
      g = latest due (front cov due h os) - 1

      shorter : cap < length (front cov due h os) → floor ≤ g → length (filterb (λ k. leb (due k) g) (front cov due h os)) ≤ cap
      shorter more low =
          let w = latest-mem due (front cov due h os) (omega arith) in
          let lt = length-filterb-lt (λ k. leb (due k) g) w.1 (lt-leb (due w.0) g (omega (arith, w.2))) in
          omega arith

  offer-holds : (h₀ : ℕ) (os : List A) (o : A) (s : SearchState A) → Holds cov due cap h₀ os s
      → Holds cov due cap h₀ (os ++ o ∷ []) (offer cov due cap floor s o)
  offer-holds h₀ os o refused w = tt
  offer-holds h₀ os o (going ks h l) (e, len, le) =
      let len' : length (front cov due h os) ≤ cap = rw e at len in
      rw (e, offer-settles h l os o len')
      (settle-holds h₀ (os ++ o ∷ []) h l (omega (arith, front-one-more ord h os o)) le)

  pub run_holds : (h₀ l₀ : ℕ) (os : List A) → Holds cov due cap h₀ os (run cov due cap floor h₀ l₀ os)
  run_holds h₀ l₀ os = snoc-ind (λ xs. Holds cov due cap h₀ xs (run cov due cap floor h₀ l₀ xs)) (refl, omega arith, omega arith)
      (λ xs x w. rw (foldl-append (offer cov due cap floor) (going [] h₀ l₀) xs (x ∷ []))
      (offer-holds h₀ xs x (run cov due cap floor h₀ l₀ xs) w)) os

  -- what is kept is the unbeaten list
  pub run-kept : (h₀ l₀ : ℕ) (os ks : List A) (h l : ℕ) → run cov due cap floor h₀ l₀ os ≡ going ks h l
      → (ks ≡ front cov due h os) × (length ks ≤ cap) × (h ≤ h₀) × ((k : A) → Memᴰ k ks → Memᴰ k os × (due k ≤ h))
  run-kept h₀ l₀ os ks h l e =
      let w : Holds cov due cap h₀ os (going ks h l) = rw e at (run_holds h₀ l₀ os) in
      (w.0, w.1, w.2, λ k m. after-mem cov due h [] os (rw w.0 at m))

  -- every offer due by the horizon is covered by a kept one
  pub run-covers : (h₀ l₀ : ℕ) (os ks : List A) (h l : ℕ) → run cov due cap floor h₀ l₀ os ≡ going ks h l
      → (o : A) → Memᴰ o os → due o ≤ h → (k : A) × Memᴰ k ks × (cov k o ≡ true)
  run-covers h₀ l₀ os ks h l e o m d = rw (run-kept h₀ l₀ os ks h l e).0 (front-covers ord h os o m d)
