-- The horizon and the mark after any list of offers: they change exactly where more than `cap` count, and come to what `fall` says.
use mathlib.Core.Path.{◌≡◌, refl, sym, ◌∙◌}
use mathlib.Core.Logic.{inl, inr}
use mathlib.Core.Bool.{Bool, true, false, cond, ◌&&◌, and_assoc}
use mathlib.Core.List.{List, [], ◌∷◌, ◌++◌, append_assoc, append-nil}
use Prim.Native.Nat.{ℕ, ◌-◌, ◌≤◌, ◌<◌}
use native.Mathlib.Omega.{arith}
use lib.Dec.{leb, ltb}
use borrow.Author.Tests.{leb-true, le-leb, lt-leb}
use lib.ListN.{length}
use Rattle.laws.specs.Lists.{filterb, foldl}
use Rattle.laws.proofs.Lists.{snoc-ind}
use Rattle.laws.proofs.Folds.{foldl-append}
use Rattle.profile.specs.Front.{Order, front}
use Rattle.profile.specs.Kept.{SearchState, going, refused, latest, settle, offer, run}
use Rattle.profile.specs.Fall.{never, fall, keeping, fits, Marked}
use Rattle.profile.proofs.FrontLaws.{front-one-more}
use Rattle.profile.proofs.KeptLaws.{settle-elim, front-latest, Holds, offer-settles, settle-holds, run_holds}
use Rattle.profile.proofs.PassLaws.{refused-stays}

module _ {A : Type 0} (cov : A → A → Bool) (due : A → ℕ) (cap : ℕ) where
  pub fits_snoc : (h : ℕ) (pre os : List A) (o : A)
      → fits cov due cap h pre (os ++ o ∷ []) ≡ (fits cov due cap h pre os && leb (length (front cov due h (pre ++ (os ++ o ∷ [])))) cap)
  fits_snoc h pre [] o = refl
  fits_snoc h pre (x ∷ os) o =
      rw (fits_snoc h (pre ++ x ∷ []) os o, append_assoc pre (x ∷ []) (os ++ o ∷ []))
      (sym (and_assoc (leb (length (front cov due h pre)) cap) (fits cov due cap h (pre ++ x ∷ []) os)
      (leb (length (front cov due h (pre ++ x ∷ (os ++ o ∷ [])))) cap)))

module _ {A : Type 0} {cov : A → A → Bool} {due : A → ℕ} (ord : Order cov due) (cap floor : ℕ) (floor-pos : 0 < floor) where
  -- the offer that makes `os` settles what counts at the first horizon, h₀
  settle-first : (h₀ l₀ : ℕ) (os : List A) → fits cov due cap h₀ [] os ≡ leb (length (front cov due h₀ os)) cap
      → Marked cov due cap h₀ l₀ os (settle due cap floor (front cov due h₀ os) h₀ l₀)
  settle-first h₀ l₀ os f =
      settle-elim due cap floor (Marked cov due cap h₀ l₀ os) (front cov due h₀ os) h₀ l₀
      (λ le. inl (f ∙ le-leb (length (front cov due h₀ os)) cap le, refl, refl))
      (λ more. f ∙ lt-leb (length (front cov due h₀ os)) cap more)
      (λ more low. inr (f ∙ lt-leb (length (front cov due h₀ os)) cap more, omega (arith, front-latest cov due h₀ os), refl))

  -- or at an earlier one
  settle-later : (h₀ l₀ h : ℕ) (os : List A) → fits cov due cap h₀ [] os ≡ false → h < h₀
      → Marked cov due cap h₀ l₀ os (settle due cap floor (front cov due h os) h 1)
  settle-later h₀ l₀ h os f le =
      settle-elim due cap floor (Marked cov due cap h₀ l₀ os) (front cov due h os) h 1 (λ few. inr (f, le, refl)) (λ more. f)
      (λ more low. inr (f, omega (arith, front-latest cov due h os), refl))

  offer-marked : (h₀ l₀ : ℕ) (os : List A) (o : A) (s : SearchState A) → Holds cov due cap h₀ os s → Marked cov due cap h₀ l₀ os s
      → Marked cov due cap h₀ l₀ (os ++ o ∷ []) (offer cov due cap floor s o)
  offer-marked h₀ l₀ os o refused w m = fits_snoc cov due cap h₀ [] os o ∙ rw m
  offer-marked h₀ l₀ os o (going ks h l) (e, len, le) (inl (f, eh, el)) =
      let len' : length (front cov due h os) ≤ cap = rw e at len in
      rw (e, offer-settles ord cap floor floor-pos h l os o len', eh, el)
      (settle-first h₀ l₀ (os ++ o ∷ []) (fits_snoc cov due cap h₀ [] os o ∙ rw f))
  offer-marked h₀ l₀ os o (going ks h l) (e, len, le) (inr (f, lt, el)) =
      let len' : length (front cov due h os) ≤ cap = rw e at len in
      rw (e, offer-settles ord cap floor floor-pos h l os o len', el)
      (settle-later h₀ l₀ h (os ++ o ∷ []) (fits_snoc cov due cap h₀ [] os o ∙ rw f) lt)

  pub run-marked : (h₀ l₀ : ℕ) (os : List A) → Marked cov due cap h₀ l₀ os (run cov due cap floor h₀ l₀ os)
  run-marked h₀ l₀ os =
      snoc-ind (λ xs. Marked cov due cap h₀ l₀ xs (run cov due cap floor h₀ l₀ xs)) (inl (le-leb 0 cap (omega arith), refl, refl))
      (λ xs x w. rw (foldl-append (offer cov due cap floor) (going [] h₀ l₀) xs (x ∷ []))
      (offer-marked h₀ l₀ xs x (run cov due cap floor h₀ l₀ xs) (run_holds ord cap floor floor-pos h₀ l₀ xs) w)) os

  -- ---- by the offers alone

  from : (pre os : List A) (h l : ℕ) → length (front cov due h pre) ≤ cap
      → foldl (offer cov due cap floor) (going (front cov due h pre) h l) os
      ≡ keeping cov due (pre ++ os) (fall cov due cap floor h l pre os)
  from pre [] h l len = rw append-nil
  from pre (o ∷ os) h l len =
      rw (offer-settles ord cap floor floor-pos h l pre o len)
      (fit (leb (length (front cov due h (pre ++ o ∷ []))) cap) refl
      (λ h' l' len'. rw append_assoc at (from (pre ++ o ∷ []) os h' l' len')))
    where
      f : List A
      f = front cov due h (pre ++ o ∷ [])

      g : ℕ
      g = latest due f - 1

      Later : Type 0
      Later = (h' l' : ℕ) → length (front cov due h' (pre ++ o ∷ [])) ≤ cap
          → foldl (offer cov due cap floor) (going (front cov due h' (pre ++ o ∷ [])) h' l') os
          ≡ keeping cov due (pre ++ o ∷ os) (fall cov due cap floor h' l' (pre ++ o ∷ []) os)

      cut : leb (length f) cap ≡ false → (b : Bool) → ltb g floor ≡ b → Later
          → foldl (offer cov due cap floor) (cond b refused (going (filterb (λ k. leb (due k) g) f) g 1)) os
          ≡ keeping cov due (pre ++ o ∷ os) (cond b never (fall cov due cap floor g 1 (pre ++ o ∷ []) os))
      cut e true d ih = refused-stays cov due cap floor os
      cut e false d ih =
          let w : Holds cov due cap h (pre ++ o ∷ []) (going (filterb (λ k. leb (due k) g) f) g 1) =
          rw (e, d) at (settle-holds ord cap floor floor-pos h (pre ++ o ∷ []) h l (omega (arith, front-one-more ord h pre o))
          (omega arith)) in
          rw w.0 (ih g 1 (rw w.0 at w.1))

      fit : (b : Bool) → leb (length f) cap ≡ b → Later
          → foldl (offer cov due cap floor) (cond b (going f h l) (cond (ltb g floor) refused (going (filterb (λ k. leb (due k) g) f) g 1)))
          os
          ≡ keeping cov due (pre ++ o ∷ os)
          (cond b (fall cov due cap floor h l (pre ++ o ∷ []) os)
          (cond (ltb g floor) never (fall cov due cap floor g 1 (pre ++ o ∷ []) os)))
      fit true e ih = ih h l (leb-true (length f) cap e)
      fit false e ih = cut e (ltb g floor) refl ih

  -- the whole search: what counts at the horizon that the offers come to
  pub run-fall : (h₀ l₀ : ℕ) (os : List A) → run cov due cap floor h₀ l₀ os ≡ keeping cov due os (fall cov due cap floor h₀ l₀ [] os)
  run-fall h₀ l₀ os = from [] os h₀ l₀ (omega arith)
