-- The first that matches, of a list in order, is the least that matches.
use Rattle.std.specs.Prelude.{None, Option, Some}
use Prim.Native.Nat.{ℕ}
use mathlib.Core.Path.{◌≡◌, refl, sym, ap, ◌∙◌}
use mathlib.Core.Logic.{◌⊎◌, inl, inr}
use mathlib.Core.Bool.{Bool, true, false, cond, true≢false}
use mathlib.Core.List.Memᴰ
use mathlib.Core.List.{List, [], ◌∷◌, Memᴰ}
use Rattle.laws.specs.Sort.{Ordered, Strict}
use Rattle.places.specs.Places.{first_match}

module _ (p : ℕ → Bool) (lt : ℕ → ℕ → Bool) (o : Strict lt) where
  -- r is of the list, matches, and no other that matches is below it
  pub record Least (reps : List ℕ) (r : ℕ) : Type 0 where
    pub one : Memᴰ r reps
    pub fits : p r ≡ true
    pub least : (q : ℕ) → Memᴰ q reps → p q ≡ true → lt q r ≡ false

  abbrev pub Right : List ℕ → Option ℕ → Type 0
  Right reps (Some r) = Least reps r
  Right reps None = (q : ℕ) → Memᴰ q reps → p q ≡ false

  pub self : (r : ℕ) → lt r r ≡ false
  self r = go (lt r r) refl
    where
      go : (b : Bool) → lt r r ≡ b → b ≡ false
      go true e = sym e ∙ o.asym r r e
      go false e = refl

  skip : (x : ℕ) (reps : List ℕ) (f : Option ℕ) → p x ≡ false → Right reps f → Right (x ∷ reps) f
  skip x reps (Some r) e h = record { one = Memᴰ.tail h.one; fits = h.fits; least = λ q m t. go q t (Memᴰ.cases_cons m) }
    where
      go : (q : ℕ) → p q ≡ true → (q ≡ x) ⊎ Memᴰ q reps → lt q r ≡ false
      go q t (inl s) = absurd (true≢false (sym t ∙ ap p s ∙ e))
      go q t (inr m) = h.least q m t
  skip x reps None e h = λ q m. go q (Memᴰ.cases_cons m)
    where
      go : (q : ℕ) → (q ≡ x) ⊎ Memᴰ q reps → p q ≡ false
      go q (inl s) = ap p s ∙ e
      go q (inr m) = h q m

  pub first-right : (reps : List ℕ) → Ordered lt reps → Right reps (first_match p reps)
  first-right [] w = λ q m. absurd (Memᴰ.not-nil m)
  first-right (x ∷ reps) w = go (p x) refl (first-right reps w.1)
    where
      head : (q : ℕ) → (q ≡ x) ⊎ Memᴰ q reps → lt q x ≡ false
      head q (inl s) = ap (λ (y : ℕ). lt y x) s ∙ self x
      head q (inr m) = w.0 q m

      go : (b : Bool) → p x ≡ b → Right reps (first_match p reps) → Right (x ∷ reps) (cond b (Some x) (first_match p reps))
      go true e h = record { one = Memᴰ.head refl; fits = e; least = λ q m t. head q (Memᴰ.cases_cons m) }
      go false e h = skip x reps (first_match p reps) e h
