-- The unbeaten offers of a list, by the list alone: due by the horizon, beaten by none, and equalled by no earlier one.
use Rattle.std.specs.Prelude.{◌≡◌, Bool, true, not, cond, ◌&&◌, List, [], ◌∷◌, ◌++◌, ℕ, ◌≤◌, leb}
use Rattle.laws.specs.Lists.{anyb}

module _ {A : Type 0} (cov : A → A → Bool) where
  -- a covers b, and b does not cover a
  abbrev pub beats : A → A → Bool
  beats a b = cov a b && not (cov b a)

module _ {A : Type 0} (cov : A → A → Bool) (due : A → ℕ) where
  -- o, offered after `pre` and before `post`, counts: no later offer beats it, it is due by h, and no earlier one equals or beats it
  abbrev pub counts : ℕ → List A → A → List A → Bool
  counts h pre o post = not (anyb (λ q. beats cov q o) post) && (leb (due o) h && not (anyb (λ q. cov q o) pre))

  -- those of `os` that count, in order, where `pre` was offered before them
  abbrev pub after : ℕ → List A → List A → List A
  after h pre [] = []
  after h pre (o ∷ os) = cond (counts h pre o os) (o ∷ after h (pre ++ o ∷ []) os) (after h (pre ++ o ∷ []) os)

  -- the offers of `os` due by h that no offer of `os` beats and no earlier one equals, in order
  abbrev pub front : ℕ → List A → List A
  front h os = after h [] os

-- `cov` is reflexive and transitive, and what covers is due no later: all that the laws of `front` ask
pub record Order {A : Type 0} (cov : A → A → Bool) (due : A → ℕ) : Type 0 where
  pub cov_refl : (a : A) → cov a a ≡ true
  pub cov_trans : (a b c : A) → cov a b ≡ true → cov b c ≡ true → cov a c ≡ true
  pub cov_due : (a b : A) → cov a b ≡ true → due a ≤ due b
