-- What the queries share: from the answers of their three calls to the whole.
use Rattle.std.specs.Prelude.{Option}
use mathlib.Core.Path.{◌≡◌, ap, ◌∙◌}
use mathlib.Core.List.{List}
use Prim.Native.Nat.{ℕ}
use lib.IntN.{ℤ}
use lib.ListN.{take}
use Rattle.profile.specs.declared.Journey.{Journey}
use Rattle.best.specs.Best.{best_of_of, first_leaving}
use Rattle.lent_c.specs.Plain.{journeys_of, answer_of, best_numbers, first_numbers}

module _ (query : List Journey → ℕ → ℤ → Option Journey) where
  numbers : (ls bs rs ws : List ℕ) (n h : ℕ) {s s' : ℤ} {js ks : List Journey} {f : Option Journey} {out : List ℕ} → s ≡ s'
      → js ≡ journeys_of ls bs rs ws → ks ≡ take n js → f ≡ query ks h s → out ≡ answer_of f
      → out ≡ answer_of (query (take n (journeys_of ls bs rs ws)) h s')
  numbers ls bs rs ws n h es ej ek ef eo = eo ∙ ap answer_of (ef ∙ (λ t. query ((ek ∙ ap (take n) ej) t) h (es t)))

pub answered : (ls bs rs ws : List ℕ) (n h : ℕ) {s s' : ℤ} {js ks : List Journey} {f : Option Journey} {out : List ℕ} → s ≡ s'
    → js ≡ journeys_of ls bs rs ws → ks ≡ take n js → f ≡ best_of_of ks h s → out ≡ answer_of f → out ≡ best_numbers ls bs rs ws n h s'
unfolding best_numbers
answered ls bs rs ws n h es ej ek ef eo = numbers best_of_of ls bs rs ws n h es ej ek ef eo

pub first-answered : (ls bs rs ws : List ℕ) (n h : ℕ) {s s' : ℤ} {js ks : List Journey} {f : Option Journey} {out : List ℕ} → s ≡ s'
    → js ≡ journeys_of ls bs rs ws → ks ≡ take n js → f ≡ first_leaving ks h s → out ≡ answer_of f → out ≡ first_numbers ls bs rs ws n h s'
unfolding first_numbers
first-answered ls bs rs ws n h es ej ek ef eo = numbers first_leaving ls bs rs ws n h es ej ek ef eo
