-- Events that stand for others: as many joins are tested, the search goes as far, and what is offered stands for what is offered.
use mathlib.Core.Path.{◌≡◌, refl, ap}
use mathlib.Core.List.{List, [], ◌∷◌, map}
use Prim.Native.Nat.{ℕ, zero, suc}
use Rattle.counted.specs.Events.{Event, tested, offered, joins_in, offers_of, up_to, finished}
use Rattle.counted.specs.Joins.{Join, event_by}

module _ {C D A B : Type 0} (h : C → D) (φ : A → B) where
  pub stand-offers : (es : List (Event (Join C) A)) → offers_of (map (event_by h φ) es) ≡ map φ (offers_of es)
  stand-offers [] = refl
  stand-offers (tested j ∷ es) = stand-offers es
  stand-offers (offered a ∷ es) = ap {B = List B} (λ r. φ a ∷ r) (stand-offers es)

  pub stand-joins : (es : List (Event (Join C) A)) → joins_in (map (event_by h φ) es) ≡ joins_in es
  stand-joins [] = refl
  stand-joins (tested j ∷ es) = ap suc (stand-joins es)
  stand-joins (offered a ∷ es) = stand-joins es

  pub stand-up-to : (n : ℕ) (es : List (Event (Join C) A)) → up_to n (map (event_by h φ) es) ≡ map (event_by h φ) (up_to n es)
  stand-up-to n [] = refl
  stand-up-to n (offered a ∷ es) = ap {B = List (Event (Join D) B)} (λ r. offered (φ a) ∷ r) (stand-up-to n es)
  stand-up-to zero (tested j ∷ es) = refl
  stand-up-to (suc n) (tested j ∷ es) = ap {B = List (Event (Join D) B)} (λ r. event_by h φ (tested j) ∷ r) (stand-up-to n es)

  pub stand-finished : (n : ℕ) (es : List (Event (Join C) A)) → finished n (map (event_by h φ) es) ≡ finished n es
  stand-finished n [] = refl
  stand-finished n (offered a ∷ es) = stand-finished n es
  stand-finished zero (tested j ∷ es) = refl
  stand-finished (suc n) (tested j ∷ es) = stand-finished n es

-- an event stands for itself
pub event-itself : {C A : Type 0} (e : Event (Join C) A) → event_by (λ x. x) (λ a. a) e ≡ e
event-itself (tested j) = refl
event-itself (offered a) = refl
