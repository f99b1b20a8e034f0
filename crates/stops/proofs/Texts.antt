-- The search for a stop.
use Rattle.std.specs.Prelude.{None, Some}
use Rattle.std.specs.List.{position_from, position_or_len}
use Prim.Native.Nat.{ℕ, ◌+◌}
use mathlib.Core.Path.{◌≡◌, refl, ap, ◌∙◌}
use mathlib.Core.List.{List, [], ◌∷◌}
use mathlib.Core.Bool.{Bool, cond}
use lib.Dec.{ltb}
use lib.ListN.{length}
use Rattle.laws.proofs.Chains.{position-found}
use Rattle.stops.specs.declared.Stop.{Stop}
use Rattle.stops.specs.Stops.{find_stop}

-- the search by std's words
find-is : (p : Stop → Bool) (l : List Stop) (k : ℕ) → position_from p k l ≡ find_stop p l k
find-is p [] k = refl
find-is p (s ∷ ss) k = ap (cond (p s) (Some k)) (find-is p ss (k + 1))

-- what `position` finds
pub position-finds : (p : Stop → Bool) (l : List Stop)
    → cond (ltb (position_or_len p l) (length l)) (Some (position_or_len p l)) None ≡ find_stop p l 0
position-finds p l = position-found p l ∙ find-is p l 0

-- what the logic reads past the end of an array of stops
abbrev pub past : Stop
past = record { id = record { bytes = []; len = 0 }; name = None; parent = None; location_type = 0; degrees = None; members = 0 }
