-- Calls in order of trip, day and sequence, and the neighbours for which a search is refused: of one trip and day, and of one sequence or
-- the first departing after the second arrives. RULES 8.1.
use Rattle.std.specs.Prelude.{◌≡◌, ◌⊎◌, ℕ, ◌<◌}
use mathlib.Core.List.{List, [], ◌∷◌, ◌++◌, Memᴰ, Permᴰ}
use Rattle.settings.specs.declared.Settings.{Settings}
use Rattle.calls.specs.declared.CallInput.{CallInput}
use Rattle.calls.specs.declared.Call.{Call}
use Rattle.comparison.specs.Window.{Shown}

-- by trip, then day, then sequence
abbrev pub CallBefore : Call → Call → Type 0
CallBefore b c = (b.trip < c.trip) ⊎ ((b.trip ≡ c.trip) × ((b.day < c.day) ⊎ ((b.day ≡ c.day) × (b.sequence < c.sequence))))

-- no call is before one that stands in front of it
abbrev pub InOrder : List Call → Type 0
InOrder [] = Unit {0}
InOrder (c ∷ cs) = ((d : Call) → Memᴰ d cs → CallBefore d c → ⊥) × InOrder cs

-- the calls of a list that are seen up to h, put in order
pub record Ordered (s : Settings) (h : ℕ) (is : List CallInput) (os : List Call) : Type 0 where
  pub seen : List Call
  pub shown : Shown s h is seen
  pub same : Permᴰ os seen
  pub in_order : InOrder os

-- there are two such neighbours
pub record Clashing (s : Settings) (h : ℕ) (is : List CallInput) : Type 0 where
  pub calls : List Call
  pub ordered : Ordered s h is calls
  pub before : List Call
  pub a : Call
  pub b : Call
  pub behind : List Call
  pub neighbours : calls ≡ before ++ a ∷ b ∷ behind
  pub trip : a.trip ≡ b.trip
  pub day : a.day ≡ b.day
  pub clash : (a.sequence ≡ b.sequence) ⊎ (b.arrival < a.departure)
