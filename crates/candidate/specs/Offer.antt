-- The offer of a row to the state of a search.
use Rattle.std.specs.Prelude.{◌≡◌, Bool, true, ◌||◌, ℕ, leb, ltb}
use mathlib.Core.List.{List, [], Memᴰ}
use Rattle.laws.specs.Lists.{foldl}
use Rattle.profile.specs.Found.{Row}
use Rattle.profile.specs.declared.figures.Figures.{Figures}
use Rattle.profile.specs.Figures.{covᶠ, dueᶠ}
use Rattle.profile.specs.Kept.{SearchState, going, refused, searched, too_late}
use Rattle.profile.specs.Walk.{walk, walk_reads}
use Rattle.profile.specs.Journeys.{row_figures, row_of, cov, due}
use Rattle.candidate.specs.Pieces.{passing}
use Rattle.profile.specs.Sizes.{kept_room, least_horizon}

-- a row with these figures
abbrev pub with_figures : Figures → Row
with_figures f = row_of f.leave f.arrival f.rides f.walk 0 0 0 0 0 0 0 0

-- the offer of a row by one walk over the kept ones, at 64 journeys and a least horizon of 3600
unfoldable pub offer_to : SearchState Row → Row → SearchState Row
offer_to s o = walk (covᶠ row_figures) (dueᶠ row_figures) kept_room least_horizon s o

-- how many kept ones that walk reads
unfoldable pub reads_to : SearchState Row → Row → ℕ
reads_to s o = walk_reads (covᶠ row_figures) (dueᶠ row_figures) s o

-- the offers `os` made to a fresh state, one after the other, are a search
abbrev pub OffersSearch : Type 0
OffersSearch = (h g : ℕ) (os : List Row) → foldl offer_to (going [] h g) os ≡ searched row_figures kept_room least_horizon h g os

-- offers that are too late leave the state as it is, so that they need not be made
abbrev pub OffersLate : Type 0
OffersLate = (s : SearchState Row) (os : List Row) → ((o : Row) → Memᴰ o os → too_late s o.arrival ≡ true) → foldl offer_to s os ≡ s

-- whether the offer of a row would be passed over: it is due after the horizon, the walk passes it over, or the search is refused
unfoldable pub passed_over : SearchState Row → Row → Bool
passed_over (going ks h l) o = ltb h (due o) || passing o ks
passed_over refused o = true

-- where a row would be passed over, what it equals or beats leaves the state as it is, so that those offers need not be made
abbrev pub OffersCovered : Type 0
OffersCovered = (s : SearchState Row) (b : Row) (os : List Row) → passed_over s b ≡ true → ((o : Row) → Memᴰ o os → cov b o ≡ true)
    → foldl offer_to s os ≡ s

-- an offer with this leave, rides and walk would be passed over exactly if it is due at t or later
unfoldable pub PassedFrom : SearchState Row → ℕ → ℕ → ℕ → ℕ → Type 0
PassedFrom s leave rides walk t =
    (a : ℕ) → passed_over s (with_figures (record { leave = leave; arrival = a; rides = rides; walk = walk })) ≡ leb t a

-- where a row would be passed over, so would what it equals or beats
abbrev pub CoveredPassed : Type 0
CoveredPassed = (s : SearchState Row) (b o : Row) → passed_over s b ≡ true → cov b o ≡ true → passed_over s o ≡ true

-- after its offer, a row would be passed over
abbrev pub OfferedPassed : Type 0
OfferedPassed = (s : SearchState Row) (o : Row) → passed_over (offer_to s o) o ≡ true
