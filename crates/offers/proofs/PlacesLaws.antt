-- The digits of a mask, the figures of a row's journey, and an array that holds the calls in order.
use mathlib.Core.Path.{◌≡◌, refl, sym, ap, ◌∙◌}
use mathlib.Core.List.{List}
use Prim.Native.Nat.{ℕ, ◌+◌, ◌-◌, ◌%◌, ◌^◌, ◌≤◌, min}
use native.Mathlib.Omega.{arith}
use lib.ListN.{length, get_or, take}
use Rattle.laws.specs.Bits.{bits_from, bits_of}
use Rattle.laws.proofs.Bits.{bits-masked}
use Rattle.laws.proofs.Places.{take_places}
use Rattle.calls.specs.declared.Call.{Call}
use Rattle.profile.specs.Found.{Row}
use Rattle.profile.specs.Journeys.{journey_figures, row_figures}
use Rattle.offers.specs.Offers.{Timetable, sorted}
use Rattle.offers.specs.Places.{mask_of, journey_at, InPlaces}

-- the digits of a mask are those below its count
pub mask-bits : (c m : ℕ) → bits_of (mask_of c m) ≡ bits_from (min c 4) 0 m
unfolding bits_of mask_of
mask-bits c m =
    let q : min c 4 + (4 - min c 4) ≡ 4 = omega arith in
    ap (λ (k : ℕ). bits_from k 0 (m % 2 ^ min c 4)) (sym q) ∙ bits-masked (min c 4) (4 - min c 4) 0 m

-- a row has the figures of its journey
pub row-figures : (at : ℕ → Call) (r : Row) → journey_figures (journey_at at r) ≡ row_figures r
unfolding journey_at
row-figures at r = refl

-- an array whose first n calls are sorted holds the calls in order
pub array-in-places : (t : Timetable) (l : List Call) (n : ℕ) (d : Call) → n ≤ length l → take n l ≡ sorted t
    → InPlaces t (λ i. get_or l i d) n
array-in-places t l n d h e = sym e ∙ take_places l d n h
