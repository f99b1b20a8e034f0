-- The masks that are read have four digits.
use mathlib.Core.List.{List}
use Prim.Native.Nat.{ℕ, ◌<◌}
use native.Mathlib.Omega.{arith}
use Rattle.search_input.specs.Feed.{origin_mask, target_mask}

pub origins-small : (f : List ℕ) (stop : ℕ) → origin_mask f stop < 16
unfolding origin_mask
origins-small f stop = omega arith

pub targets-small : (f : List ℕ) (stop : ℕ) → target_mask f stop < 16
unfolding target_mask
targets-small f stop = omega arith
