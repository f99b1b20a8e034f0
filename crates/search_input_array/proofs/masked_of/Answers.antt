-- The two halves of the byte.
use mathlib.Core.Path.{ap₂}
use Prim.Native.Nat.{ℕ, ◌+◌, ◌*◌}
use Rattle.search_input_array.specs.Feeds.{masked_of}
use Rattle.search_input_array.proofs.masked_of.Goals as goal

pub returns : goal.returns
unfolding masked_of
returns c = ap₂ (λ (x y : ℕ). x + y * 16) c.digits_of-low.ensures c.digits_of-high.ensures
