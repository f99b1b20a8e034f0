-- The product of two halves of a word.
use Prim.Native.Nat.{ℕ, ◌*◌, ◌^◌, ◌<◌}
use Rattle.laws.proofs.Halves.{below}

pub below_64 : {a b : ℕ} → a < 2 ^ 32 → b < 2 ^ 32 → a * b < 2 ^ 64
below_64 = below 32
