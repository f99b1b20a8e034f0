-- `wrapping_mul` meets its contract: the halves of the factors are below 2 ^ 32, and `halves` is the sum of the partial products.
use Rattle.std.proofs.Common.{◌∙◌}
use Rattle.laws.proofs.Halves.{halves}
use Rattle.key.proofs.wrapping_mul.Goals as goal

pub returns : goal.returns
returns c =
    c.wrapping_add_u64.ensures.value ∙ rw c.wrapping_add_u64-middle.ensures.value (halves 4294967296 c.args.a c.args.b)
