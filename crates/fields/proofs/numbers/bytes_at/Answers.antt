-- Each call of the closure gives its byte.
use Rattle.std.proofs.Common.{rules, tests}
use Prim.Native.Nat.{ℕ, ◌+◌}
use Rattle.fields.specs.Numbers.{byte_at, bytes_at}
use Rattle.laws.proofs.Made.{made-table}
use Rattle.fields.proofs.numbers.bytes_at.Goals as goal

pub returns : goal.returns
unfolding bytes_at
returns g c = made-table _ _ (λ (i : ℕ). byte_at c.args.b.now (c.args.at + i))
    (λ i y q called. search (rules, tests)) 0 _ _ c.from_fn.ensures.items
