-- Each call of the closure gives the parent of its stop.
use Rattle.std.proofs.Common.{rules, tests}
use Prim.Native.Nat.{ℕ}
use Rattle.std.specs.Option.{unwrap_or}
use Rattle.stops.specs.Sound.{stop_at}
use Rattle.transfer.specs.Copied.{parents_of}
use Rattle.laws.proofs.Made.{made-table}
use Rattle.transfer.proofs.copied.parents_of.Goals as goal

pub returns : goal.returns
unfolding parents_of
returns c =
    made-table _ _ (λ (k : ℕ). unwrap_or (stop_at c.args.stops.now k).parent 65535)
    (λ k y q called. search (rules, tests)) 0 _ 128 c.from_fn.ensures.items
