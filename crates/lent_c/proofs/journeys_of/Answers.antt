-- Each call of the closure gives the journey at its place.
use Rattle.std.proofs.Common.{rules, tests}
use lib.ListN.{get_or}
use Prim.Native.Nat.{ℕ}
use Rattle.laws.proofs.Made.{made-table}
use Rattle.profile.specs.Journeys.{no_journey}
use Rattle.lent_c.specs.Plain.{journey_with, journeys_of}
use Rattle.lent_c.proofs.journeys_of.Goals as goal

pub returns : goal.returns
unfolding journeys_of
returns c =
    let a = c.args in
    made-table _ _
    (λ (k : ℕ). journey_with k (get_or a.leaves.now k 0) (get_or a.arrivals.now k 0) (get_or a.rides.now k 0) (get_or a.walks.now k 0))
    (λ k y q called. search (rules, tests)) no_journey _ 64 c.from_fn.ensures.items
