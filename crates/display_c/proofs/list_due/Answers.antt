-- Each call gives the journey at its place.
use Rattle.std.proofs.Common.{rules, tests}
use Rattle.profile.specs.Journeys.{no_journey}
use Rattle.display_c.specs.Full.{due_at, list_due}
use Rattle.display_c.proofs.FullLaws.{mapped-table}
use Rattle.display_c.proofs.list_due.Goals as goal

pub returns : goal.returns
unfolding list_due
returns c = mapped-table _ due_at (λ p q x y called. search (rules, tests)) 0 no_journey _ c.args.arrivals.now _ 64 c.map.ensures.items
