-- Each call of the closure gives the stop at its place.
use Rattle.std.proofs.Common.{rules, tests}
use Rattle.stops.specs.Taken.{blank_stop}
use Rattle.laws.proofs.Made.{made-table}
use Rattle.transfer_c.specs.Plain.{plain_stop, stops_with}
use Rattle.transfer_c.proofs.stops_with.Goals as goal

pub returns : goal.returns
unfolding stops_with plain_stop
returns c =
    let a = c.args in
    made-table _ _ (plain_stop a.ids.now a.names.now a.latitudes.now a.longitudes.now)
    (λ k y q called. search (rules, tests)) blank_stop _ 128 c.from_fn.ensures.items
