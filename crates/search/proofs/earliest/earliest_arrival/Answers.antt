-- `earliest_arrival` meets its contract.
use Rattle.search.proofs.EarliestLaws.{earliest-is}
use Rattle.search.proofs.earliest.earliest_arrival.Goals as goal

pub returns : goal.returns
returns c =
    let l = c.args.load.now in
    earliest-is l _ _ _ c.sorted-calls.ensures c.sorted-calls.type_inv.1.0.1 c.fill_feed.ensures
    c.numbers_told.ensures c.earliest_of.ensures
