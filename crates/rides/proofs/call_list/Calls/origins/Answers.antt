-- `origins` meets its contract: the mask has four digits.
use Rattle.search_input.proofs.FeedLaws.{origins-small}
use Rattle.rides.proofs.call_list.Calls.origins.Goals as goal

pub of-requires : goal.of-requires
of-requires c = rw c.origins_of.ensures (origins-small _ _)
