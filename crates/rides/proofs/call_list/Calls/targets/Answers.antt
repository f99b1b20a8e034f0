-- `targets` meets its contract: the mask has four digits.
use Rattle.search_input.proofs.FeedLaws.{targets-small}
use Rattle.rides.proofs.call_list.Calls.targets.Goals as goal

pub of-requires : goal.of-requires
of-requires c = rw c.targets_of.ensures (targets-small _ _)
