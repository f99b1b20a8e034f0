-- A full list.
use Rattle.display_c.proofs.FullLaws.{group-made}
use Rattle.display_c.proofs.full_group.Goals as goal

pub returns : goal.returns
returns c = group-made _ _ _ c.list_due-journeys.ensures
