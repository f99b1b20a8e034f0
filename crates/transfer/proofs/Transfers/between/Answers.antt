-- By the rule that holds, or by nearness.
use mathlib.Core.Path.{◌∙◌}
use Rattle.transfer.specs.Changes.{ends_of_of, transfer_of}
use Rattle.transfer.proofs.Transfers.between.Goals as goal

pub returns : goal.returns
unfolding ends_of_of transfer_of
returns c = c.change_by.ensures ∙ rw (c.choose.ensures, c.ends-ends.ensures)
