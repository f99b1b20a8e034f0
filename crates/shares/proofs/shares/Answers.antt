-- The four shares are dealt one after the other.
use Rattle.std.proofs.Common.{rules, tests}
use mathlib.Core.Path.{ap, ◌∙◌}
use Rattle.shares.specs.Shares.{dealt, shares_of}
use Rattle.shares.proofs.ShareLaws.{mapped-dealt, left-of-four}
use Rattle.shares.proofs.shares.Goals as goal

pub returns : goal.returns
unfolding shares_of
returns c =
    let ns = c.args.lengths in
    mapped-dealt _ (λ p. p.0.now) (λ p q x y called. search (rules, tests)) ns _ _ c.well_formed.0.1.0.1 c.map.ensures.items
    ∙ ap (λ n. dealt n ns) (left-of-four ns c.well_formed.0.1.0.1
    c.at_first.ensures c.at_first-2.ensures c.at_first-3.ensures c.at_first-4.ensures)
