-- The chain reads the list up to the first.
use Rattle.std.proofs.Common.{rules, tests}
use Rattle.std.proofs.lemmas.Iterator.{YieldsList-from_slice}
use Rattle.std.proofs.lemmas.Iterator.Search.{find_from_yields_List}
use Rattle.groups.specs.Groups.{has_number, group_at}
use Rattle.groups.proofs.group_at.Goals as goal

pub returns : goal.returns
unfolding group_at
returns c =
    find_from_yields_List (has_number c.args.number) _ _ c.find.result c.find.ensures.ran (YieldsList-from_slice c.args.given.now cc)
    (λ x b q k. search (rules, tests))
