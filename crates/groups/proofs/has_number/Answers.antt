-- The chain asks each group.
use Rattle.std.proofs.Common.{rules, tests}
use Rattle.std.proofs.lemmas.Iterator.{YieldsList-from_slice}
use Rattle.std.proofs.lemmas.Iterator.Search.{any_from_yields_List}
use mathlib.Core.Path.{◌∙◌}
use Rattle.groups.specs.Groups.{has_number}
use Rattle.groups.proofs.GroupLaws.{any-same}
use Rattle.groups.proofs.has_number.Goals as goal

pub returns : goal.returns
returns c =
    let p = has_number c.args.number in
    any_from_yields_List p _ _ c.any.result c.any.ensures.ran (YieldsList-from_slice c.args.given.now cc) (λ x b q k. search (rules, tests))
    ∙ any-same p c.args.given.now
