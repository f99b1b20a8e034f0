-- The chain asks each group.
use Rattle.std.proofs.Common.{rules, tests}
use Rattle.std.proofs.lemmas.Iterator.{YieldsList-from_slice}
use Rattle.std.proofs.lemmas.Iterator.Search.{any_from_yields_List}
use mathlib.Core.Path.{ap, ◌∙◌}
use lib.IntN.{ℤ}
use mir.Syntax.{w64}
use mir.Val.{to_z, of_z}
use Rattle.laws.specs.Lists.{anyb}
use Rattle.laws.proofs.Ints.{again}
use Rattle.groups.specs.Refused.{is_wrong}
use Rattle.groups.proofs.GroupLaws.{any-same}
use Rattle.groups.proofs.any_wrong.Goals as goal

pub returns : goal.returns
returns c =
    let gs = c.args.given.now in
    let low = to_z w64 (of_z w64 c.args.low) in
    any_from_yields_List (is_wrong low) _ _ c.any.result c.any.ensures.ran (YieldsList-from_slice gs cc) (λ x b q k. search (rules, tests))
    ∙ any-same (is_wrong low) gs ∙ ap (λ (z : ℤ). anyb (is_wrong z) gs) (again c.ranges.low)
