-- What `any` finds, by the rules of the slice.
use mathlib.Core.Path.{◌∙◌}
use Rattle.std.proofs.Common.{rules}
use Rattle.std.proofs.lemmas.Iterator.{YieldsList-from_slice}
use Rattle.std.proofs.lemmas.Iterator.Search.{any_from_yields_List}
use Rattle.laws.proofs.Chains.{any-is}
use Rattle.rules.specs.Rules.{same_pair}
use Rattle.rules.proofs.rule_known.Goals as goal

pub returns : goal.returns
returns c =
    any_from_yields_List (same_pair c.args.from c.args.to) _ _ c.any.result c.any.ensures.ran
    (YieldsList-from_slice c.args.rules.now c.iter.ensures.rest) (λ x b q k. search rules)
    ∙ any-is (same_pair c.args.from c.args.to) c.args.rules.now
