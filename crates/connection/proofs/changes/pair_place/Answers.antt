-- The last rule for the pair.
use mathlib.Core.Path.{ap, ◌∙◌}
use Rattle.std.proofs.Common.{rules, tests}
use Rattle.rules.specs.Rules.{same_pair}
use Rattle.withdrawal.specs.Removal.{last_of}
use Rattle.withdrawal.proofs.LastLaws.{last-found}
use Rattle.connection.proofs.changes.pair_place.Goals as goal

pub returns : goal.returns
returns c =
    let p = same_pair c.args.from c.args.to in
    last-found _ _ _ _ p (λ x b q k. search (rules, tests)) c.rposition.result c.rposition.ensures.ran ∙ ap (last_of p) c.iter.ensures.rest
