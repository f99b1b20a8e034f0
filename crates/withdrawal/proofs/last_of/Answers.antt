-- The last call with the key.
use mathlib.Core.Path.{ap, ◌∙◌}
use Rattle.std.proofs.Common.{rules, tests}
use Rattle.withdrawal.specs.Removal.{has_key, last_of}
use Rattle.withdrawal.proofs.LastLaws.{last-found}
use Rattle.withdrawal.proofs.last_of.Goals as goal

pub returns : goal.returns
returns c =
    last-found _ _ _ _ (has_key c.args.key) (λ x b q k. search (rules, tests)) c.rposition.result c.rposition.ensures.ran
    ∙ ap (last_of (has_key c.args.key)) c.iter.ensures.rest
