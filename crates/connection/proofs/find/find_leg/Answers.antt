-- Two calls.
use mathlib.Core.Path.{ap, ◌∙◌}
use Rattle.connection.specs.Find.{find_in, find_leg}
use Rattle.connection.proofs.find.find_leg.Goals as goal

pub returns : goal.returns
unfolding find_leg
returns c =
    λ i. record {
      board = (c.find.ensures ∙ ap (find_in c.args.calls.now) c.key.ensures) i;
      alight = (c.find-2.ensures ∙ ap (find_in c.args.calls.now) c.key-2.ensures) i;
    }
