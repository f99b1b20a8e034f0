-- Best at the larger second.
use mir.Syntax.{w64}
use mathlib.Core.Path.{◌∙◌, ap}
use lib.IntN.{ℤ}
use Rattle.laws.proofs.Ints.{again}
use Rattle.best.specs.Best.{after_of}
use Rattle.best.proofs.QueryLaws.{best-next}
use Rattle.best.proofs.next_after.Goals as goal

pub returns : goal.returns
returns c = best-next c.args.load c.args.second c.args.missed (again {w = w64} (record { sfits = c.after.type_inv }))
    (c.after.ensures ∙ ap (λ (z : ℤ). after_of z c.args.missed.leave) (again c.ranges.second)) c.best.ensures
