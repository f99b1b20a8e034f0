-- Best over the first that are lent.
use mathlib.Core.Path.{ap, ◌∙◌}
use mathlib.Core.List.{List}
use mir.Facts.{to_z-of_z}
use Rattle.profile.specs.declared.Journey.{Journey}
use Rattle.best.specs.Best.{best_of_of}
use Rattle.lent.proofs.best_lent.Goals as goal

pub returns : goal.returns
returns c =
    let a = c.args in
    let e = to_z-of_z c.ranges.second in
    (rw e at c.best_over.ensures) ∙ ap (λ (l : List Journey). best_of_of l a.horizon a.second) c.first-lent.ensures
