-- A number that stands twice, or a group that is wrong.
use mathlib.Core.Path.{sym, ap, ◌∙◌}
use lib.IntN.{ℤ}
use mir.Syntax.{w64}
use Rattle.laws.specs.Lists.{anyb}
use Rattle.laws.proofs.Bools.{or-by, or-not}
use Rattle.laws.proofs.Ints.{again}
use Rattle.groups.specs.Refused.{is_wrong, turned_away}
use Rattle.groups.proofs.turned_away.Goals as goal

pub returns-then-given_twice : goal.returns-then-given_twice
unfolding turned_away
returns-then-given_twice c = c.if-given_twice.true ∙ sym (or-by _ (sym c.given_twice.ensures ∙ c.if-given_twice.true))

pub returns-else-given_twice : goal.returns-else-given_twice
unfolding turned_away
returns-else-given_twice c =
    c.any_wrong.ensures
    ∙ ap (λ (z : ℤ). anyb (is_wrong z) c.args.given.now) (again {w = w64} (record { sfits = c.lowest_start.type_inv })
    ∙ c.lowest_start.ensures)
    ∙ sym (or-not _ (sym c.given_twice.ensures ∙ c.if-given_twice.false))
