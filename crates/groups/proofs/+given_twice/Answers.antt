-- The first stands again behind itself, or those behind it have a number twice.
use mathlib.Core.Path.{sym, ◌∙◌}
use Rattle.laws.proofs.Bools.{or-by, or-not}
use Rattle.groups.proofs.GroupLaws.{twice-cut, twice-none}
use Rattle.groups.proofs.+given_twice.Goals as goal

pub returns-in-empty : goal.returns-in-empty
returns-in-empty t c = twice-none c.args.given.now c.in-empty.len_below

pub returns-then-has_number : goal.returns-then-has_number
returns-then-has_number t c =
    let found = sym c.has_number.ensures ∙ c.if-has_number.true in
    c.if-has_number.true ∙ sym (twice-cut c.args.given.now _ c.in-len1-up.len_at_least ∙ or-by _ found)

pub returns-else-has_number : goal.returns-else-has_number
returns-else-has_number t c =
    let missed = sym c.has_number.ensures ∙ c.if-has_number.false in
    c.given_twice.ensures ∙ sym (twice-cut c.args.given.now _ c.in-len1-up.len_at_least ∙ or-not _ missed)
