-- Refused with 11, or shown.
use mathlib.Core.Path.{sym, ◌∙◌}
use Rattle.display.proofs.PartLaws.{part-refused, part-shown}
use Rattle.display.proofs.part.part_for.Goals as goal

pub returns-then-falls_below : goal.returns-then-falls_below
returns-then-falls_below c =
    part-refused c.args.group.now c.args.share c.listed-list.ensures _ c.window_at-window.ensures
    (sym c.falls_below.ensures ∙ c.if-falls_below.true)

pub returns : goal.returns
returns c =
    part-shown c.args.group.now c.args.share c.listed-list.ensures _ _ c.window_at-window.ensures
    (sym c.falls_below.ensures ∙ c.if-falls_below.false) c.due_by.ensures
