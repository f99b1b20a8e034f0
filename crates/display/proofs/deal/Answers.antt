-- Turned away, or dealt: the groups by number, their lists, the shares, the parts.
use mathlib.Core.Path.{sym, ◌∙◌}
use Rattle.display.proofs.DisplayLaws.{turned, dealt}
use Rattle.display.proofs.deal.Goals as goal

pub returns-then-turned_away : goal.returns-then-turned_away
returns-then-turned_away c =
    turned c.args.given.now (sym c.turned_away.ensures ∙ c.if-turned_away.true)

pub returns : goal.returns
returns c =
    dealt c.args.given.now _ _ _ _ _ _ _ _ _ _ _ _ _ (sym c.turned_away.ensures ∙ c.if-turned_away.false)
    c.group_at-a.ensures c.group_at-b.ensures c.group_at-c.ensures c.group_at-d.ensures
    c.count_in.ensures c.count_in-2.ensures c.count_in-3.ensures c.count_in-4.ensures
    c.shares-s.ensures c.part_in.ensures c.part_in-2.ensures c.part_in-3.ensures c.part_in-4.ensures
