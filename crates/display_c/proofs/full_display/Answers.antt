-- Four groups, a display of them, the last part.
use Rattle.display_c.proofs.FullLaws.{window-of}
use Rattle.display_c.proofs.full_display.Goals as goal

pub returns : goal.returns
returns c =
    window-of _ _ _ _ _ _ _ _ _ _ _ c.full_group.ensures c.full_group-2.ensures c.full_group-3.ensures c.full_group-4.ensures
    c.deal.ensures c.part_of.ensures c.window_to.ensures
