-- `turn_at` meets its contract, test by test.
use Rattle.candidate.proofs.TurnLaws.{turn-early, turn-same, turn-later, turn_end}
use Rattle.candidate.proofs.walk.turn_at.Goals.{else-i-c-via-then-i-c+else-row_ranks, else-i-c-via-else-i-c}
use Rattle.candidate.proofs.walk.turn_at.Goals as goal

pub returns-then-offer_ranks : goal.returns-then-offer_ranks
returns-then-offer_ranks c =
    let p = c.requires in
    rw c.if-offer_ranks.true at (turn-early _ _ _ _ _ p.1 p.2 p.3 _ c.offer_ranks.ensures c.if-st-at.true)

pub returns-then-st-at : goal.returns-then-st-at
returns-then-st-at c =
    let p = c.requires in
    rw c.if-offer_ranks.false at (turn-early _ _ _ _ _ p.1 p.2 p.3 _ c.offer_ranks.ensures c.if-st-at.true)

pub returns-then-row_ranks : goal.returns-then-row_ranks
returns-then-row_ranks c =
    let p = c.requires in
    rw c.if-row_ranks.true at (turn-same _ _ _ _ _ p.1 p.2 p.3 _ c.row_ranks.ensures c.if-st-at-2.true c.if-i-c.true)

pub returns-then-st-at-2 : goal.returns-then-st-at-2
returns-then-st-at-2 c =
    let p = c.requires in
    elim c.else-i-c.branch [
      | else-i-c-via-then-i-c+else-row_ranks w ↦
          rw w.if-row_ranks.false at (turn-same _ _ _ _ _ p.1 p.2 p.3 _ w.row_ranks.ensures c.if-st-at-2.true w.if-i-c.true)
      | else-i-c-via-else-i-c w ↦ turn_end _ _ _ _ w.if-i-c.false
    ]

pub returns-then-row_ranks-2 : goal.returns-then-row_ranks-2
returns-then-row_ranks-2 c =
    let p = c.requires in
    rw c.if-row_ranks-2.true at (turn-later _ _ _ _ _ p.1 p.2 p.3 _ c.row_ranks-2.ensures c.if-st-at.false c.if-st-at-2.false)

pub returns : goal.returns
returns c =
    let p = c.requires in
    rw c.if-row_ranks-2.false at (turn-later _ _ _ _ _ p.1 p.2 p.3 _ c.row_ranks-2.ensures c.if-st-at.false c.if-st-at-2.false)
