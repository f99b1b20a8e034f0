-- `store` meets its contract: a row stored where it stands changes nothing.
use Rattle.candidate.specs.Pieces.{put_row}
use Rattle.candidate.proofs.PutLaws.{put-there}
use Rattle.candidate.proofs.store.Goals as goal

pub returns-then-n-i : goal.returns-then-n-i
unfolding put_row
returns-then-n-i c = c.put_row.ensures

pub returns-else-n-i : goal.returns-else-n-i
returns-else-n-i c = put-there _ _ _ _ c.if-n-i.false c.requires.1
