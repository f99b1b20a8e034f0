-- The word and its figures.
use Rattle.buffer.proofs.PutLaws.{put_then, put_as}
use Rattle.lines.proofs.RideLaws.{journey-text}
use Rattle.lines.proofs.journeys.put_journey.Goals as goal

pub returns : goal.returns
returns c =
    let p = put_then c.bytes.ensures (rw (c.from.ensures, c.from-2.ensures, c.from-3.ensures, c.from-4.ensures) at c.numbers.ensures) in
    put_as (journey-text c.args.j.now) p
