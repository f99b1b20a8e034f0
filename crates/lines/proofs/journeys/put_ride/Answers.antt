-- The bar and its figures.
use mathlib.Core.Path.{◌∙◌}
use Rattle.buffer.proofs.PutLaws.{put_then, put_as}
use Rattle.lines.proofs.RideLaws.{flag, ride-text}
use Rattle.lines.proofs.journeys.put_ride.Goals as goal

pub returns : goal.returns
returns c =
    let board = c.from-2.ensures ∙ flag c.args.r.now.board_request in
    let alight = c.from-3.ensures ∙ flag c.args.r.now.alight_request in
    put_as (ride-text c.args.r.now) (put_then c.bytes.ensures (rw (c.from.ensures, board, alight) at c.numbers.ensures))
