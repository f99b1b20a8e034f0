-- Line after line.
use native.Mathlib.Omega.{arith}
use Rattle.buffer.proofs.PutLaws.{put-none, put-turn, put-each, put-within}
use Rattle.lines.specs.Rides.{line_for, line_most}
use Rattle.lines.proofs.journeys.journey_lines.Goals as goal

pub loop-j-init : goal.loop-j-init
loop-j-init c = put-within _ (omega arith) (put-none _)

pub loop-j-preserved : goal.loop-j-preserved
loop-j-preserved c =
    let L = c.loop-j in
    put-turn (line_for _) _ L.j-index _ (omega arith) L.invariant c.journey_line.ensures

pub returns : goal.returns
returns c = put-each (line_most _) (line_for _) c.args.journeys.now c.loop-j.j-index (omega arith) c.loop-j.invariant
