-- Line after line.
use Prim.Native.Nat.{◌*◌}
use lib.ListN.{take}
use Rattle.laws.specs.Lists.{concat_map}
use Rattle.buffer.specs.Put.{Put}
use Rattle.lines.specs.Rides.{line_for, line_most}
use Rattle.lines.proofs.journeys.journey_lines.Given as goal

abbrev pub invariant-loop-j : goal.invariant-loop-j
invariant-loop-j l = Put (line_most l.rides * l.j-index) (concat_map (line_for l.rides) (take l.j-index l.journeys)) l.initial.out l.out
