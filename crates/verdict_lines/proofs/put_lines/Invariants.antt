-- Line after line.
use Prim.Native.Nat.{◌*◌}
use lib.ListN.{take}
use Rattle.laws.specs.Lists.{concat_map}
use Rattle.buffer.specs.Put.{Put}
use Rattle.verdict_lines.specs.Lines.{connection_line}
use Rattle.verdict_lines.proofs.put_lines.Given as goal

abbrev pub invariant-loop-connection : goal.invariant-loop-connection
invariant-loop-connection l =
    Put (101 * l.connection-index) (concat_map (connection_line l.load) (take l.connection-index l.connections)) l.initial.out l.out
