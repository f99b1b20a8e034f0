-- Each turn leaves less of the buffer to fill; what is filled stays within it, and is what was read.
use Rattle.std.proofs.Common.{◌≡◌, ◌≤◌, ◌-◌, length, take}
use Rattle.std.specs.Io.KnownBytes.{Consumes}
use Rattle.stdio.proofs.input.full.Given as goal

abbrev pub invariant-loop-done : goal.invariant-loop-done
invariant-loop-done g l = record {
  same : length l.buf ≡ length l.initial.buf;
  within : l.done ≤ length l.buf;
  read : Consumes (g.R.Read.remaining l.fn.from) (g.R.Read.remaining l.from) (take l.done l.buf);
}

abbrev pub decreases-loop-done : goal.decreases-loop-done
decreases-loop-done g l = length l.initial.buf - l.done
