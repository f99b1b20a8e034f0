-- What is not read yet stands inside what the buffer holds; reading it on gives what reading the whole gives.
use Rattle.std.proofs.Common.{◌≡◌, ◌≤◌, ◌<◌, length, take, drop, slice_range}
use Rattle.std.specs.Io.KnownBytes.{IsAtEnd}
use Rattle.parts.proofs.InputLaws.{Reads}
use Rattle.parts.proofs.records.Given as goal

abbrev pub invariant-loop : goal.invariant-loop
invariant-loop g l = record {
  same : length l.buf ≡ length l.initial.buf;
  at : l.at ≤ l.held;
  held : l.held ≤ length l.buf;
  end : l.held < length l.buf → IsAtEnd (g.R.Read.remaining l.input);
  reads :
      Reads (g.R.Read.remaining l.fn.input) (g.R.Read.remaining l.input) l.fn.reader (drop 1 (take l.first l.fn.buf)) l.reader
      (slice_range l.buf l.at l.held);
}
