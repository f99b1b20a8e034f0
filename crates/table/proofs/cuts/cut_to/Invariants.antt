-- The loop packs the calls due by the horizon, trimmed, and leaves blanks.
use lib.ListN.{take}
use Rattle.laws.proofs.Pack.{Packs}
use Rattle.calls.specs.Tables.{blank_call, due_by, trim}
use Rattle.table.proofs.cuts.cut_to.Given as goal

abbrev pub invariant-loop-call : goal.invariant-loop-call
invariant-loop-call l = Packs (due_by l.h) (trim l.h) blank_call 512 (take l.fn.t.count l.fn.t.calls) l.call-index l.count l.calls
