-- Entry after entry.
use mathlib.Core.List.{List}
use lib.ListN.{replicate}
use Rattle.laws.proofs.Tables.{Filled}
use Rattle.places.specs.declared.Entry.{Entry}
use Rattle.places.specs.Entries.{blank_entry, entry_at}
use Rattle.places.proofs.entries.entries_of.Given as goal

abbrev pub invariant-loop-i : goal.invariant-loop-i
invariant-loop-i l = Filled (entry_at l.stops) blank_entry 128 (replicate 128 blank_entry) l.entries l.i
