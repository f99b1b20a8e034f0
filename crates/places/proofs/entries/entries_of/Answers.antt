-- Entry after entry.
use mathlib.Core.Path.{sym, subst}
use native.Mathlib.Omega.{arith}
use lib.ListN.{replicate}
use Rattle.laws.proofs.Tables.{Filled, filled_none, filled_more}
use Rattle.places.specs.declared.Entry.{Entry}
use Rattle.places.specs.Entries.{blank_entry, entry_at}
use Rattle.places.proofs.Numbers.{front}
use Rattle.places.proofs.entries.entries_of.Goals as goal

pub loop-i-init : goal.loop-i-init
loop-i-init c =
    subst (λ (e : Entry). Filled (entry_at c.args.stops.now) blank_entry 128 (replicate 128 blank_entry) (replicate 128 e) 0)
    (sym c.blank_entry-entries.ensures) (filled_none _ _ 128 _ (omega arith))

pub loop-i-preserved : goal.loop-i-preserved
loop-i-preserved c = filled_more _ _ 128 _ c.loop-i.entries c.loop-i.i _ c.loop-i.invariant (omega arith) c.entry_at.ensures

pub returns : goal.returns
returns c = front c.args.stops.now c.loop-i.entries c.loop-i.i (omega arith) c.requires c.loop-i.invariant
