-- A load that 25 does not meet can be written, and so the load at the end of any list of steps is read as it was.
use Prim.Native.Nat.{ℕ, ◌≤◌}
use mathlib.Core.Path.{◌≡◌}
use mathlib.Core.Bool.{Bool, true, false, ◌||◌}
use native.Mathlib.Omega.{arith}
use lib.Dec.{ltb}
use borrow.Author.Tests.{ltb-false}
use Rattle.laws.specs.Lists.{one_of}
use Rattle.laws.proofs.Bools.{or-false-left, or-false-right}
use Rattle.laws.proofs.Every.{one-of}
use Rattle.calls.specs.Sound.{horizons}
use Rattle.load.specs.Load.{stopped}
use Rattle.steps.specs.Lists.{end_of}
use Rattle.writer.specs.Wrote.{unwritable}
use Rattle.written.proofs.EndLaws.{end_whole}
use Rattle.saved.specs.Saved.{PassesWritable, EndReadsBack}
use Rattle.saved.proofs.SearchedLaws.{reads-back}
use Rattle.week.specs.Weeks.{is_dated}

-- no table has a horizon above 21600
no-higher : (h : ℕ) → one_of h horizons ≡ true → h ≤ 21600
no-higher h e = one-of h (λ (n : ℕ). n ≤ 21600) horizons e
    (omega arith, (omega arith, (omega arith, (omega arith, (omega arith, (omega arith, (omega arith, tt)))))))

never-cut : (dated stopped : Bool) (h : ℕ) → unwritable dated stopped h ≡ false → one_of h horizons ≡ true → h ≡ 21600
unfolding unwritable
never-cut dated stopped h e k = omega (
  arith,
  no-higher h k,
  ltb-false h 21600 (or-false-right stopped (ltb h 21600) (or-false-right dated (stopped || ltb h 21600) e)),
)

no-dates : (dated stopped : Bool) (h : ℕ) → unwritable dated stopped h ≡ false → dated ≡ false
unfolding unwritable
no-dates dated stopped h e = or-false-left dated (stopped || ltb h 21600) e

not_stopped : (dated stopped : Bool) (h : ℕ) → unwritable dated stopped h ≡ false → stopped ≡ false
unfolding unwritable
not_stopped dated stopped h e = or-false-left stopped (ltb h 21600) (or-false-right dated (stopped || ltb h 21600) e)

pub passes-writable : PassesWritable
passes-writable l w p = record {
  whole = w;
  dateless = no-dates (is_dated l.week) (stopped l) l.table_horizon p;
  unstopped = not_stopped (is_dated l.week) (stopped l) l.table_horizon p;
  uncut = never-cut (is_dated l.week) (stopped l) l.table_horizon p w.own.sound.table.known;
}

pub end-reads-back : EndReadsBack
end-reads-back o xs w g p = reads-back (end_of o xs) (passes-writable (end_of o xs) (end_whole o xs w g) p)
