-- Best's answer as one number, of a file that is refused or not.
use Rattle.std.specs.Prelude.{None, Option, pos}
use mathlib.Core.Path.{◌≡◌, ap, sym, ◌∙◌}
use mathlib.Core.Bool.{true, false}
use Rattle.laws.proofs.Bools.{cond-by, cond-not}
use Rattle.refusal.specs.First.{is_refused}
use Rattle.profile.specs.declared.Journey.{Journey}
use Rattle.best.specs.Best.{best_spec}
use Rattle.file.specs.declared.RecordResult.{RecordResult}
use Rattle.load_c.specs.Best.{times_of, times_in}

pub none-in : (t : RecordResult) → is_refused t.answer ≡ true → times_of None ≡ times_in t
unfolding times_in
none-in t e = ap times_of (sym (cond-by _ _ e))

pub found-in : (t : RecordResult) {j : Option Journey} → j ≡ best_spec t.reader.load (pos 0) → is_refused t.answer ≡ false → times_of j
    ≡ times_in t
unfolding times_in
found-in t is e = ap times_of (is ∙ sym (cond-not _ _ e))
