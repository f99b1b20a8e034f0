-- `month_days` meets its contract: February by the kind of its year; the check finds the other months.
use mathlib.Core.Path.{sym, ◌∙◌}
use Rattle.calendar.proofs.Months.{days_february}
use Rattle.calendar.proofs.month_days.Goals as goal

pub returns-in-2 : goal.returns-in-2
returns-in-2 c = rw c.in-2.is (sym (days_february _ _ (sym c.leap.ensures ∙ c.if-leap.true)))

pub returns-in-2-2 : goal.returns-in-2-2
returns-in-2-2 c = rw c.in-2.is (sym (days_february _ _ (sym c.leap.ensures ∙ c.if-leap.false)))
