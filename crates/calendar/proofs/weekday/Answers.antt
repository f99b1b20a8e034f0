-- `weekday` meets its contract: the parts of a date are in range, so no difference falls below 0 and no sum wraps.
use mathlib.Core.Path.{sym, ◌∙◌}
use native.Mathlib.Omega.{arith}
use Rattle.calendar.proofs.Dates.{unread, sizes}
use Rattle.calendar.proofs.weekday.Goals as goal

pub returns-in_default : goal.returns-in_default
returns-in_default c = unread c.args.d (sym c.of.ensures ∙ c.in_default.is)

pub overflow_sub-date : goal.overflow_sub-date
overflow_sub-date c = (sizes c.args.d c.in-Some.date (sym c.of.ensures ∙ c.in-Some.is)).month

pub overflow_sub-date-2 : goal.overflow_sub-date-2
overflow_sub-date-2 c = (sizes c.args.d c.in-Some.date (sym c.of.ensures ∙ c.in-Some.is)).year

pub overflow_add-days : goal.overflow_add-days
overflow_add-days c =
    let s = sizes c.args.d c.in-Some.date (sym c.of.ensures ∙ c.in-Some.is) in
    omega (arith, s.years, s.months, c.months_days-months.ensures, c.from.ensures, c.years_days.ensures)

pub overflow_sub-date-3 : goal.overflow_sub-date-3
overflow_sub-date-3 c = (sizes c.args.d c.in-Some.date (sym c.of.ensures ∙ c.in-Some.is)).day

pub overflow_add-days-2 : goal.overflow_add-days-2
overflow_add-days-2 c =
    let s = sizes c.args.d c.in-Some.date (sym c.of.ensures ∙ c.in-Some.is) in
    omega (arith, s.years, s.months, c.months_days-months.ensures, c.from.ensures, c.years_days.ensures, c.from-2.ensures)

pub returns : goal.returns
returns c =
    rw (c.from-2.ensures, c.from.ensures, c.months_days-months.ensures, c.years_days.ensures)
    (sizes c.args.d c.in-Some.date (sym c.of.ensures ∙ c.in-Some.is)).weekday
