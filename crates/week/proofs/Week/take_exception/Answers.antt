-- The service at its place marked, or the week as it was.
use Prim.Native.Nat.{◌<◌}
use mathlib.Core.Path.{refl}
use native.Mathlib.Omega.{arith}
use Rattle.std.proofs.lemmas.Result.{err_from_is_err_and}
use Rattle.week.proofs.Held.{exception-answered}
use Rattle.week.proofs.StepLaws.{found-place, found-below, found-service, exception-taken, exception-refused}
use Rattle.week.proofs.Week.take_exception.Goals as goal
use Rattle.week.proofs.Week.take_exception.Goals.{After-days_on-days}

pub returns-in_err-at : goal.returns-in_err-at
returns-in_err-at c =
    let a = c.args in
    let w = a.self.now in
    let h = exception-answered w _ c.taken.ensures a.searched a.name.now _ a.input.date a.input.kind c.in_err-at.ensures.answer in
    let p = err_from_is_err_and c.from_residual.result c.from_residual.ensures.1 in
    rw (p.1, p.2) (exception-refused w _ _ _ _ _ h refl)

-- a service that is known stands in one of the slots
fits : (c : After-days_on-days) → c.in_ok-at.at < 64
fits c = omega (arith, found-below c.args.self.now c.args.name.now _ _ c.taken.ensures (c.in_ok-at.ensures.place _ refl))

pub offset_bounds-self-at : goal.offset_bounds-self-at
offset_bounds-self-at c = omega (arith, fits c)

pub bounds-self-at : goal.bounds-self-at
bounds-self-at c = omega (arith, found-below c.args.self.now c.args.name.now _ _ c.taken.ensures (c.in_ok-at.ensures.place _ refl))

pub returns : goal.returns
returns c =
    let a = c.args in
    let w = a.self.now in
    let f = c.in_ok-at.ensures.place _ refl in
    let h = exception-answered w _ c.taken.ensures a.searched a.name.now _ a.input.date a.input.kind c.in_ok-at.ensures.answer in
    exception-taken w _ _ _ _ _ h _ _ _ _ refl (found-place w a.name.now _ _ c.taken.ensures f)
    (found-service w a.name.now _ _ c.taken.ensures f _) c.days_on-days.ensures
    c.excepted.ensures
