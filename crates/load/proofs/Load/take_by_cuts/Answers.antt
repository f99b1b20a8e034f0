-- The table that the call leaves, or the load as it was.
use mathlib.Core.Path.{refl}
use Rattle.std.proofs.lemmas.Result.{err_from_is_err_and}
use Rattle.load.proofs.StepLaws.{call-refused, call-taken}
use Rattle.load.proofs.Load.take_by_cuts.Goals as goal

pub returns-in_err-fitted : goal.returns-in_err-fitted
returns-in_err-fitted c =
    let p = err_from_is_err_and c.from_residual.result c.from_residual.ensures.1 in
    rw (p.1, p.2) (call-refused c.args.self.now _ _ c.in_err-fitted.ensures refl)

pub returns : goal.returns
returns c = call-taken c.args.self.now _ _ c.in_ok-fitted.ensures refl
