-- The calls of request 14 are steps of a list: no load among them is searched.
use mathlib.Core.Path.{◌≡◌, ◌∙◌}
use mathlib.Core.Bool.{false}
use mathlib.Core.List.{List, [], ◌∷◌}
use Rattle.laws.proofs.Bools.{cond-not}
use Rattle.load.specs.declared.Load.{Load}
use Rattle.load.specs.Steps.{opened}
use Rattle.load.specs.FillStep.{FillStep, call, filled, filled_by}
use Rattle.again.specs.Again.{add_spec_of}
use Rattle.steps.proofs.StepLaws.{filled-searched}
use Rattle.steps.proofs.HeldLaws.{opened_new}
use Rattle.any_order.specs.Calls.{Named, calling, called}
use Rattle.any_order.specs.AnyOrder.{SteppedAlike}

filled-unsearched : (l : Load) (fs : List FillStep) → l.searched ≡ false → (filled_by l fs).searched ≡ false
filled-unsearched l [] e = e
filled-unsearched l (x ∷ xs) e = filled-unsearched (filled l x).load xs (filled-searched l x ∙ e)

called-unsearched : (l : Load) (cs : List Named) → l.searched ≡ false → (called l cs).searched ≡ false
called-unsearched l [] e = e
called-unsearched l (c ∷ cs) e = called-unsearched (calling l c).load cs (filled-searched l (call c.0 c.1) ∙ e)

pub stepped-alike : SteppedAlike
unfolding add_spec_of
stepped-alike o fs cs c = cond-not _ _ (called-unsearched (filled_by (opened o) fs) cs (filled-unsearched (opened o) fs (opened_new o)))
