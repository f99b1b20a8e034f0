-- The one NaN.
use mathlib.Core.Path.{◌∙◌, sym}
use Rattle.writer.proofs.NumberLaws.{nan-bits}
use Rattle.writer.proofs.records.bits.Goals as goal

pub returns-then-is_nan : goal.returns-then-is_nan
returns-then-is_nan c = nan-bits _ (sym c.is_nan.ensures.value ∙ c.if-is_nan.true)
