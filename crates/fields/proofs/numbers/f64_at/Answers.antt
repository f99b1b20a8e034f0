-- A NaN's pattern is the one NaN.
use mathlib.Core.Path.{sym, ap, ◌∙◌}
use lib.Ieee.{binary64, of_bits}
use Rattle.fields.proofs.NumberLaws.{nan-is, nan-of}
use Rattle.fields.proofs.numbers.f64_at.Goals as goal

pub returns-then-is_nan : goal.returns-then-is_nan
returns-then-is_nan c = sym nan-is ∙ nan-of _ (sym c.is_nan.ensures ∙ c.if-is_nan.true) ∙ ap (of_bits binary64) c.u64_at-bits.ensures
