-- A NaN is above the infinity, its sign apart.
use mathlib.Core.Path.{sym}
use lib.Ieee.{binary64}
use lib.Ieee.Bits.{nan_bits_above}
use Rattle.fields.proofs.numbers.is_nan.Goals as goal

pub returns : goal.returns
returns c = sym (nan_bits_above binary64 c.args.bits)
