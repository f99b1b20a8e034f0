-- The bit patterns of the constants are their decimal numbers: computed.
use Rattle.std.proofs.Common.{refl}
use lib.Ieee.{of_bits, round}
use Rattle.place.specs.Numbers.{Decimals}

pub decimals : Decimals
unfolding of_bits round
decimals = (refl, refl, refl, refl, refl, refl, refl, refl, refl, refl, refl, refl, refl)
