-- `overflow` meets its contract: refused below 3601, else the horizon falls.
use mathlib.Core.Path.{refl}
use native.Mathlib.Omega.{arith}
use Rattle.candidate.proofs.OfferLaws.{refused_all}
use Rattle.candidate.proofs.overflow.Goals as goal

pub returns-then-late-le-LEAST_HORIZON : goal.returns-then-late-le-LEAST_HORIZON
returns-then-late-le-LEAST_HORIZON c = refused_all _ _ _ c.told-st c.latest-late.ensures (omega (arith, c.if-late-le-LEAST_HORIZON.true)) refl
