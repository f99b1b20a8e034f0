-- `fall` meets its contract: of 65 rows those due by h stay, which are at most 64.
use mathlib.Core.Path.{refl}
use native.Mathlib.Omega.{arith}
use Rattle.std.proofs.Common.{rules}
use Rattle.profile.specs.Journeys.{due}
use Rattle.candidate.specs.Pieces.{Open, in_time}
use Rattle.candidate.proofs.StepLaws.{packed_none}
use Rattle.candidate.proofs.OfferLaws.{fallen-all}
use Rattle.candidate.proofs.fall.Goals as goal

pub overflow_cast-st : goal.overflow_cast-st
unfolding in_time due
overflow_cast-st c =
    let w = c.pack-n.ensures (in_time c.args.h) (search rules) (packed_none _ _ c.told-st) in
    omega (arith, w.small)

pub returns : goal.returns
unfolding Open in_time due
returns c =
    let p = c.requires in
    fallen-all _ _ _ _ _ p.0 p.1 p.2 (c.pack-n.ensures (in_time c.args.h) (search rules) (packed_none _ _ c.told-st)) refl
