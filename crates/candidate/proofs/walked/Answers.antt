-- `walked` meets its contract: passed over where the walk says so; else what o covers from where it stops goes, and o is added.
use mathlib.Core.Path.{refl}
use native.Mathlib.Omega.{arith}
use Rattle.search_state.proofs.ViewLaws.{few}
use Rattle.std.proofs.Common.{rules}
use Rattle.profile.specs.Journeys.{cov}
use Rattle.candidate.specs.Pieces.{uncovered}
use Rattle.candidate.proofs.StepLaws.{packs-from}
use Rattle.candidate.proofs.TurnLaws.{place_of, end-ok, end-err}
use Rattle.candidate.proofs.OfferLaws.{offered-passed, offered-added, packed-open}
use Rattle.candidate.proofs.walked.Goals as goal

pub first_near-requires : goal.first_near-requires
first_near-requires c =
    let p = c.requires in
    (few _ _ p.2, p.3)

pub returns-in-Ok : goal.returns-in-Ok
returns-in-Ok c =
    let p = c.requires in
    let e = end-ok _ _ c.first_near.ensures c.in-Ok.is in
    offered-passed _ _ p.0 p.1 _ _ p.2 (e.0) _ refl e.1

pub pack-n-requires : goal.pack-n-requires
pack-n-requires c =
    let p = c.requires in
    let e = end-err _ _ c.first_near.ensures c.in-Err.is in
    let w = packs-from _ _ _ _ p.2 (place_of _ _ e.1) c.told-st in
    (search rules, omega arith, w.1, w.2)

pub added-requires : goal.added-requires
unfolding uncovered cov
added-requires c =
    let p = c.requires in
    let e = end-err _ _ c.first_near.ensures c.in-Err.is in
    let w = c.pack-n.ensures (uncovered c.args.o) (search rules) (packs-from _ _ _ _ p.2 (place_of _ _ e.1) c.told-st).0 in
    (packed-open _ _ _ _ _ p.0 w, omega (arith, w.small, few _ _ p.2))

pub returns-in-Err : goal.returns-in-Err
unfolding uncovered cov
returns-in-Err c =
    let p = c.requires in
    let e = end-err _ _ c.first_near.ensures c.in-Err.is in
    let w = c.pack-n.ensures (uncovered c.args.o) (search rules) (packs-from _ _ _ _ p.2 (place_of _ _ e.1) c.told-st).0 in
    offered-added _ _ p.0 p.1 _ _ p.2 e.0 _ _ _ refl w c.added.ensures
