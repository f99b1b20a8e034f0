-- Leg by leg.
use Rattle.connection.proofs.TestLaws.{legs-chain}
use Rattle.connection.proofs.legs.legs_cause.Goals as goal

pub returns : goal.returns
returns c =
    let a = c.args in
    legs-chain a.n a.legs a.way.now c.leg_cause.ensures c.leg_cause-2.ensures c.or.ensures c.leg_cause-3.ensures c.or-2.ensures
