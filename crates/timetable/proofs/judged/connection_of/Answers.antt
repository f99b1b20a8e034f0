-- By its legs.
use Rattle.timetable.proofs.VerdictLaws.{connection-made}
use Rattle.timetable.proofs.judged.connection_of.Goals as goal

pub returns : goal.returns
returns c = connection-made c.args.c.now c.leg_of.ensures c.leg_of-2.ensures c.leg_of-3.ensures
