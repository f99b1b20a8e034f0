-- By its parts.
use Rattle.std.proofs.Common.{rules}
use Rattle.timetable.proofs.GroupLaws.{group-made}
use Rattle.timetable.proofs.shown.group_of.Goals as goal

pub returns : goal.returns
returns c = group-made c.args.number c.args.list.now (search rules) c.from.ensures c.journeys_of-journeys.ensures
