-- By its rows.
use Rattle.timetable.proofs.ListLaws.{refused-made}
use Rattle.timetable.proofs.list.refused_list.Goals as goal

pub returns : goal.returns
returns c = refused-made c.args.number c.rows_of.ensures
