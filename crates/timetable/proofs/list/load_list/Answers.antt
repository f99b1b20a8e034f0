-- By its parts.
use Rattle.std.proofs.Common.{rules}
use Rattle.timetable.proofs.ListLaws.{load-made}
use Rattle.timetable.proofs.list.load_list.Goals as goal

pub returns : goal.returns
returns c =
    load-made c.args.joins c.args.load.now (search rules) c.margin_of.ensures c.unwrap_or.ensures c.state_of.ensures
    c.first-kept.ensures c.rows_of.ensures
