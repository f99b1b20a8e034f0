-- By the answer.
use mathlib.Core.Path.{sym}
use Rattle.lines.proofs.RideLaws.{accepted-put, refused-put}
use Rattle.lines.proofs.answer_lines.Goals as goal

pub returns-in-Ok : goal.returns-in-Ok
returns-in-Ok c = accepted-put c.args.rides c.args.load.now c.in-Ok.is c.load_lines.ensures

pub returns-in-Err : goal.returns-in-Err
returns-in-Err c = refused-put c.args.rides c.args.load.now c.in-Err.is (sym c.from.ensures) c.refused_line.ensures
