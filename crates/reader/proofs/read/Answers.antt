-- To a fresh reader.
use Rattle.reader.proofs.ReadLaws.{read-all}
use Rattle.reader.proofs.read.Goals as goal

pub returns : goal.returns
returns c = read-all c.args.bytes.now c.fresh-reader.ensures c.is_second.ensures c.read_to-answer.ensures
