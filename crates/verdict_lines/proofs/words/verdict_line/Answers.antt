-- The text, then the line's end.
use Rattle.buffer.proofs.PutLaws.{put_then}
use Rattle.verdict_lines.specs.Words.{verdict_line}
use Rattle.verdict_lines.proofs.words.verdict_line.Goals as goal

pub returns : goal.returns
unfolding verdict_line
returns c = put_then c.verdict_text.ensures c.byte.ensures
