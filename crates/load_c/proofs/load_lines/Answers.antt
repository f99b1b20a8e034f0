-- The file read to a fresh reader.
use mathlib.Core.Path.{ap, ◌∙◌}
use Rattle.file.specs.declared.RecordResult.{RecordResult}
use Rattle.lines.specs.Lines.{lines_of}
use Rattle.reader.proofs.ReadLaws.{read-all}
use Rattle.load_c.proofs.load_lines.Goals as goal

pub returns : goal.returns
returns c =
    c.lines_of.ensures.out_after
    ∙ ap (λ (t : RecordResult). lines_of t.answer t.reader.load) (read-all c.args.bytes.now c.fresh-reader.ensures c.is_second.ensures c.read_to-answer.ensures)
