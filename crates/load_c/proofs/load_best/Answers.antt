-- The file read to a fresh reader: refused, or best.
use mathlib.Core.Path.{sym, ap, ◌∙◌}
use Rattle.file.specs.declared.RecordResult.{RecordResult}
use Rattle.load_c.specs.Best.{times_in}
use Rattle.load_c.proofs.BestLaws.{none-in, found-in}
use Rattle.reader.proofs.ReadLaws.{read-all}
use Rattle.load_c.proofs.load_best.Goals as goal

pub returns-then-is_refused : goal.returns-then-is_refused
returns-then-is_refused c =
    c.times_of.ensures ∙ none-in _ (sym c.is_refused.ensures ∙ c.if-is_refused.true)
    ∙ ap times_in (read-all c.args.bytes.now c.fresh-reader.ensures c.is_second.ensures c.read_to-answer.ensures)

pub returns : goal.returns
returns c =
    c.times_of-2.ensures ∙ found-in _ c.best_of.ensures (sym c.is_refused.ensures ∙ c.if-is_refused.false)
    ∙ ap times_in (read-all c.args.bytes.now c.fresh-reader.ensures c.is_second.ensures c.read_to-answer.ensures)
