-- The lines stand at the start of the buffer.
use mathlib.Core.Path.{sym, ◌∙◌}
use borrow.Author.Rules.{rules}
use Rattle.verdict_lines.proofs.LineLaws.{put-short, put-counted, put-most, put-fits}
use Rattle.verdict_lines.proofs.verdict_lines.Goals as goal

pub returns-clause-out_after : goal.returns-clause-out_after
returns-clause-out_after c h =
    let s = sym c.new-text.ensures.same ∙ sym c.put_lines.ensures.same in
    put-fits c.put_lines.ensures c.new-text.ensures.empty h (search (rules, s))

pub returns-clause-short : goal.returns-clause-short
returns-clause-short c =
    let s = sym c.new-text.ensures.same ∙ sym c.put_lines.ensures.same in
    let e = put-short c.put_lines.ensures c.new-text.ensures.empty in
    search (rules, s) ∙ (rw c.new-text.ensures.bytes at e)

pub returns-clause-counted : goal.returns-clause-counted
returns-clause-counted c = put-counted c.put_lines.ensures c.new-text.ensures.empty

pub returns-clause-most : goal.returns-clause-most
returns-clause-most c = put-most c.put_lines.ensures c.new-text.ensures.empty
