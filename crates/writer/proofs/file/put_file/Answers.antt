-- The file stands at the start of the buffer.
use mathlib.Core.Path.{◌≡◌, sym, ◌∙◌}
use mathlib.Core.List.{List}
use Prim.Native.Nat.{ℕ}
use borrow.Author.Rules.{rules}
use lib.Seq.{sets}
use Rattle.buffer.specs.declared.Buffer.{Buffer}
use Rattle.buffer.specs.Put.{Put}
use Rattle.buffer.proofs.PutLaws.{put-all}
use Rattle.writer.proofs.file.put_file.Goals as goal

pub returns-clause-out_after : goal.returns-clause-out_after
returns-clause-out_after c h =
    let s = sym c.new-file.ensures.same ∙ sym c.put_parts.ensures.same in
    let e = rw c.new-file.ensures.bytes at (put-all c.put_parts.ensures c.new-file.ensures.empty (rw c.new-file.ensures.bytes h)) in
    search (rules, s) ∙ e

put-short : {m : ℕ} {xs : List ℕ} {a b : Buffer} → Put m xs a b → a.len ≡ 0 → b.out.now ≡ sets a.out.now 0 xs
put-short p start = rw start at p.stored

pub returns-clause-short : goal.returns-clause-short
returns-clause-short c =
    let s = sym c.new-file.ensures.same ∙ sym c.put_parts.ensures.same in
    let e = put-short c.put_parts.ensures c.new-file.ensures.empty in
    search (rules, s) ∙ (rw c.new-file.ensures.bytes at e)
