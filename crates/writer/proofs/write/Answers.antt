-- 25, 26, or the file.
use mathlib.Core.Path.{sym, ◌∙◌}
use Prim.Native.Nat.{◌≤◌, ◌<◌}
use native.Mathlib.Omega.{arith}
use lib.ListN.{length}
use Rattle.writer.specs.File.{write_spec_of}
use Rattle.writer.proofs.FileLaws.{wrote-barred, wrote-short, wrote-all}
use Rattle.writer.proofs.write.Goals as goal

pub returns-then-is_unwritable : goal.returns-then-is_unwritable
returns-then-is_unwritable c =
    let w = wrote-barred c.args.load c.args.out.now (sym c.is_unwritable.ensures ∙ c.if-is_unwritable.true) in
    record { value = w.0; out_after = w.1 }

pub returns-then-out-put_file : goal.returns-then-out-put_file
returns-then-out-put_file c =
    let a = c.args in
    let h : length a.out.now < length (write_spec_of a.load) = omega (arith, c.put_file.ensures.size, c.if-out-put_file.true) in
    let w = wrote-short a.load a.out.now (sym c.is_unwritable.ensures ∙ c.if-is_unwritable.false) h in
    record { value = w.0; out_after = w.1 }

pub returns : goal.returns
returns c =
    let a = c.args in
    let h : length (write_spec_of a.load) ≤ length a.out.now = omega (arith, c.put_file.ensures.size, c.if-out-put_file.false) in
    let w = wrote-all a.load a.out.now (sym c.is_unwritable.ensures ∙ c.if-is_unwritable.false) c.put_file-2.ensures.size h
    (c.put_file-2.ensures.out_after h) in
    record { value = w.0; out_after = w.1 }
