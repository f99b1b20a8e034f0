-- Field after field.
use mathlib.Core.Path.{◌≡◌, ap, ◌∙◌}
use Prim.Native.Nat.{◌≤◌}
use native.Mathlib.Omega.{arith}
use mir.Syntax.{w64}
use mir.Val.{of_z}
use lib.ListN.{length, take, length-take}
use borrow.Author.Rules.{rules}
use Rattle.laws.proofs.Ints.{again}
use Rattle.buffer.proofs.PutLaws.{put_then, put-within}
use Rattle.codec.specs.Kinds.{settings_body, unsigned_of}
use Rattle.codec.specs.Parts.{at_start}
use Rattle.writer.proofs.NumberLaws.{unsigned-is}
use Rattle.writer.proofs.records.SettingsRecord.put.Goals as goal

pub returns : goal.returns
unfolding settings_body at_start
returns c =
    let s = c.args.self.now in
    let start : c.cast_unsigned-start.result ≡ unsigned_of s.now =
    c.cast_unsigned-start.ensures ∙ ap (of_z w64) (again {w = w64} {z = s.now} (record { sfits = search rules })) ∙ unsigned-is s.now in
    let o : c.first.result.now ≡ take s.origins s.origin_walks = c.first.ensures ∙ ap (λ n. take n s.origin_walks) c.from.ensures in
    let t : c.first-2.result.now ≡ take s.targets s.target_walks = c.first-2.ensures ∙ ap (λ n. take n s.target_walks) c.from-2.ensures in
    let times = rw start at (put_then c.u64.ensures (put_then c.u64-2.ensures (put_then c.u64-3.ensures c.u64-4.ensures))) in
    let walks = rw (o, t) at (put_then c.bytes.ensures
    (put_then c.bytes-2.ensures (put_then c.u16.ensures (put_then c.byte-4.ensures times)))) in
    let p = put_then c.byte.ensures (put_then c.byte-2.ensures (put_then c.byte-3.ensures walks)) in
    let a : length s.origin_walks ≤ 255 = omega arith in
    let b : length s.target_walks ≤ 255 = omega arith in
    put-within 65535 (omega (arith, p.small, length-take s.origins s.origin_walks, length-take s.targets s.target_walks)) p
