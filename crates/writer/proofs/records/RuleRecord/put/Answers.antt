-- Field after field.
use native.Mathlib.Omega.{arith}
use Rattle.buffer.proofs.PutLaws.{put_then, put_as, put-within}
use Rattle.codec.specs.Kinds.{rule_body}
use Rattle.writer.proofs.PutLaws.{number-is}
use Rattle.writer.proofs.records.RuleRecord.put.Goals as goal

pub returns : goal.returns
unfolding rule_body
returns c =
    let seconds = put_as (number-is c.args.self.now.seconds) c.put_option.ensures in
    let p = put_then c.byte.ensures (put_then c.u16.ensures (put_then c.u16-2.ensures (put_then c.byte-2.ensures seconds))) in
    put-within 65535 (omega (arith, p.small)) p
