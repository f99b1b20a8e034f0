-- Field after field.
use mathlib.Core.Path.{◌∙◌}
use native.Mathlib.Omega.{arith}
use Rattle.buffer.proofs.PutLaws.{put_then, put_as, put-within}
use Rattle.texts.specs.Texts.{bytes_of}
use Rattle.codec.specs.Shapes.{eight, number, text, both}
use Rattle.codec.specs.Kinds.{degrees_value, stop_body}
use Rattle.codec.specs.Parts.{stop_input_of}
use Rattle.writer.proofs.PutLaws.{option-is, station-is}
use Rattle.writer.proofs.records.StopRecord.put.Goals as goal

pub returns : goal.returns
unfolding stop_body stop_input_of
returns c =
    let s = c.args.self.now in
    let degrees = put_as (option-is (both (number eight) (number eight)) degrees_value s.degrees) c.put_option-3.ensures in
    let rest = put_then c.byte-2.ensures (put_then degrees c.byte-3.ensures) in
    let name = put_as (option-is text bytes_of s.name) c.put_option.ensures in
    let same = option-is text bytes_of c.station_id.result ∙ station-is s c.args.stops.now c.station_id.ensures in
    let station = put_as same c.put_option-2.ensures in
    let p = put_then c.byte.ensures (put_then c.put.ensures (put_then name (put_then station rest))) in
    put-within 65535 (omega (arith, p.small)) p
