-- The record, then its length in front.
use mathlib.Core.Path.{refl}
use Rattle.writer.proofs.PutLaws.{put-framed}
use Rattle.writer.proofs.file.put_record.Goals as goal

pub returns : goal.returns
returns g c = put-framed refl c.saturating_add-from.ensures c.put.ensures refl refl refl c.u16.ensures refl refl
