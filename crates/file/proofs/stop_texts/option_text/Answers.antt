-- From its first byte up to the next field.
use Rattle.file.proofs.StopLaws.{text-given}
use Rattle.file.proofs.stop_texts.option_text.Goals as goal

pub returns : goal.returns
returns c = text-given _ _ _ c.requires.1 c.has_at.ensures c.part.ensures c.then_some.ensures
