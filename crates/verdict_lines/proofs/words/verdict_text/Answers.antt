-- Word by word.
use mathlib.Core.Path.{refl}
use native.Mathlib.Omega.{arith}
use Rattle.buffer.proofs.PutLaws.{put_then}
use Rattle.verdict_lines.specs.Words.{verdict_text}
use Rattle.verdict_lines.proofs.WordLaws.{verdict-put}
use Rattle.verdict_lines.proofs.words.verdict_text.Goals as goal

pub returns-in-NotFinished : goal.returns-in-NotFinished
unfolding verdict_text
returns-in-NotFinished c = verdict-put c.in-NotFinished.is refl c.bytes.ensures (omega arith)

pub returns-in-Late : goal.returns-in-Late
unfolding verdict_text
returns-in-Late c = verdict-put c.in-Late.is refl c.bytes-in-Late.ensures (omega arith)

pub returns-in-Listed : goal.returns-in-Listed
unfolding verdict_text
returns-in-Listed c = verdict-put c.in-Listed.is refl c.said.ensures (omega arith)

pub returns-in-AsGood : goal.returns-in-AsGood
unfolding verdict_text
returns-in-AsGood c = verdict-put c.in-AsGood.is refl c.said-in-AsGood.ensures (omega arith)

pub returns-in-Beaten : goal.returns-in-Beaten
unfolding verdict_text
returns-in-Beaten c = verdict-put c.in-Beaten.is refl c.said-in-Beaten.ensures (omega arith)

pub returns-in-Uncovered : goal.returns-in-Uncovered
unfolding verdict_text
returns-in-Uncovered c = verdict-put c.in-Uncovered.is refl c.bytes-in-Uncovered.ensures (omega arith)

pub returns-in-Impossible : goal.returns-in-Impossible
unfolding verdict_text
returns-in-Impossible c = verdict-put c.in-Impossible.is refl (put_then c.bytes-in-Impossible.ensures c.cause_text.ensures) (omega arith)
