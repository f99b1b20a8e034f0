-- What is printed between two answers is text.
use denote.Text.{Utf8}
use denote.Shadow.{shadow}
use Rattle.replay.proofs.answers.answers.Given as goal

abbrev pub invariant-loop-b : goal.invariant-loop-b
invariant-loop-b l = shadow (Utf8 l.between)
