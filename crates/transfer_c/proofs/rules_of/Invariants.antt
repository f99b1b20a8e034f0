-- The rules read so far.
use lib.ListN.{replicate}
use Rattle.laws.proofs.Tables.{Filled}
use Rattle.rules.specs.Rules.{blank_rule}
use Rattle.transfer_c.specs.Flat.{rule_at}
use Rattle.transfer_c.proofs.rules_of.Given as goal

abbrev pub invariant-loop-i : goal.invariant-loop-i
invariant-loop-i l = Filled (rule_at l.flat) blank_rule 128 (replicate 128 blank_rule) l.rules l.i
