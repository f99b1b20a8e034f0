-- The first rules are read; those behind them are taken by no one.
use mathlib.Core.Path.{◌≡◌, sym, ◌∙◌}
use mathlib.Core.List.{List}
use Prim.Native.Nat.{ℕ, ◌<◌}
use native.Mathlib.Omega.{arith}
use lib.ListN.{take, length-take, length-replicate}
use lib.Seq.{ext_get_or}
use Rattle.std.proofs.lemmas.List.{get_or-take}
use Rattle.laws.specs.Tables.{table}
use Rattle.laws.proofs.Tables.{filled_none, filled_more, length-table, get_d-table}
use Rattle.rules.specs.Rules.{blank_rule}
use Rattle.rules.specs.declared.Rule.{Rule}
use Rattle.transfer_c.specs.Flat.{rule_at, rules_of}
use Rattle.transfer_c.proofs.rules_of.Goals as goal

pub loop-i-init : goal.loop-i-init
loop-i-init c = rw c.blank_rule-rules.ensures (filled_none _ blank_rule 128 _ (length-replicate 128 blank_rule))

pub loop-i-preserved : goal.loop-i-preserved
loop-i-preserved c = filled_more _ blank_rule 128 _ c.loop-i.rules c.loop-i.i _ c.loop-i.invariant (omega arith) c.rule_at.ensures

pub returns : goal.returns
unfolding rules_of
returns c =
    let n = c.args.count in
    let f = rule_at c.args.flat.now in
    let read = c.loop-i.invariant in
    let l : List Rule = c.loop-i.rules in
    ext_get_or blank_rule (take n l) (take n (table 128 f))
    (omega (arith, length-take n l, length-take n (table 128 f), length-table f 128, read.long))
    (λ k h.
    let few : k < n = omega (arith, length-take n l) in
    let all : k < 128 = omega (arith, length-take n l, read.long) in
    get_or-take n l k blank_rule few ∙ read.done k (omega arith)
    ∙ sym (get_or-take n (table 128 f) k blank_rule few ∙ get_d-table f blank_rule 128 k all))
