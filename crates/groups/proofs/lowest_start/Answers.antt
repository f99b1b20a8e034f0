-- The lowest number that is given has its start.
use Rattle.std.specs.Prelude.{Option, option_copied}
use Rattle.std.specs.Option.{option_or}
use Rattle.std.proofs.Common.{rules, tests, Bor}
use mathlib.Core.Path.{◌≡◌, ap, ◌∙◌}
use lib.IntN.{pos}
use mir.Syntax.{w64}
use Rattle.laws.proofs.Ints.{again}
use Rattle.groups.specs.declared.Group.{Group}
use Rattle.groups.specs.Groups.{start_or}
use Rattle.groups.proofs.GroupLaws.{lowest-is, start-is}
use Rattle.groups.proofs.lowest_start.Goals as goal

pub returns : goal.returns
returns c =
    let e : c.or-3.result
    ≡ option_or (option_or (option_or c.group_at.result c.group_at-2.result) c.group_at-3.result) c.group_at-4.result = cc in
    again {w = w64} (search rules)
    ∙ start-is c.or-3.result c.map_or.result c.map_or.ensures (λ g p. search (rules, tests))
    ∙ ap (λ (o : Option (Bor Group)). start_or (option_copied o) (pos 0)) e
    ∙ lowest-is c.args.given.now _ _ _ _ c.group_at.ensures c.group_at-2.ensures c.group_at-3.ensures c.group_at-4.ensures
