-- Each call of the closure gives the group at its place.
use Rattle.std.proofs.Common.{rules, tests}
use Rattle.laws.proofs.Made.{made-table}
use Rattle.timetable.specs.List.{refused_list}
use Rattle.timetable.specs.Displays.{group_of, given_at}
use Rattle.timetable.proofs.shown.given.Goals as goal

pub returns : goal.returns
returns c =
    made-table _ _ (given_at c.args.lists.now c.args.numbers.now) (λ k y q called. search (rules, tests)) (group_of 0 (refused_list 0)) _ 4
    c.from_fn.ensures.items
