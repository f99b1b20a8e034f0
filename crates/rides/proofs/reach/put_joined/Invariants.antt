-- `put_joined` meets its contract: a loop over the calls.
use mathlib.Core.List.{[]}
use Rattle.rides.specs.Reach.{JoinsAt, RowAt, EachOf, Each}
use Rattle.search_input.specs.Layout.{call_room}
use Rattle.rides.proofs.reach.put_joined.Given as goal

abbrev pub invariant-loop-m : goal.invariant-loop-m
invariant-loop-m l =
    let lent = l.lent in
    Each (JoinsAt lent.calls.feed.now lent.changes.now lent.calls.n l.boards) 0 l.m l.at
    × EachOf call_room [] (RowAt lent.calls.feed.now lent.changes.now lent.calls.n l.boards) 0 l.m l.rows
