-- `since_for` meets its contract.
use Rattle.rides.proofs.OverLaws.{over-alike}
use Rattle.rides.proofs.since.since_for.Goals as goal

pub returns-then-is_alike : goal.returns-then-is_alike
returns-then-is_alike c =
    let w = c.requires in
    record {
      one = over-alike c.is_alike.ensures c.if-is_alike.true w.one;
      two = over-alike c.is_alike.ensures c.if-is_alike.true w.two;
    }

pub returns : goal.returns
returns c = c.since_none.ensures _
