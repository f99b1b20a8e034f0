-- `onward_times` meets its contract: from no change left to one, and to two.
use Rattle.rides.proofs.OnwardLaws.{onward-made}
use Rattle.rides.proofs.reach.onward_times.Goals as goal

pub returns : goal.returns
returns c =
    let one = c.put_joined-one.ensures in
    let two = c.put_joined-two.ensures in
    onward-made _ _ _ c.put_targets-none.ensures c.put_boards-last.ensures one.least one.rows c.put_boards-middle.ensures two.least
    two.rows
