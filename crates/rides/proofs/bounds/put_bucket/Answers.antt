-- `put_bucket` meets its contract.
use Rattle.rides.proofs.BoundLaws.{lowered, lowered_none}
use Rattle.rides.proofs.bounds.put_bucket.Goals as goal

pub returns-then-c : goal.returns-then-c
returns-then-c c =
    let q = c.bucket_of-q.ensures in
    lowered c.at-c.ensures c.told-bounds c.requires q.0 q.1 q.2 c.min.ensures

pub returns-else-c : goal.returns-else-c
returns-else-c c = lowered_none c.at-c.ensures c.if-c.false
