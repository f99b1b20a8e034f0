-- `next_first` meets its contract.
use Rattle.rides.proofs.JoinedLaws.{alights-first}
use Rattle.rides.proofs.known.next_first.Goals as goal

pub since_for-since-requires : goal.since_for-since-requires
since_for-since-requires c = c.requires.1.since

pub first_before-known-requires : goal.first_before-known-requires
first_before-known-requires c = (alights-first _ _ _ c.args.l.ride c.requires.0 c.first_ride-f.ensures, c.requires.1.joined, c.since_for-since.ensures)

pub returns-clause-rows : goal.returns-clause-rows
returns-clause-rows c = rw (← c.first_ride-f.ensures) c.first_before-known.ensures.rows

pub returns-clause-known : goal.returns-clause-known
returns-clause-known c = let w = c.first_before-known.ensures in record { since = w.since; joined = w.array }
