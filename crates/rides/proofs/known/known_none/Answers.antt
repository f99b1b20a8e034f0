-- `known_none` meets its contract.
use Rattle.rides.proofs.known.known_none.Goals as goal

pub returns : goal.returns
returns c = record { since = c.since_none.ensures _; joined = c.joined_none.ensures }
