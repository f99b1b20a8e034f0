-- Six stores.
use native.Mathlib.Omega.{arith}
use Rattle.search_input_array.proofs.FeedLaws.{six-region}
use Rattle.search_input_array.proofs.put_call.Goals as goal

pub returns : goal.returns
returns c =
    let a = c.args in
    six-region a.feed.now a.i a.call _ _ c.stop_number-stop.ensures c.flags_of-flags.ensures (omega arith)
