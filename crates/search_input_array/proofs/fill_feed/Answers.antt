-- The four parts, one after the other.
use Rattle.search_input_array.proofs.FeedLaws.{feeds}
use Rattle.search_input_array.proofs.fill_feed.Goals as goal

pub returns : goal.returns
returns c =
    let a = c.args in
    feeds _ a.count _ a.settings _ _ _ _ _ c.put_calls.ensures c.put_members.ensures c.put_walks.ensures c.put_walks-2.ensures c.told-stops
