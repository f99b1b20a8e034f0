-- The lent arrays as a sheet.
use Rattle.std.specs.Prelude.{Bool, List, ℕ}
use Rattle.search_input.specs.declared.FirstRide.{FirstRide}
use Rattle.search_input.specs.Feed.{call_at, origin_mask, target_mask, origin_walk_of, target_walk_of, change_at, joined}
use Rattle.rides.specs.Rows.{Sheet}

-- the first ride joins the ride that boards at j, by the changes g
unfoldable pub joins_of : List ℕ → List ℕ → FirstRide → ℕ → Bool
joins_of f g r j = joined r (call_at f j) (change_at g r.stop (call_at f j).stop)

-- the feed as what the loops read
unfoldable pub sheet_of : List ℕ → Sheet
sheet_of f =
    record {
      at = call_at f;
      origins = origin_mask f;
      targets = target_mask f;
      origin_walk = origin_walk_of f;
      target_walk = target_walk_of f;
    }
