-- The parents of 128 stops as numbers, 65535 for none.
use Rattle.std.specs.Option.{unwrap_or}
use Rattle.std.specs.Prelude.{List, ℕ}
use Rattle.laws.specs.Tables.{table}
use Rattle.stops.specs.declared.Stop.{Stop}
use Rattle.stops.specs.Sound.{stop_at}
use Rattle.stops.specs.Sizes.{stop_room, no_stop}

unfoldable pub parents_of : List Stop → List ℕ
parents_of ss = table stop_room (λ k. unwrap_or (stop_at ss k).parent no_stop)
