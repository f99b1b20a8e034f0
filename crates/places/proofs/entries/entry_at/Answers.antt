-- The stop, or a blank one, and its key.
use Rattle.std.proofs.Common.{◌≡◌, Bor, ap, ◌∙◌}
use Rattle.std.specs.Prelude.{option_map}
use Rattle.std.specs.Option.{unwrap_or}
use native.Mathlib.Omega.{arith}
use Rattle.place.specs.declared.PlaceKey.{PlaceKey}
use Rattle.stops.specs.declared.Stop.{Stop}
use Rattle.stops.specs.Sound.{stop_at}
use Rattle.stops.specs.Taken.{blank_stop}
use Rattle.places.specs.declared.Entry.{Entry}
use Rattle.places.specs.Entries.{entry_at}
use Rattle.places.specs.Keys.{parent_id, stop_key, key_at}
use Rattle.places.proofs.Laws.{now-or}
use Rattle.places.proofs.entries.entry_at.Goals as goal

pub returns : goal.returns
unfolding entry_at key_at stop_at
returns c =
    let ss = c.args.stops.now in
    let i = c.args.i in
    let s = c.unwrap_or-stop.result.now in
    let same : s ≡ stop_at ss i =
    ap (λ (b : Bor Stop). b.now) c.unwrap_or-stop.ensures ∙ now-or c.get.result _
    ∙ ap (λ (b : Stop). unwrap_or (option_map (λ (x : Bor Stop). x.now) c.get.result) b) c.blank_stop-blank.ensures
    ∙ c.get.ensures.lookup.4 (omega arith) blank_stop in
    ap {B = Entry} (λ (k : PlaceKey). record { id = s.id; stop = i; key = k }) (c.stop_key.ensures ∙ ap (stop_key s) c.parent_id.ensures)
    ∙ ap {B = Entry} (λ (x : Stop). record { id = x.id; stop = i; key = stop_key x (parent_id ss x.parent) }) same
