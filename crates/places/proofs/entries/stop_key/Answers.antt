-- A station has no key; of a stop of type 0 the key of its texts.
use borrow.Author.Tests.{eq-eqb, ne_eqb}
use Rattle.places.proofs.Laws.{key-parts, key-none}
use Rattle.places.proofs.entries.stop_key.Goals as goal

pub returns-then-stop-ne0 : goal.returns-then-stop-ne0
returns-then-stop-ne0 c = key-none _ c.args.stop.now (ne_eqb _ _ c.if-stop-ne0.true) c.no_place.ensures

pub returns : goal.returns
returns c = key-parts c.args.stop.now _ _ (eq-eqb _ _ c.if-stop-ne0.false) c.name.ensures c.id.ensures c.place_key.ensures
