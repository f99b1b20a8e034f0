-- What `position` finds, by the services of the slice.
use mathlib.Core.Path.{◌≡◌, ap, ◌∙◌}
use lib.ListN.{length}
use Rattle.std.proofs.Common.{rules, Option, ℕ}
use Rattle.std.specs.List.{position_from}
use Rattle.std.specs.Option.{is_some, unwrap_or}
use Rattle.std.proofs.lemmas.Iterator.{YieldsList-from_slice}
use Rattle.std.proofs.lemmas.Iterator.Adapters.{position_from-zero}
use Rattle.std.proofs.lemmas.Iterator.Search.{position_from_yields_List}
use Rattle.week.specs.Weeks.{named}
use Rattle.week.proofs.PlaceLaws.{place-or, is-known}
use Rattle.week.proofs.answer.place_of.Goals as goal

pub returns : goal.returns
returns c =
    let a = c.args in
    let p = named a.name.now in
    let e : c.position.result ≡ position_from p 0 a.services.now =
    position_from_yields_List p _ _ c.position.result c.position.ensures.ran
    (YieldsList-from_slice a.services.now c.iter.ensures.rest) (λ x b q k. search rules)
    ∙ position_from-zero p a.services.now in
    record {
      first = e;
      place = ap (λ (r : Option ℕ). unwrap_or r (length a.services.now)) e ∙ place-or p a.services.now;
      known = ap is_some e ∙ is-known p a.services.now;
    }
