-- Listed, as good, beaten, none.
use mathlib.Core.Path.{sym, ◌∙◌}
use Rattle.listing.proofs.ListedLaws.{said-listed, said-good, said-beaten, said-none}
use Rattle.listing.proofs.listed.Goals as goal

pub returns-in-Some : goal.returns-in-Some
returns-in-Some c =
    let a = c.args in
    said-listed a.journeys.now a.j c.in-Some.at (sym c.place_of.ensures ∙ c.in-Some.is)

pub returns-in-Some-place_as_good : goal.returns-in-Some-place_as_good
returns-in-Some-place_as_good c =
    let a = c.args in
    said-good a.journeys.now a.j (sym c.place_of.ensures ∙ c.in_default.is)
    c.in-Some-place_as_good.at (sym c.place_as_good.ensures ∙ c.in-Some-place_as_good.is)

pub returns-in-Some-place_over : goal.returns-in-Some-place_over
returns-in-Some-place_over c =
    let a = c.args in
    said-beaten a.journeys.now a.j (sym c.place_of.ensures ∙ c.in_default.is)
    (sym c.place_as_good.ensures ∙ c.in_default-place_as_good.is)
    c.in-Some-place_over.at (sym c.place_over.ensures ∙ c.in-Some-place_over.is)

pub returns : goal.returns
returns c =
    let a = c.args in
    said-none a.journeys.now a.j (sym c.place_of.ensures ∙ c.in_default.is)
    (sym c.place_as_good.ensures ∙ c.in_default-place_as_good.is)
    (sym c.place_over.ensures ∙ c.in_default-place_over.is)
