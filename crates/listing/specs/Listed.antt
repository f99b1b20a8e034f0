-- What a list of journeys says of one: listed, as good as one of the list, or beaten by one.
use Rattle.std.specs.Prelude.{cond, List, ℕ, ltb, None, Option, Some}
use Rattle.std.specs.List.{position_from}
use Rattle.profile.specs.declared.Journey.{Journey}
use Rattle.profile.specs.Figures.{covᶠ}
use Rattle.profile.specs.Journeys.{journey_figures}
use Rattle.listing.specs.declared.Verdict.{Verdict}
use Rattle.listing.specs.declared.Verdict.TheVariants.{Late, Listed, AsGood, Beaten, Uncovered}
use Rattle.listing.specs.Same.{same_figures, same_journey}

-- the place of the first that is j, that has j's figures, that equals or beats j
abbrev pub place_of : List Journey → Journey → Option ℕ
place_of ks j = position_from (λ k. same_journey k j) 0 ks

abbrev pub place_as_good : List Journey → Journey → Option ℕ
place_as_good ks j = position_from (λ k. same_figures k j) 0 ks

abbrev pub place_over : List Journey → Journey → Option ℕ
place_over ks j = position_from (λ k. covᶠ journey_figures k j) 0 ks

-- by a place, if there is one
abbrev pub by_place : (ℕ → Verdict) → Option ℕ → Verdict → Verdict
by_place said (Some n) other = said n
by_place said None other = other

-- j itself; else one that is as good; else the first that equals or beats it
unfoldable pub listed_in_of : List Journey → Journey → Verdict
listed_in_of ks j = by_place Listed (place_of ks j) (by_place AsGood (place_as_good ks j) (by_place Beaten (place_over ks j) Uncovered))

-- up to the horizon h
unfoldable pub judged_in : List Journey → ℕ → Journey → Verdict
judged_in ks h j = cond (ltb h j.arrival) Late (listed_in_of ks j)
