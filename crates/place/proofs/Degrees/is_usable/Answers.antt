-- `Degrees::is_usable` meets its contract: each of the two tests is whether the degrees are finite and at most so large.
use Rattle.std.proofs.Common.{◌≡◌, Bool, ◌&&◌, sym, ap, ◌∙◌}
use lib.Ieee.{Float, of_bits, neg, le}
use Rattle.place.specs.Numbers.{n90, n180}
use Rattle.place.specs.Positions.{in_reach, usable_degrees}
use Rattle.place.proofs.Reach.{reach-test}
use Rattle.place.proofs.Degrees.is_usable.Goals as goal

first : (x : Float) → le (neg n90) x && le x n90 ≡ in_reach n90 x
unfolding of_bits
first x = reach-test x n90 tt

second : (x : Float) → le (neg n180) x && le x n180 ≡ in_reach n180 x
unfolding of_bits
second x = reach-test x n180 tt

pub returns-then-in_reach : goal.returns-then-in_reach
unfolding usable_degrees
returns-then-in_reach c =
    let d = c.args.self in
    c.in_reach-then-in_reach.ensures ∙ second d.longitude
    ∙ ap (λ (b : Bool). b && in_reach n180 d.longitude) (sym c.if-in_reach.true ∙ c.in_reach.ensures ∙ first d.latitude)

pub returns-else-in_reach : goal.returns-else-in_reach
unfolding usable_degrees
returns-else-in_reach c =
    let d = c.args.self in
    c.if-in_reach.false
    ∙ ap (λ (b : Bool). b && in_reach n180 d.longitude) (sym c.if-in_reach.false ∙ c.in_reach.ensures ∙ first d.latitude)
