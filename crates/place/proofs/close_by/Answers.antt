-- `close_by` meets its contract: each number that is made a float is the sum, the way round or the difference of the definition.
use Rattle.std.proofs.Common.{◌≡◌, refl, ◌+ℤ◌, ◌-ℤ◌, rules}
use Rattle.std.specs.Float.{binary64}
use Rattle.std.specs.Float.Ieee.{of_int}
use Rattle.place.specs.Near.{close_by, close_at, angle, square, metres, turn}
use Rattle.place.proofs.close_by.Goals as goal

pub returns : goal.returns
unfolding close_by close_at angle square
returns c =
    let a = c.args.a in
    let b = c.args.b in
    let sum : c.nearest_i64_to_f64.result ≡ of_int binary64 (a.lat +ℤ b.lat) = search rules in
    let way : c.metres.result ≡ metres (of_int binary64 (turn a.lon b.lon)) = search rules in
    let gap : c.metres-dy.result ≡ metres (of_int binary64 (a.lat -ℤ b.lat)) = search rules in
    rw (way, gap, c.series.ensures, sum) refl
