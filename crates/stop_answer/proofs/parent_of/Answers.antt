-- A place among the first 128 is a number.
use mathlib.Core.Path.{ap, ◌∙◌}
use native.Mathlib.Omega.{arith}
use lib.ListN.{length, length-take}
use Rattle.stop_answer.proofs.parent_of.Goals as goal

pub overflow_cast-result : goal.overflow_cast-result
overflow_cast-result c = record {
  fits = omega
      (arith, c.in-Some.ensures.bound, ap length c.first.ensures ∙ length-take 128 c.args.stops.now);
}
