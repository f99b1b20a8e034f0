-- The place, or 21 where there is none.
use mathlib.Core.Path.{◌≡◌, refl}
use mathlib.Core.Bool.{cond, not}
use Prim.Native.Nat.{ℕ}
use Rattle.std.specs.Prelude.{None, Option, Some, Err, Ok}
use Rattle.std.specs.Option.{is_some, ok_or}
use Rattle.std.specs.Result.{result_map_both}
use lib.Seq.{take-length}
use Rattle.refusal.specs.declared.Accepted.TheVariants.{Taken}
use Rattle.refusal.specs.declared.Refusal.TheVariants.{ServiceUnknown}
use Rattle.refusal.specs.First.{Answer, first_answer}
use Rattle.week.specs.Weeks.{exception_tests}
use Rattle.week.proofs.answer.exception_place.Goals as goal

answered : (o : Option ℕ)
    → ◌≡◌ {A = Answer} (result_map_both (λ _. Taken) (λ r. r) (ok_or o ServiceUnknown))
    (cond (not (is_some o)) (Err ServiceUnknown) (Ok Taken))
answered None = refl
answered (Some at) = refl

pub returns-clause-answer : goal.returns-clause-answer
unfolding exception_tests first_answer
returns-clause-answer c =
    let v = c.ok_or.ensures.value in
    rw (
      v,
      c.if-searched.false,
      c.if-closed.false,
      ← c.exception_wrong.ensures,
      c.if-exception_wrong.false,
      take-length c.args.services.now,
      ← c.place_of.ensures.known,
    ) (answered c.place_of.result)
