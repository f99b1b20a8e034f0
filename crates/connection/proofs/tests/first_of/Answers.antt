-- What `find` finds.
use mathlib.Core.Path.{sym, ap, ◌∙◌}
use mathlib.Core.Bool.{Bool}
use Rattle.std.proofs.Common.{rules, tests, Bor, Option}
use Rattle.std.specs.Option.{option_map}
use Rattle.std.proofs.lemmas.Iterator.{YieldsList-from_slice}
use Rattle.std.proofs.lemmas.Iterator.Search.{find_from_yields_List}
use Rattle.connection.specs.declared.Cause.{Cause}
use Rattle.connection.proofs.TestLaws.{holds, cause, first-found}
use Rattle.connection.proofs.tests.first_of.Goals as goal

pub returns-in_err-test : goal.returns-in_err-test
returns-in_err-test c =
    let read : Option (Bor (Bool × Cause)) → Option Cause = λ o. option_map cause (option_map (λ x. x.now) o) in
    let found = find_from_yields_List holds _ _ c.find.result c.find.ensures.ran
    (YieldsList-from_slice c.args.tests.now c.iter.ensures.rest) (λ x b q k. search (rules, tests)) in
    c.from_residual.ensures ∙ ap read (sym c.in_err-test.was) ∙ ap (option_map cause) found ∙ first-found c.args.tests.now

pub returns : goal.returns
returns c =
    let read : Option (Bor (Bool × Cause)) → Option Cause = λ o. option_map cause (option_map (λ x. x.now) o) in
    let found = find_from_yields_List holds _ _ c.find.result c.find.ensures.ran
    (YieldsList-from_slice c.args.tests.now c.iter.ensures.rest) (λ x b q k. search (rules, tests)) in
    ap read (sym c.in_ok-test.was) ∙ ap (option_map cause) found ∙ first-found c.args.tests.now
