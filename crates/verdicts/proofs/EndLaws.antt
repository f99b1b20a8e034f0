-- What verdicts say after any list of steps with a finished search.
use mathlib.Core.Path.{◌≡◌, sym, ap, subst, ◌∙◌}
use mathlib.Core.Logic.{inl, inr}
use mathlib.Core.Bool.{true}
use mathlib.Core.List.Permᴰ
use mathlib.Core.List.{List}
use Prim.Native.Nat.{◌≤◌}
use native.Mathlib.Omega.{arith}
use lib.ListN.{take}
use borrow.Author.Tests.{le-ltb}
use Rattle.std.specs.Prelude.{None, Option, is_some}
use Rattle.laws.specs.Sort.{Keyed}
use Rattle.laws.proofs.Bools.{cond-by, cond-not}
use Rattle.laws.proofs.Sort.{sort-perm}
use Rattle.refusal.specs.First.{is_taken}
use Rattle.profile.specs.declared.Journey.{Journey}
use Rattle.offers.specs.Order.{earlier, in_order_of}
use Rattle.offers.specs.Offers.{Timetable}
use Rattle.offers.specs.Admitted as by
use Rattle.offers.proofs.OrderLaws.{accepted-keyed}
use Rattle.offers.proofs.AnyOrder.{admitted-in-any-order}
use Rattle.offers.proofs.SearchLaws.{search-found}
use Rattle.load.specs.declared.Load.{Load}
use Rattle.load.specs.declared.StepResult.{StepResult}
use Rattle.load.specs.Steps.{Opening}
use Rattle.search.specs.Timetable.{timetable_of}
use Rattle.search.specs.Search.{outcome_of}
use Rattle.search.proofs.RunLaws.{taken-found}
use Rattle.again.specs.Again.{unsearched_of}
use Rattle.again.specs.Claims.{Kept}
use Rattle.again.proofs.OwnLaws.{own-finished}
use Rattle.verdict.proofs.VerdictLaws.{finished-parts}
use Rattle.best.specs.Best.{kept_of}
use Rattle.steps.specs.Steps.{Step}
use Rattle.steps.specs.Lists.{end_of, start_of}
use Rattle.steps.proofs.HeldLaws.{searched-holds}
use Rattle.steps.proofs.WithdrawnLaws.{end_kept, end-from}
use Rattle.comparison.proofs.DemandLaws.{same-admitted}
use Rattle.connection.specs.declared.Connection.{Connection}
use Rattle.connection.specs.declared.Cause.{Cause}
use Rattle.listing.specs.declared.Verdict.{Verdict}
use Rattle.listing.specs.Listed.{listed_in_of, judged_in}
use Rattle.verdict.specs.Verdicts.{is_finished, journey_in, cause_of, judged_by, verdict_of}
use Rattle.verdicts.specs.Makes.{Makes}
use Rattle.verdicts.specs.Claims.{Says, listed, as_good, beaten, CausesExact, CausesAdmitted, DueIsCovered, NeverUncovered}
use Rattle.verdicts.proofs.FailLaws.{number, uncovered-said}
use Rattle.verdicts.proofs.SaysLaws.{says}
use Rattle.verdicts.proofs.MakesLaws.{free-makes, makes-free}

-- the calls of a load that is the finished search of its own table have distinct keys
own-keyed : (l : Load) → Kept l → l.searched ≡ true → l.limit ≡ None → Keyed earlier (take l.call_count l.calls)
unfolding outcome_of timetable_of unsearched_of
own-keyed l k d e =
    let u = unsearched_of l in
    let f = taken-found u (ap (λ (r : StepResult). is_taken r.answer) (own-finished l k d e)) in
    let s = search-found (timetable_of u) u.table_horizon u.table_limits f.to f.mark f.kept f.outcome in
    accepted-keyed (take l.call_count l.calls) s.0

made-admitted : (t : Timetable) (c : Connection) (j : Journey) → Makes t c j → by.Admitted t j
made-admitted t c j (inl m) = inl m.way
made-admitted t c j (inr (inl m)) = inr (inl m.way)
made-admitted t c j (inr (inr m)) = inr (inr m.way)

-- what the searched load admits is what its last accepted search was given
start-admits : (o : Opening) (xs : List Step) → (end_of o xs).searched ≡ true → (j : Journey) → by.Admitted (timetable_of (end_of o xs)) j
    → by.Admitted (timetable_of (start_of o xs)) j
start-admits o xs d j a =
    let t = timetable_of (start_of o xs) in
    (admitted-in-any-order t (in_order_of t.calls) (Permᴰ.symm (sort-perm earlier t.calls)) j).1
    (subst (λ (u : Timetable). by.Admitted u j) (end-from o xs d) a)

pub causes-admitted : CausesAdmitted
causes-admitted o xs c f =
    let l = end_of o xs in
    let (d, e) = finished-parts l.searched l.limit f in
    let keyed = own-keyed l (end_kept o xs) d e in
    let only = λ (j : Journey) (m : Makes (timetable_of l) c j). makes-free l c keyed j m in
    let exact : CausesExact o xs c = λ j. (only j, λ q. subst (Makes (timetable_of l) c) (sym q.1) (free-makes l c q.0)) in (
      exact,
      λ op. record {
        makes = free-makes l c;
        free = λ j m. (only j m).0;
        only = λ j m. (only j m).1;
        admitted = λ j m. (same-admitted o xs op j).0 (d, start-admits o xs d j (made-admitted (timetable_of l) c j m));
      },
    )

-- a connection without a cause that is due: the verdict is the list's
by-list : (l : Load) (c : Connection) → is_finished l ≡ true → cause_of l c ≡ None → (journey_in l c).arrival ≤ l.horizon
    → verdict_of l c ≡ listed_in_of (kept_of l) (journey_in l c)
unfolding verdict_of judged_in
by-list l c d f h =
    cond-by _ _ d ∙ ap (λ (t : Option Cause). judged_by t (judged_in (kept_of l) l.horizon (journey_in l c))) f
    ∙ cond-not _ _ (le-ltb l.horizon (journey_in l c).arrival h)

pub due-is-covered : DueIsCovered
due-is-covered o xs c op d f h =
    let l = end_of o xs in
    let right = (causes-admitted o xs c d).1 op in
    let (p, q) = finished-parts l.searched l.limit d in
    let (k, m, e) = (searched-holds o xs op p (ap is_some q)).complete (journey_in l c)
    ((same-admitted o xs op (journey_in l c)).1 (right.admitted (journey_in l c) (right.makes f))) h in
    subst (Says (kept_of l) (journey_in l c)) (sym (by-list l c d f h)) (says (kept_of l) (journey_in l c) k m e)

says_never : (ks : List Journey) (j : Journey) (v : Verdict) → Says ks j v → number v ≡ 5 → ⊥
unfolding number
says_never ks j v (listed i h e) n = absurd (omega (arith, n))
says_never ks j v (as_good i h e f) n = absurd (omega (arith, n))
says_never ks j v (beaten i h e f) n = absurd (omega (arith, n))

pub never-uncovered : NeverUncovered
unfolding verdict_of number
never-uncovered o xs c op e =
    let l = end_of o xs in
    let w = uncovered-said (kept_of l) l.horizon (journey_in l c) (is_finished l) (cause_of l c) e in
    says_never _ _ _ (due-is-covered o xs c op w.0 w.1 w.2) (ap number e)
