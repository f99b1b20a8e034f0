-- The search, calls and withdrawals on any load, and so any list of steps, keep what a written load needs.
use Rattle.std.specs.Prelude.{None, Option, Some}
use Prim.Native.Nat.{ℕ}
use mathlib.Core.Path.{◌≡◌, refl, sym, ap, subst}
use mathlib.Core.Bool.{Bool, true, false, cond}
use mathlib.Core.List.{List, [], ◌∷◌}
use lib.ListN.{take}
use Rattle.laws.specs.Lists.{All, anyb}
use Rattle.laws.proofs.Every.{all-mem, mem-all}
use Rattle.laws.proofs.Sort.{sort-mem}
use Rattle.refusal.specs.First.{is_refused, is_taken}
use Rattle.calls.specs.declared.Call.{Call}
use Rattle.profile.specs.declared.Journey.{Journey}
use Rattle.offers.specs.Order.{earlier, in_order_of}
use Rattle.offers.proofs.OrderLaws.{sorted_front}
use Rattle.load.specs.declared.Load.{Load}
use Rattle.load.specs.declared.StepResult.{StepResult}
use Rattle.load.specs.Load.{table_of, with_week}
use Rattle.load.specs.Steps.{opened, call_spec}
use Rattle.load.specs.FillStep.{FillStep, stop, call, rule, service, exception}
use Rattle.load.specs.Sound.{Sound}
use Rattle.calls.specs.declared.CallKey.{CallKey}
use Rattle.withdrawal.specs.Removal.{without_last, has_key, withdrawn}
use Rattle.withdrawal.proofs.LeftLaws.{withdrawn-leaves}
use Rattle.search.specs.Search.{with_found, with_journeys, search_spec}
use Rattle.search.specs.Within.{Answered, finishes_in, within_spec}
use Rattle.search.proofs.RunLaws.{taken-found, untaken-stays}
use Rattle.search.proofs.WithinLaws.{taken-within, untaken-within}
use Rattle.again.specs.Again.{unsearched_of, researched, again, leaves_table_of, added_to, add_spec_of, taken_out, withdraw_spec}
use Rattle.again.proofs.ResearchLaws.{research-cases}
use Rattle.again.proofs.SoundLaws.{unsearched-sound, out_cases}
use Rattle.steps.specs.Steps.{Step, filling, withdraw, search, limited}
use Rattle.steps.specs.Lists.{next, handed}
use Rattle.steps.proofs.WithdrawnLaws.{step_kept, end_kept}
use Rattle.written.specs.Kept.{CallKept, Kept, Whole}
use Rattle.written.specs.Keeps.{GivesHeld, AllGive, SearchKeeps, WithinKeeps, AddKeeps, WithdrawKeeps, EndWhole}
use Rattle.written.proofs.FillLaws.{open_kept, week-kept, fill-keeps}

-- ---- the search

sorted-kept : (l : Load) (ks : List Journey) (h m : ℕ) (n : Option ℕ) → Kept l → Kept (with_found l ks h m n)
sorted-kept l ks h m n w = record {
  settings = w.settings;
  stops = w.stops;
  rules = w.rules;
  calls =
      let cs = take l.call_count l.calls in
      subst (All CallKept) (sym (sorted_front l.call_count l.calls))
      (mem-all CallKept (in_order_of cs) (λ x q. all-mem CallKept cs w.calls x (sort-mem earlier cs q)));
}

pub search-keeps : SearchKeeps
search-keeps l w = go (is_taken (search_spec l).answer) refl
  where
    go : (b : Bool) → is_taken (search_spec l).answer ≡ b → Kept (search_spec l).load
    go true t = let f = taken-found l t in subst Kept (sym (ap (λ (r : StepResult). r.load) f.is)) (sorted-kept l f.kept f.to f.mark None w)
    go false t = subst Kept (sym (untaken-stays l t)) w

pub within-keeps : WithinKeeps
within-keeps l n w = go (is_taken (within_spec l n).answer) refl
  where
    left : (ks : List Journey) (h m : ℕ) (c : Bool) → Kept (cond c (with_journeys l ks h m) (with_found l ks h m (Some n)))
    left ks h m true = sorted-kept l ks h m None w
    left ks h m false = sorted-kept l ks h m (Some n) w

    go : (b : Bool) → is_taken (within_spec l n).answer ≡ b → Kept (within_spec l n).load
    go true t = let f = taken-within l n t in subst Kept (sym (ap (λ (r : Answered). r.load) f.is))
        (left f.kept f.to f.mark (finishes_in l n))
    go false t = subst Kept (sym (untaken-within l n t)) w

-- ---- a call on any load, and a withdrawal

again-keeps : (l : Load) (r : StepResult) → Kept l → Kept r.load → Kept (again l r).load
unfolding again
again-keeps l r w n = go (is_refused r.answer) (is_taken (researched l.limit r.load).answer)
  where
    go : (b c : Bool) → Kept (cond {A = StepResult} b (record { answer = r.answer; load = l })
        (cond {A = StepResult} c (record { answer = r.answer; load = (researched l.limit r.load).load })
        (record { answer = (researched l.limit r.load).answer; load = l }))).load
    go true c = w
    go false true = research-cases l.limit r.load (λ q. Kept q.load) (λ k x. within-keeps r.load k n) (search-keeps r.load n)
    go false false = w

back-keeps : (l : Load) → Kept l → Kept (unsearched_of l)
unfolding unsearched_of
back-keeps l w = record { settings = w.settings; stops = w.stops; rules = w.rules; calls = w.calls }

pub add-keeps : AddKeeps
unfolding add_spec_of added_to
add-keeps l name i s w = go l.searched (leaves_table_of l (call_spec (unsearched_of l) name i))
  where
    made : Kept (call_spec (unsearched_of l) name i).load
    made = fill-keeps (unsearched_of l) (call name i) (unsearched-sound l s) (back-keeps l w) tt

    go : (b c : Bool)
        → Kept (cond b (cond {A = StepResult} c (record
        { answer = (call_spec (unsearched_of l) name i).answer; load = with_week l (call_spec (unsearched_of l) name i).load.week })
        (again l (call_spec (unsearched_of l) name i))) (call_spec l name i)).load
    go true true = week-kept l (call_spec (unsearched_of l) name i).load.week w
    go true false = again-keeps l (call_spec (unsearched_of l) name i) w made
    go false c = fill-keeps l (call name i) s w tt

-- the others stay
without_all : (p : Call → Bool) (xs : List Call) → All CallKept xs → All CallKept (without_last p xs)
without_all p [] a = tt
without_all p (x ∷ xs) (a, rest) = go (anyb p xs) (p x) (without_all p xs rest)
  where
    go : (b c : Bool) → All CallKept (without_last p xs) → All CallKept (cond b (x ∷ without_last p xs) (cond c xs (x ∷ xs)))
    go true c ih = (a, ih)
    go false true ih = rest
    go false false ih = (a, rest)

out-keeps : (l : Load) (k : CallKey) → Sound l → Kept l → Kept (taken_out l k).load
unfolding withdrawn
out-keeps l k s w = out_cases l k (λ r. Kept r.load) (λ e. w) (λ e f. w)
    (λ g. record {
      settings = w.settings;
      stops = w.stops;
      rules = w.rules;
      calls = subst (All CallKept) (sym (withdrawn-leaves (table_of l) k s.table g.there).calls)
          (without_all (has_key k) (take l.call_count l.calls) w.calls);
    })

pub withdraw-keeps : WithdrawKeeps
unfolding withdraw_spec
withdraw-keeps l k s w = go l.searched
  where
    go : (b : Bool) → Kept (cond b (again l (taken_out (unsearched_of l) k)) (taken_out l k)).load
    go true = again-keeps l (taken_out (unsearched_of l) k) w (out-keeps (unsearched_of l) k (unsearched-sound l s) (back-keeps l w))
    go false = out-keeps l k s w

-- ---- every list of steps

filling-keeps : (l : Load) (x : FillStep) → Sound l → Kept l → GivesHeld x → Kept (next l (filling x))
filling-keeps l (stop id name parent i) s w g = fill-keeps l (stop id name parent i) s w g
filling-keeps l (call name i) s w g = add-keeps l name i s w
filling-keeps l (rule i) s w g = fill-keeps l (rule i) s w g
filling-keeps l (service name weekdays start end) s w g = fill-keeps l (service name weekdays start end) s w g
filling-keeps l (exception name date kind) s w g = fill-keeps l (exception name date kind) s w g

reached : (l : Load) (xs : List Step) → Whole l → AllGive xs → Whole (handed l xs)
reached l [] r g = r
reached l (filling x ∷ xs) r g =
    reached (next l (filling x)) xs (record { own = step_kept l (filling x) r.own; kept = filling-keeps l x r.own.sound r.kept g.0 }) g.1
reached l (withdraw k ∷ xs) r g =
    reached (next l (withdraw k)) xs (record { own = step_kept l (withdraw k) r.own; kept = withdraw-keeps l k r.own.sound r.kept }) g
reached l (search ∷ xs) r g = reached (next l search) xs (record { own = step_kept l search r.own; kept = search-keeps l r.kept }) g
reached l (limited n ∷ xs) r g = reached (next l (limited n)) xs
    (record { own = step_kept l (limited n) r.own; kept = within-keeps l n r.kept }) g

pub end_whole : EndWhole
end_whole o xs w g = reached (opened o) xs (record { own = end_kept o []; kept = open_kept o w }) g
