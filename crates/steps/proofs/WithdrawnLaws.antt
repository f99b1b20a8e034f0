-- What holds after any steps: the load is sound and, if it is searched, the search of its own table.
use Rattle.std.specs.Prelude.{unwrap_or}
use mathlib.Core.Path.{◌≡◌, sym, ◌∙◌}
use mathlib.Core.Bool.{true, true≢false}
use mathlib.Core.List.{List, [], ◌∷◌}
use Rattle.offers.specs.Order.{in_order_of}
use Rattle.offers.specs.Offers.{with_calls}
use Rattle.offers.proofs.MachineLaws.{last_found}
use Rattle.load.specs.declared.Load.{Load}
use Rattle.load.specs.Steps.{Opening, opened}
use Rattle.load.specs.Sound.{Sound}
use Rattle.load.proofs.SoundLaws.{open-sound}
use Rattle.search.specs.Timetable.{timetable_of}
use Rattle.again.specs.Claims.{Kept}
use Rattle.again.proofs.ClashLaws.{never-clashes}
use Rattle.again.proofs.OwnLaws.{own-stopped}
use Rattle.again.proofs.KeptLaws.{new-kept, taken_back}
use Rattle.steps.specs.Steps.{Step}
use Rattle.steps.specs.Lists.{next, ran, handed, start, end_of, start_of}
use Rattle.steps.specs.Withdrawn.{EndKept, EndStopped, EndFound, EndTakenBack, EndClear}
use Rattle.steps.specs.Machine.{machine}
use Rattle.steps.proofs.HeldLaws.{From, right, opened_new, steps}

pub step_kept : (l : Load) (x : Step) → Kept l → Kept (next l x)
step_kept l x w = let r = right l x w.sound in record { sound = r.sound; own = r.own w.own }

handed-kept : (xs : List Step) (l : Load) → Kept l → Kept (handed l xs)
handed-kept [] l w = w
handed-kept (x ∷ xs) l w = handed-kept xs (next l x) (step_kept l x w)

pub end_kept : EndKept
end_kept o xs = handed-kept xs (opened o) (new-kept (opened o) (open-sound o) (opened_new o))

pub end-stopped : EndStopped
end-stopped o xs n e = own-stopped (end_of o xs) (end_kept o xs) n e

pub end-found : EndFound
end-found = last_found machine steps

pub end-taken-back : EndTakenBack
end-taken-back o xs name i q h = taken_back (end_of o xs) name i (end_kept o xs) q h

pub end-clear : EndClear
end-clear o xs k d = never-clashes (end_of o xs) k (end_kept o xs) d

-- the searched load reads what its last accepted search read, in order
handed-from : (xs : List Step) (p l : Load) → Sound l → From p l → From (start p l xs) (handed l xs)
handed-from [] p l s w = w
handed-from (x ∷ xs) p l s w = handed-from xs (unwrap_or (ran l x) p) (next l x) (right l x s).sound ((right l x s).from p w)

pub end-from : (o : Opening) (xs : List Step) → (end_of o xs).searched ≡ true
    → timetable_of (end_of o xs) ≡ with_calls (timetable_of (start_of o xs)) (in_order_of (timetable_of (start_of o xs)).calls)
end-from o xs = handed-from xs (opened o) (opened o) (open-sound o) (λ d. absurd (true≢false (sym d ∙ opened_new o)))
