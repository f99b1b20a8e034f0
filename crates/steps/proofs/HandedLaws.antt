-- Each step keeps the settings and a sound load sound, and so does a list of them; settings that open have a change time within 15300.
use mathlib.Core.Path.{◌≡◌, refl, ap, ◌∙◌}
use mathlib.Core.Bool.{Bool, true, false, cond}
use mathlib.Core.List.{List, [], ◌∷◌}
use Prim.Native.Nat.{ℕ, ◌≤◌}
use native.Mathlib.Omega.{arith}
use lib.Dec.{ltb}
use borrow.Author.Tests.{ltb-false}
use Rattle.std.specs.Prelude.{Option}
use Rattle.laws.proofs.Bools.{or-false-right}
use Rattle.refusal.specs.First.{is_refused, is_taken}
use Rattle.settings.specs.declared.Settings.{Settings}
use Rattle.settings.specs.Settings.{over_counts, canonical_of}
use Rattle.offers.specs.Search.{Outcome, clashing, falling, found}
use Rattle.load.specs.declared.Load.{Load}
use Rattle.load.specs.declared.StepResult.{StepResult}
use Rattle.load.specs.Load.{with_week}
use Rattle.load.specs.Steps.{Opening, opened, call_spec}
use Rattle.load.specs.FillStep.{stop, call, rule, service, exception}
use Rattle.load.specs.Sound.{Opens, Sound}
use Rattle.load.proofs.SoundLaws.{open-sound}
use Rattle.load.proofs.ClockLaws.{open-fails}
use Rattle.load.proofs.TableLaws.{fill-settings, opened-settings}
use Rattle.calls.specs.declared.CallKey.{CallKey}
use Rattle.search.specs.Search.{outcome_of, settled, search_spec}
use Rattle.search.specs.Within.{within_spec}
use Rattle.search.proofs.RunLaws.{search-runs}
use Rattle.search.proofs.WithinLaws.{within-keeps}
use Rattle.again.specs.Again.{unsearched_of, researched, again, leaves_table_of, added_to, add_spec_of, taken_out, withdraw_spec}
use Rattle.again.proofs.SoundLaws.{out_cases}
use Rattle.again.proofs.ResearchLaws.{researched-keeps}
use Rattle.steps.specs.Steps.{Step, filling, withdraw, search, limited, stepped}
use Rattle.steps.specs.Lists.{next, handed, end_of}
use Rattle.steps.specs.Sound.{HandedSound, ChangeInRange}
use Rattle.steps.proofs.HeldLaws.{step_sound}
use Rattle.steps.proofs.StepLaws.{search-stays}

-- ---- the settings stay

settled-settings : (l : Load) (o : Outcome) → (settled l o).settings ≡ l.settings
settled-settings l clashing = refl
settled-settings l falling = refl
settled-settings l (found ks h m) = refl

search-settings : (l : Load) → (search_spec l).load.settings ≡ l.settings
search-settings l = go l.searched refl
  where
    go : (b : Bool) → l.searched ≡ b → (search_spec l).load.settings ≡ l.settings
    go true e = ap (λ (m : Load). m.settings) (search-stays l e)
    go false e = ap (λ (r : StepResult). r.load.settings) (search-runs l e) ∙ settled-settings l (outcome_of l)

within-settings : (l : Load) (n : ℕ) → (within_spec l n).load.settings ≡ l.settings
within-settings l n = within-keeps (λ m. m.settings) l n (λ ks h m k. refl)

research-settings : (limit : Option ℕ) (m : Load) → (researched limit m).load.settings ≡ m.settings
research-settings limit m = researched-keeps limit m (λ x. x.settings) (λ ks h k n. refl)

again-settings : (l : Load) (r : StepResult) → r.load.settings ≡ l.settings → (again l r).load.settings ≡ l.settings
unfolding again
again-settings l r e = go (is_refused r.answer) (is_taken (researched l.limit r.load).answer)
  where
    go : (b c : Bool) → (cond {A = StepResult} b (record { answer = r.answer; load = l })
        (cond {A = StepResult} c (record { answer = r.answer; load = (researched l.limit r.load).load })
        (record { answer = (researched l.limit r.load).answer; load = l }))).load.settings ≡ l.settings
    go true c = refl
    go false true = research-settings l.limit r.load ∙ e
    go false false = refl

added-settings : (l : Load) (r : StepResult) → r.load.settings ≡ l.settings → (added_to l r).load.settings ≡ l.settings
unfolding added_to
added-settings l r e = go (leaves_table_of l r)
  where
    go : (b : Bool) → (cond {A = StepResult} b (record { answer = r.answer; load = with_week l r.load.week }) (again l r)).load.settings
        ≡ l.settings
    go true = refl
    go false = again-settings l r e

out-settings : (l : Load) (k : CallKey) → (taken_out l k).load.settings ≡ l.settings
out-settings l k = out_cases l k (λ r. r.load.settings ≡ l.settings) (λ e. refl) (λ e f. refl) (λ g. refl)

unsearched-settings : (l : Load) → (unsearched_of l).settings ≡ l.settings
unfolding unsearched_of
unsearched-settings l = refl

pub step-settings : (l : Load) (x : Step) → (next l x).settings ≡ l.settings
unfolding add_spec_of withdraw_spec
step-settings l (filling (stop id name parent i)) = fill-settings l (stop id name parent i)
step-settings l (filling (rule i)) = fill-settings l (rule i)
step-settings l (filling (service name weekdays start end)) = fill-settings l (service name weekdays start end)
step-settings l (filling (exception name date kind)) = fill-settings l (exception name date kind)
step-settings l search = search-settings l
step-settings l (limited n) = within-settings l n
step-settings l (filling (call name i)) = go l.searched
  where
    go : (b : Bool) → (cond b (added_to l (call_spec (unsearched_of l) name i)) (call_spec l name i)).load.settings ≡ l.settings
    go true = added-settings l (call_spec (unsearched_of l) name i) (fill-settings (unsearched_of l) (call name i) ∙ unsearched-settings l)
    go false = fill-settings l (call name i)
step-settings l (withdraw k) = go l.searched
  where
    go : (b : Bool) → (cond b (again l (taken_out (unsearched_of l) k)) (taken_out l k)).load.settings ≡ l.settings
    go true = again-settings l (taken_out (unsearched_of l) k) (out-settings (unsearched_of l) k ∙ unsearched-settings l)
    go false = out-settings l k

pub list-settings : (xs : List Step) (l : Load) → (handed l xs).settings ≡ l.settings
list-settings [] l = refl
list-settings (x ∷ xs) l = list-settings xs (stepped l x).load ∙ step-settings l x

-- ---- and the load is sound

list-sound : (xs : List Step) (l : Load) → Sound l → Sound (handed l xs)
list-sound [] l s = s
list-sound (x ∷ xs) l s = list-sound xs (stepped l x).load (step_sound l x s)

pub handed-sound : HandedSound
handed-sound s xs o = (list-settings xs (opened s) ∙ opened-settings s, list-sound xs (opened s) (open-sound s))

opens-within : (o : Opening) → Opens o → o.settings.transfer_seconds ≤ 15300
unfolding over_counts
opens-within o w =
    let s = o.settings in
    ltb-false 15300 s.transfer_seconds
    (or-false-right (ltb 2 s.max_transfers) _ (or-false-right (ltb 4 s.targets) _ (or-false-right (ltb 4 s.origins) _ (open-fails o w).0)))

pub change-in-range : ChangeInRange
unfolding canonical_of
change-in-range s xs o =
    let e : (end_of s xs).settings.transfer_seconds ≡ s.settings.transfer_seconds =
    ap (λ (z : Settings). z.transfer_seconds) (handed-sound s xs o).0 in
    omega (arith, e, opens-within s o)
