-- What request 11 claims beside the demands.
use Rattle.refusal.specs.declared.Accepted.TheVariants.{Taken}
use Rattle.std.specs.Prelude.{None, Option, Some, Err, Ok}
use Prim.Native.Nat.{ℕ, ◌≤◌, ◌<◌}
use mathlib.Core.Path.{◌≡◌, refl, sym, ap, subst, ◌∙◌}
use mathlib.Core.Logic.{◌⊎◌, inl, inr, ◌↔◌}
use mathlib.Core.Bool.{Bool, true, false, cond, true≢false}
use mathlib.Core.List.{List, [], ◌∷◌, ◌++◌, append-nil, Memᴰ}
use native.Mathlib.Omega.{arith}
use lib.Dec.{eqb}
use borrow.Author.Tests.{eq-eqb}
use Rattle.laws.specs.Lists.{anyb}
use Rattle.laws.proofs.Lists.{mem-anyb}
use Rattle.refusal.specs.declared.Refusal.TheVariants.{FieldRange, Neighbours, NoRoom, AlreadySearched, CallUnknown}
use Rattle.refusal.specs.First as tests
use Rattle.refusal.specs.First.{hit, miss, answer_number, Answer}
use Rattle.settings.specs.declared.Settings.{Settings}
use Rattle.calls.specs.declared.CallInput.{CallInput}
use Rattle.calls.specs.declared.CallKey.{CallKey}
use Rattle.withdrawal.specs.Removal.{key_of}
use Rattle.load.specs.declared.Load.{Load}
use Rattle.load.specs.declared.StepResult.{StepResult}
use Rattle.load.specs.Steps.{Opening, closed_load}
use Rattle.load.specs.Sound.{Opens}
use Rattle.load.specs.FillStep.{call}
use Rattle.again.specs.Again.{unsearched_of, withdraw_tests, taken_out, withdraw_spec}
use Rattle.again.specs.Causes.{search_tests}
use Rattle.again.proofs.WeekLaws.{closed_same}
use Rattle.again.proofs.OwnLaws.{own-finished}
use Rattle.again.proofs.KeptLaws.{never_wider}
use Rattle.steps.specs.Steps.{Step, filling, withdraw, stepped, numbers}
use Rattle.steps.specs.Lists.{next, end_of}
use Rattle.steps.proofs.AnsweredLaws.{step-answered}
use Rattle.steps.proofs.WithdrawnLaws.{end_kept, end-taken-back, end-clear}
use Rattle.comparison.specs.Taken.{calls_in, State, fresh, keeping, done, shut}
use Rattle.comparison.specs.Horizon.{Fits, outside, room, full, cut}
use Rattle.comparison.specs.Withdrawal.{InTable, NoneSuch, Withdrawn}
use Rattle.comparison.specs.Causes.{Cause, First, numbers_of, causes_of, left_causes}
use Rattle.comparison.specs.Runs as runs
use Rattle.comparison.specs.Runs.{Again, in_full, within, After, sent_back, a_stop, a_rule, a_call, resting, a_service, an_exception}
use Rattle.comparison.specs.Runs.{a_withdrawal, a_search, a_limited, Runs, end, step}
use Rattle.comparison.specs.Again.{there_and_back_of, Withdrawals}
use Rattle.comparison.proofs.GoneLaws.{one-withdrawn}
use Rattle.comparison.proofs.AddedLaws.{fits_low}
use Rattle.comparison.specs.Demands.{answers_from}
use Rattle.comparison.proofs.SettingLaws.{opens}
use Rattle.comparison.proofs.StartLaws.{state_at}
use Rattle.comparison.proofs.OneLaws.{one-runs}
use Rattle.comparison.proofs.RunLaws.{Walked, walk}
use Rattle.comparison.proofs.DemandLaws.{in_order, whole, ends_so}

-- ---- there and back

-- a call that is taken is in the table
fits-there : {s : Settings} {is : List CallInput} {i : CallInput} {h m g n : ℕ} {x : Answer} → Fits s is i h m x g n → x ≡ Ok Taken
    → InTable s g i
fits-there (outside f) e = absurd (cc)
fits-there (room {c = c} v w q) e = (c, v)
fits-there (full v w q r) e = absurd (cc)
fits-there (cut v w q r k) e = fits-there k e

-- what a search again leaves as it was
again-keeps : {A : Type 0} {s : Settings} {t u : State} (f : State → A) → ((k : Option ℕ) (v : State) → f (done k v) ≡ f v) → Again s t u
    → f u ≡ f t
again-keeps f e (in_full q) = refl
again-keeps {t = t} f e (within {n = n} {finishes = true} q w) = e None t
again-keeps {t = t} f e (within {n = n} {finishes = false} q w) = e (Some n) t

-- what is taken after the two
taken-same : (s : Settings) (t v : State) (name : List ℕ) (i : CallInput)
    → Runs s t (there_and_back_of name i) (Ok Taken ∷ Ok Taken ∷ []) v → v.taken ≡ t.taken
taken-same s t v name i (step f (a_call {h = h} {m = m} {u = u} q g) (step p (a_withdrawal {u = y} w r) end)) =
    let et : u.taken ≡ t.taken ++ call name i ∷ [] = again-keeps (λ (x : State). x.taken) (λ k x. refl) g in
    let eh : u.horizon ≡ h = again-keeps (λ (x : State). x.horizon) (λ k x. refl) g in
    let last : Withdrawn s (shut u) (key_of i) (keeping (shut u) (t.taken ++ [])) = record {
      before = t.taken;
      name = name;
      gone = i;
      behind = [];
      whole = et;
      key = record { trip = refl; day = refl; sequence = refl };
      there = subst (λ (z : ℕ). InTable s z i) (sym eh) (fits-there q refl);
      last = λ j n k x. absurd (mathlib.Core.List.Memᴰ.not-nil n);
      left = refl;
    } in
    again-keeps (λ (x : State). x.taken) (λ k x. refl) r
    ∙ ap (λ (x : State). x.taken) (one-withdrawn s (shut u) (key_of i) y (keeping (shut u) (t.taken ++ [])) w last) ∙ append-nil t.taken

abbrev head_of : Answer → List Answer → Answer
head_of d [] = d
head_of d (a ∷ rs) = a

-- the rest by the load, which is given back
there_and_back : (o : Opening) (xs : List Step) (rs : List Answer) (t v : State) (name : List ℕ) (i : CallInput) → Opens o
    → Runs o.settings (fresh o.dates) xs rs t
    → Runs o.settings t (there_and_back_of name i) (Ok Taken ∷ Ok Taken ∷ []) v → v.horizon ≡ t.horizon → v ≡ shut t
there_and_back o xs rs t v name i w r q e = kept ∙ (λ k. keeping (shut t) (taken-same o.settings t v name i q k))
  where
    l : Load
    l = end_of o xs

    m : Load
    m = next l (filling (call name i))

    n : Load
    n = next m (withdraw (key_of i))

    is : state_at l (whole o w xs).taken ≡ t
    is = ends_so o w xs rs t r

    two : Walked o.settings l (there_and_back_of name i) (whole o w xs).taken
    two = walk o.settings (opens o w) (there_and_back_of name i) l (whole o w xs).taken (whole o w xs).stands

    same : (answers_from l (there_and_back_of name i) ≡ Ok Taken ∷ Ok Taken ∷ []) × (state_at n two.taken ≡ v)
    same = one-runs o.settings (state_at l (whole o w xs).taken) (there_and_back_of name i) _ _ _ v two.runs
        (subst (λ (x : State). Runs o.settings x (there_and_back_of name i) (Ok Taken ∷ Ok Taken ∷ []) v) (sym is) q)

    stays : m.table_horizon ≡ l.table_horizon
    stays = sym (never_wider m name i (key_of i)).1 ∙ ap (λ (x : State). x.horizon) same.1 ∙ e ∙ ap (λ (x : State). x.horizon) (sym is)

    back : n ≡ closed_load l
    back = ap (λ (x : StepResult). x.load) (end-taken-back o xs name i (ap (head_of (Ok Taken)) same.0) stays)

    kept : v ≡ keeping (shut t) v.taken
    kept =
        sym same.1 ∙ (λ k. state_at (back k) two.taken) ∙ (λ k. keeping (shut (is k)) two.taken) ∙ (λ k. keeping (shut t) (same.1 k).taken)

-- ---- the horizon

after-low : {s : Settings} {t u : State} {x : Step} {a : Answer} → After s t x a u → u.horizon ≤ t.horizon
after-low sent_back = omega arith
after-low a_stop = omega arith
after-low a_rule = omega arith
after-low (a_call f g) = omega (arith, fits_low f, again-keeps (λ (x : State). x.horizon) (λ k x. refl) g)
after-low (resting r) = omega arith
after-low (runs.outside n f g) = omega (arith, fits_low f, again-keeps (λ (x : State). x.horizon) (λ k x. refl) g)
after-low a_service = omega arith
after-low an_exception = omega arith
after-low (a_withdrawal w g) = omega (arith, ap (λ (v : State). v.horizon) w.left, again-keeps (λ (x : State). x.horizon) (λ k x. refl) g)
after-low a_search = omega arith
after-low (a_limited {finishes = true} w) = omega arith
after-low (a_limited {finishes = false} w) = omega arith

runs-low : (s : Settings) (t v : State) (xs : List Step) (rs : List Answer) → Runs s t xs rs v → v.horizon ≤ t.horizon
runs-low s t _ _ _ end = omega arith
runs-low s t v _ _ (step {u = u} f g r) = omega (arith, after-low g, runs-low s u v _ _ r)

-- ---- 15, 24 and 14

-- an answer is taken, or one of those listed
first-number : (a : Answer) (cs : List Cause) → First a cs → (a ≡ Ok Taken) ⊎ Memᴰ (answer_number a) (numbers_of cs)
first-number a [] e = inl e
first-number a (c ∷ cs) (inl (h, e)) = inr (mathlib.Core.List.Memᴰ.head (ap answer_number e))
first-number a (c ∷ cs) (inr (n, f)) = go (first-number a cs f)
  where
    go : (a ≡ Ok Taken) ⊎ Memᴰ (answer_number a) (numbers_of cs) → (a ≡ Ok Taken) ⊎ Memᴰ (answer_number a) (numbers_of (c ∷ cs))
    go (inl e) = inl e
    go (inr m) = inr (mathlib.Core.List.Memᴰ.tail m)

never-15 : (s : Settings) (t : State) (name : List ℕ) (i : CallInput)
    → First (Err AlreadySearched) (causes_of s t (filling (call name i))) → ⊥
never-15 s t name i f = go (first-number (Err AlreadySearched) (causes_of s t (filling (call name i))) f)
  where
    unlisted : (b : Bool) → anyb (eqb 15) (numbers b (filling (call name i))) ≡ false
    unlisted true = refl
    unlisted false = refl

    go : (Err AlreadySearched ≡ Ok Taken) ⊎ Memᴰ 15 (numbers_of (causes_of s t (filling (call name i)))) → ⊥
    go (inl e) = cc
    go (inr m) =
        let k : Memᴰ 15 (numbers t.searched (filling (call name i))) = subst (Memᴰ 15) (in_order s t (filling (call name i))) m in
        true≢false (sym (mem-anyb (eqb 15) k (eq-eqb 15 15 refl)) ∙ unlisted t.searched)

not-24 : (b : Bool) (s : Settings) (t : State) (k : CallKey) → First (Err CallUnknown) (left_causes b s t k) → ⊥
not-24 false s t k e = cc
not-24 true s t k (inl (q, e)) = cc
not-24 true s t k (inr (q, inl (p, e))) = cc
not-24 true s t k (inr (q, inr (p, e))) = cc

unknown-exactly : (s : Settings) (t : State) (k : CallKey) (a : Answer) → First a (causes_of s t (withdraw k)) → k.trip < 65535
    → k.day ≤ 2 → (a ≡ Err CallUnknown) ↔ NoneSuch s t.horizon k (calls_in t.taken)
unknown-exactly s t k a (inl (inl q, e)) h l = absurd (omega arith)
unknown-exactly s t k a (inl (inr q, e)) h l = absurd (omega arith)
unknown-exactly s t k a (inr (q, inl (n, e))) h l = (λ x. n, λ x. e)
unknown-exactly s t k a (inr (q, inr (n, f))) h l = (
  λ e. absurd (not-24 t.searched s t k (subst (λ (b : Answer). First b (left_causes t.searched s t k)) e f)),
  λ x. absurd (n x),
)

not-14 : (a : Answer) {p q c f : Bool} → tests.First a
    ((p, Err FieldRange) ∷ (q, Err CallUnknown) ∷ (c, Err Neighbours) ∷ (f, Err NoRoom) ∷ []) → c ≡ false → a ≡ Err Neighbours → ⊥
not-14 _ (hit e) x z = cc
not-14 _ (miss e (hit g)) x z = cc
not-14 _ (miss e (miss g (hit k))) x z = true≢false (sym k ∙ x)
not-14 _ (miss e (miss g (miss k (hit j)))) x z = cc
not-14 _ (miss e (miss g (miss k (miss j tests.none)))) x z = cc

plain-14 : (a : Answer) {p q : Bool} → tests.First a ((p, Err FieldRange) ∷ (q, Err CallUnknown) ∷ []) → a ≡ Err Neighbours → ⊥
plain-14 _ (hit e) z = cc
plain-14 _ (miss e (hit g)) z = cc
plain-14 _ (miss e (miss g tests.none)) z = cc

never-14 : (o : Opening) (xs : List Step) (k : CallKey) → (stepped (end_of o xs) (withdraw k)).answer ≡ Err Neighbours → ⊥
never-14 o xs k e = go (end_of o xs).searched refl (step-answered (end_of o xs) (withdraw k)).first
  where
    go : (b : Bool) → (end_of o xs).searched ≡ b
        → tests.First (withdraw_spec (end_of o xs) k).answer
        (cond b (withdraw_tests (unsearched_of (end_of o xs)) k
        ++ search_tests (end_of o xs) (taken_out (unsearched_of (end_of o xs)) k).load) (withdraw_tests (end_of o xs) k)) → ⊥
    go true d f = not-14 (withdraw_spec (end_of o xs) k).answer f (end-clear o xs k d) e
    go false d f = plain-14 (withdraw_spec (end_of o xs) k).answer f e

pub withdrawals : Withdrawals
withdrawals = record {
  back = there_and_back;
  taken_back = end-taken-back;
  exactly = closed_same;
  never_wider = runs-low;
  afresh = λ o xs d e. own-finished (end_of o xs) (end_kept o xs) d e;
  no_15 = never-15;
  unknown = unknown-exactly;
  in_order = never-14;
}
