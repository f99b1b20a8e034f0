-- The search again, within a limit or in full: its tests, what it finds, and that it leaves a sound load.
use Rattle.refusal.specs.declared.Accepted.TheVariants.{Taken}
use Rattle.std.specs.Prelude.{None, Option, Some, Err, Ok}
use Prim.Native.Nat.{ℕ, ◌≤◌}
use mathlib.Core.Path.{◌≡◌, refl, sym, ap, subst, ◌∙◌}
use mathlib.Core.Bool.{Bool, true, false, cond, true≢false}
use mathlib.Core.List.{List, [], ◌∷◌}
use borrow.Author.Tests.{leb-true, le-leb}
use lib.Dec.{leb}
use Rattle.laws.proofs.Bools.{cond-by, cond-not}
use Rattle.refusal.specs.declared.Refusal.TheVariants.{Neighbours, NoRoom}
use Rattle.refusal.specs.First.{First, hit, miss, is_taken, Answer}
use Rattle.profile.specs.declared.Journey.{Journey}
use Rattle.offers.specs.Order.{clashes}
use Rattle.offers.specs.Offers.{sorted}
use Rattle.offers.specs.Search.{found}
use Rattle.offers.proofs.SearchLaws.{search-found}
use Rattle.load.specs.declared.Load.{Load}
use Rattle.load.specs.declared.StepResult.{StepResult}
use Rattle.load.specs.Sound.{Sound}
use Rattle.search.specs.Timetable.{timetable_of}
use Rattle.search.specs.Search.{outcome_of, with_found, would_fall, search_spec}
use Rattle.search.specs.Within.{outcome_within, finishes_in, within_spec, step_of, would_fall_within}
use Rattle.search.proofs.RunLaws.{taken-found, untaken-stays}
use Rattle.search.proofs.AnswerLaws.{search-answered}
use Rattle.search.proofs.SearchSound.{search-sound}
use Rattle.search.proofs.WithinLaws.{within_first, ran-answer, within-runs, taken-within, untaken-within, within-clear, within-sound}
use Rattle.search.proofs.WithinLaws.{finished-is-search}
use Rattle.again.specs.Again.{researched}
use Rattle.again.specs.Causes.{falls_again}

-- stopped before at the limit n, and of at most one change
pub record Limits (limit : Option ℕ) (m : Load) (n : ℕ) : Type 0 where
  pub stopped : limit ≡ Some n
  pub one : m.settings.max_transfers ≤ 1

-- of any property of the search, by which of the two it is
pub research-cases : (limit : Option ℕ) (m : Load) (P : StepResult → Type 0) → ((n : ℕ) → Limits limit m n → P (step_of (within_spec m n)))
    → P (search_spec m)
    → P (researched limit m)
unfolding researched
research-cases None m P within full = full
research-cases (Some n) m P within full = go (leb m.settings.max_transfers 1) refl
  where
    go : (c : Bool) → leb m.settings.max_transfers 1 ≡ c → P (cond c (step_of (within_spec m n)) (search_spec m))
    go true e = within n (record { stopped = refl; one = leb-true m.settings.max_transfers 1 e })
    go false e = full

pub researched-within : (n : ℕ) (m : Load) → m.settings.max_transfers ≤ 1 → researched (Some n) m ≡ step_of (within_spec m n)
unfolding researched
researched-within n m one = cond-by _ _ (le-leb m.settings.max_transfers 1 one)

researched-else : (n : ℕ) (m : Load) → leb m.settings.max_transfers 1 ≡ false → researched (Some n) m ≡ search_spec m
unfolding researched
researched-else n m e = cond-not _ _ e

pub researched-full : (m : Load) → researched None m ≡ search_spec m
unfolding researched
researched-full m = refl

-- ---- 14, 11

past_one : {a c : Answer} {b : Bool} {ts : List (Bool × Answer)} → First a ((b, c) ∷ ts) → b ≡ false → First a ts
past_one (hit e) q = absurd (true≢false (sym e ∙ q))
past_one (miss e f) q = f

pub research-first : (limit : Option ℕ) (m : Load) → m.searched ≡ false
    → First (researched limit m).answer ((clashes (sorted (timetable_of m)), Err Neighbours) ∷ (falls_again limit m, Err NoRoom) ∷ [])
unfolding researched
research-first None m new = past_one (search-answered m).first new
research-first (Some n) m new = go (leb m.settings.max_transfers 1) refl
  where
    go : (c : Bool) → leb m.settings.max_transfers 1 ≡ c
        → First (cond c (step_of (within_spec m n)) (search_spec m)).answer
        ((clashes (sorted (timetable_of m)), Err Neighbours) ∷ (cond c (would_fall_within m n) (would_fall m), Err NoRoom) ∷ [])
    go true e =
        let q = within-runs m n new (leb-true m.settings.max_transfers 1 e) in
        subst (λ (a : Answer). First a ((clashes (sorted (timetable_of m)), Err Neighbours) ∷ (would_fall_within m n, Err NoRoom) ∷ []))
        (sym (ap (λ (w : StepResult). w.answer) (ap step_of q) ∙ ran-answer m n (outcome_within m n))) (within_first m n)
    go false e = past_one (search-answered m).first new

-- ---- what is found

-- an accepted search: of a load that was not searched, whose calls don't clash; these journeys, and the limit at which it was stopped, if
-- it was
pub record Researched (before : Option ℕ) (m : Load) : Type 0 where
  pub new : m.searched ≡ false
  pub kept : List Journey
  pub to : ℕ
  pub mark : ℕ
  pub limit : Option ℕ
  pub is : researched before m ≡ record { answer = Ok Taken; load = with_found m kept to mark limit }
  pub clear : clashes (sorted (timetable_of m)) ≡ false

full-clear : (m : Load) (h k : ℕ) (ks : List Journey) → outcome_of m ≡ found ks h k → clashes (sorted (timetable_of m)) ≡ false
unfolding outcome_of
full-clear m h k ks e = (search-found (timetable_of m) m.table_horizon m.table_limits h k ks e).0

module _ (limit : Option ℕ) (m : Load) where
  found-full : researched limit m ≡ search_spec m → is_taken (search_spec m).answer ≡ true → Researched limit m
  found-full q t =
      let w = taken-found m t in
      record {
        new = w.new;
        kept = w.kept;
        to = w.to;
        mark = w.mark;
        limit = None;
        is = q ∙ w.is;
        clear = full-clear m w.to w.mark w.kept w.outcome;
      }

  found-stopped : (n : ℕ) → researched limit m ≡ step_of (within_spec m n) → finishes_in m n ≡ false
      → is_taken (within_spec m n).answer ≡ true → Researched limit m
  found-stopped n q e t =
      let w = taken-within m n t in
      record {
        new = w.new;
        kept = w.kept;
        to = w.to;
        mark = w.mark;
        limit = Some n;
        is = q ∙ ap step_of w.is ∙ ap (λ (x : Load). record { answer = Ok Taken; load = x }) (cond-not _ _ e);
        clear = within-clear m n w.kept w.to w.mark w.outcome;
      }

  -- searched in full, a limited search that finished among them; or stopped at n
  pub data Ran : Type 0 where
    full : researched limit m ≡ search_spec m → Ran
    stopped : (n : ℕ) → researched limit m ≡ step_of (within_spec m n) → finishes_in m n ≡ false → Ran

pub ran : (limit : Option ℕ) (m : Load) → Ran limit m
ran None m = full (researched-full m)
ran (Some n) m = go (leb m.settings.max_transfers 1) refl
  where
    by : m.settings.max_transfers ≤ 1 → (c : Bool) → finishes_in m n ≡ c → Ran (Some n) m
    by one true e = full (researched-within n m one ∙ finished-is-search m n one e)
    by one false e = stopped n (researched-within n m one) e

    go : (c : Bool) → leb m.settings.max_transfers 1 ≡ c → Ran (Some n) m
    go true e = by (leb-true m.settings.max_transfers 1 e) (finishes_in m n) refl
    go false e = full (researched-else n m e)

module _ (limit : Option ℕ) (m : Load) where
  pub taken-researched : is_taken (researched limit m).answer ≡ true → Researched limit m
  taken-researched t = go (ran limit m)
    where
      go : Ran limit m → Researched limit m
      go (full q) = found-full limit m q (sym (ap (λ (r : StepResult). is_taken r.answer) q) ∙ t)
      go (stopped n q e) = found-stopped limit m n q e (sym (ap (λ (r : StepResult). is_taken r.answer) q) ∙ t)

  -- and one that is not leaves the load
  pub untaken-researched : is_taken (researched limit m).answer ≡ false → (researched limit m).load ≡ m
  untaken-researched = research-cases limit m (λ r. is_taken r.answer ≡ false → r.load ≡ m) (λ n w. untaken-within m n) (untaken-stays m)

  pub researched-sound : Sound m → Sound (researched limit m).load
  researched-sound s = research-cases limit m (λ r. Sound r.load) (λ n w. within-sound m n s) (search-sound m s)

  -- what no search alters, this one leaves
  pub researched-keeps : {X : Type 0} (f : Load → X) → ((ks : List Journey) (h k : ℕ) (x : Option ℕ) → f (with_found m ks h k x) ≡ f m)
      → f (researched limit m).load ≡ f m
  researched-keeps f same = go (is_taken (researched limit m).answer) refl
    where
      go : (c : Bool) → is_taken (researched limit m).answer ≡ c → f (researched limit m).load ≡ f m
      go true t = let w = taken-researched t in ap (λ (r : StepResult). f r.load) w.is ∙ same w.kept w.to w.mark w.limit
      go false t = ap f (untaken-researched t)

  pub researched-horizon : (researched limit m).load.table_horizon ≡ m.table_horizon
  researched-horizon = researched-keeps (λ x. x.table_horizon) (λ ks h k x. refl)
