-- A search with the joins left: what is over stays; n joins at once; offers that are made while it goes on; and what it comes to.
use mathlib.Core.Path.{◌≡◌, refl, sym, ap, ◌∙◌}
use mathlib.Core.Logic.{◌⊎◌, inl, inr}
use mathlib.Core.Bool.{Bool, true, false, not, cond, true≢false, false≢true}
use Rattle.std.specs.Prelude.{Option, Some, None}
use Rattle.std.specs.Option.{SomeIff}
use mathlib.Core.List.{List, [], ◌∷◌, map}
use Prim.Native.Nat.{ℕ, zero, suc, ◌-◌, ◌≤◌, ◌<◌}
use native.Mathlib.Omega.{arith}
use lib.Dec.{leb}
use borrow.Author.Tests.{le-leb, lt-leb, leb-true, leb-false}
use Rattle.laws.specs.Lists.{foldl}
use Rattle.laws.proofs.Bools.{test}
use Rattle.profile.specs.Found.{Row}
use Rattle.profile.specs.Kept.{SearchState, going, refused}
use Rattle.search_state.specs.View.{view, open_of}
use Rattle.candidate.specs.Offer.{offer_to}
use Rattle.candidate.proofs.OfferLaws.{offers-late}
use Rattle.counted.specs.Events.{tested, offered, offers_of, joins_in, up_to}
use Rattle.counted.specs.Joins.{Join}
use Rattle.rides.specs.Offered.{offer_all, Offered}
use Rattle.rides.proofs.RestLaws.{seen_last, seen_first}
use Rattle.limited_rides.specs.Runs.{RowEvent, Run, on, over, go_on, meet, meet_all, skip, is_over, has_left, state_of}
use Rattle.limited_rides.specs.Runs.{run_at, Met, Spent, RunStates, RunFinishes}

-- ---- what is over stays

pub over-stays : (s : SearchState Row) (es : List RowEvent) → meet_all (over s) es ≡ over s
unfolding meet_all meet
over-stays s [] = refl
over-stays s (e ∷ es) = over-stays s es

pub over-all : (y : Run) (es : List RowEvent) → is_over y ≡ true → meet_all y es ≡ y
unfolding is_over
over-all (over s) es e = over-stays s es
over-all (on s n) es e = absurd (false≢true e)

-- ---- n joins at once

same : {A : Type 0} (b : Bool) (x : A) → x ≡ cond b x x
same true x = refl
same false x = refl

skip-go : (s : SearchState Row) (n m : ℕ) → skip m (go_on s n) ≡ cond (leb m n) (go_on s (n - m)) (over s)
unfolding skip go_on
skip-go (going ks h l) n m = refl
skip-go refused n m = same (leb m n) (over refused)

pub skip-over : (s : SearchState Row) (m : ℕ) → skip m (over s) ≡ over s
unfolding skip
skip-over s m = refl

pub spent-some : {m n : ℕ} {k : Option ℕ} → SomeIff k (n ≤ m) (m - n) → Spent (Some m) k n
unfolding run_at
spent-some {m} {n} {k} e = record { is = λ s. go s k e }
  where
    go : (s : SearchState Row) (k : Option ℕ) → SomeIff k (n ≤ m) (m - n) → run_at s k ≡ skip n (run_at s (Some m))
    go s (Some x) (h, q) = sym (skip-go s m n ∙ rw (le-leb n m h, ← q))
    go s None h = sym (skip-go s m n ∙ rw (lt-leb n m (omega arith)))

pub spent-none : {n : ℕ} → Spent None None n
unfolding run_at
spent-none {n} = record { is = λ s. sym (skip-over s n) }

-- ---- whether it is over

refused_over : (l : List ℕ) (n : ℕ) (b : Bool) → open_of l ≡ b → is_over (go_on (view l) n) ≡ not b
unfolding is_over go_on view
refused_over l n true e = rw e
refused_over l n false e = rw e

pub over-refused : (l : List ℕ) (n : ℕ) {r : Bool} → r ≡ not (open_of l) → r ≡ is_over (run_at (view l) (Some n))
unfolding run_at
over-refused l n e = e ∙ sym (refused_over l n (open_of l) refl)

pub over-stopped : (l : List ℕ) → true ≡ is_over (run_at (view l) None)
unfolding run_at is_over
over-stopped l = refl

-- ---- events one after the other

-- an array of the same state may stand for the last, or for the first
pub met-last : {l l' l'' : List ℕ} {k k' : Option ℕ} {es : List RowEvent} → view l'' ≡ view l' → Met l k l' k' es → Met l k l'' k' es
met-last {k' = k'} e w = seen_last (ap (λ (s : SearchState Row). run_at s k') e) w

pub met-first : {l l' l'' : List ℕ} {k k' : Option ℕ} {es : List RowEvent} → view l'' ≡ view l → Met l'' k l' k' es → Met l k l' k' es
met-first {k = k} e w = seen_first (ap (λ (s : SearchState Row). run_at s k) e) w

pub over-met : {l : List ℕ} {k : Option ℕ} {es : List RowEvent} {r : Bool} → r ≡ is_over (run_at (view l) k) → r ≡ true → Met l k l k es
unfolding meet_all
over-met {l} {k} {es} e t = record { is = sym (over-all (run_at (view l) k) es (sym e ∙ t)) }

refused-fold : (os : List Row) → foldl offer_to refused os ≡ refused
refused-fold os = offers-late refused os (λ o m. refl)

refused-offers : (os : List Row) → offer_all refused os ≡ refused
unfolding offer_all
refused-offers os = refused-fold os

-- offers that are made while it goes on
offers-run : (s : SearchState Row) (n : ℕ) (os : List Row) → meet_all (go_on s n) (map offered os) ≡ go_on (offer_all s os) n
unfolding meet_all meet go_on offer_all
offers-run s n [] = refl
offers-run (going ks h l) n (o ∷ os) = offers-run (offer_to (going ks h l) o) n os
offers-run refused n (o ∷ os) = over-stays refused (map offered os)
    ∙ sym (ap (λ (s : SearchState Row). go_on s n) (refused-offers (o ∷ os)))

is-over : (s : SearchState Row) → true ≡ is_over (over s)
unfolding is_over
is-over s = refl

pub offered-met : {l l' : List ℕ} {k : Option ℕ} {os : List Row} {r : Bool} → r ≡ is_over (run_at (view l) k) → r ≡ false
    → Offered l l' os → Met l k l' k (map offered os)
unfolding run_at meet_all offer_all
offered-met {l} {k = Some n} {os} e f o = record { is = rw o.is (sym (offers-run (view l) n os)) }
offered-met {l} {k = None} e f o = absurd (true≢false (is-over (view l) ∙ sym e ∙ f))

-- ---- what it comes to

state-all : (y : Run) (s : SearchState Row) → y ≡ over s → state_of y ≡ s
unfolding state_of
state-all y s e = rw e

pub run-states : RunStates
unfolding meet_all meet go_on state_of
run-states (going ks h l) n [] = refl
run-states refused n [] = refl
run-states refused n (e ∷ es) =
    state-all (meet_all (over refused) es) refused (over-stays refused es) ∙ sym (refused-offers' (offers_of (up_to n (e ∷ es))))
  where
    refused-offers' : (os : List Row) → foldl offer_to refused os ≡ refused
    refused-offers' os = refused-fold os
run-states (going ks h l) n (offered o ∷ es) = run-states (offer_to (going ks h l) o) n es
run-states (going ks h l) zero (tested j ∷ es) = state-all (meet_all (over (going ks h l)) es) (going ks h l) (over-stays (going ks h l) es)
run-states (going ks h l) (suc n) (tested j ∷ es) = run-states (going ks h l) n es

-- events with no more joins than are left, and with more
pub run-fits : (s : SearchState Row) (n : ℕ) (es : List RowEvent) → joins_in es ≤ n
    → meet_all (go_on s n) es ≡ go_on (foldl offer_to s (offers_of es)) (n - joins_in es)
unfolding meet_all meet go_on
run-fits s n [] p = ap (λ (k : ℕ). go_on s k) (omega arith)
run-fits refused n (e ∷ es) p =
    over-stays refused es ∙ sym (ap (λ (s : SearchState Row). go_on s (n - joins_in (e ∷ es))) (refused-fold (offers_of (e ∷ es))))
run-fits (going ks h l) n (offered o ∷ es) p = run-fits (offer_to (going ks h l) o) n es p
run-fits (going ks h l) zero (tested j ∷ es) p = absurd (omega (arith, p))
run-fits (going ks h l) (suc n) (tested j ∷ es) p =
    run-fits (going ks h l) n es (omega (arith, p))
    ∙ ap (λ (k : ℕ). go_on (foldl offer_to (going ks h l) (offers_of es)) k) (omega arith)

pub run-stops : (s : SearchState Row) (n : ℕ) (es : List RowEvent) → n < joins_in es → is_over (meet_all (go_on s n) es) ≡ true
unfolding meet_all meet go_on is_over
run-stops s n [] p = absurd (omega (arith, p))
run-stops refused n (e ∷ es) p = ap is_over (over-stays refused es)
run-stops (going ks h l) n (offered o ∷ es) p = run-stops (offer_to (going ks h l) o) n es p
run-stops (going ks h l) zero (tested j ∷ es) p = ap is_over (over-stays (going ks h l) es)
run-stops (going ks h l) (suc n) (tested j ∷ es) p = run-stops (going ks h l) n es (omega (arith, p))

goes-on : (s : SearchState Row) (n : ℕ) → (state_of (go_on s n) ≡ refused → ⊥) → go_on s n ≡ on s n
unfolding go_on state_of
goes-on (going ks h l) n f = refl
goes-on refused n f = absurd (f refl)

over-with : (y : Run) → is_over y ≡ true → y ≡ over (state_of y)
unfolding is_over state_of
over-with (over s) e = refl
over-with (on s n) e = absurd (false≢true e)

pub run-finishes : RunFinishes
run-finishes s n es f = go (test (leb (joins_in es) n))
  where
    go : (leb (joins_in es) n ≡ true) ⊎ (leb (joins_in es) n ≡ false) → meet_all (go_on s n) es
        ≡ cond (leb (joins_in es) n) (on (foldl offer_to s (offers_of es)) (n - joins_in es))
        (over (foldl offer_to s (offers_of (up_to n es))))
    go (inl t) =
        let e = run-fits s n es (leb-true (joins_in es) n t) in
        rw t (e ∙ goes-on (foldl offer_to s (offers_of es)) (n - joins_in es) (λ q. f (ap state_of e ∙ q)))
    go (inr t) =
        rw t (over-with (meet_all (go_on s n) es) (run-stops s n es (leb-false (joins_in es) n t)) ∙ ap over (run-states s n es))

-- ---- a block of joins, by whether as many are left

-- with as many left, the offers may be made first, and then the joins spent
pub offered-fits : {l l' : List ℕ} {k k' : Option ℕ} {m : ℕ} {b : Bool} (es : List RowEvent) → b ≡ has_left k m → b ≡ true → m ≡ joins_in es
    → Offered l l' (offers_of es) → Spent k k' m → Met l k l' k' es
unfolding run_at meet_all has_left
offered-fits {l} {l'} {k = Some n} {m = m} es e t q o w =
    let fits : leb m n ≡ true = sym e ∙ t in
    record {
      is =
          w.is (view l') ∙ skip-go (view l') n m ∙ rw fits refl
          ∙ ap (λ (s : SearchState Row). go_on s (n - m)) o.is
          ∙ rw q (sym (run-fits (view l) n es (omega (arith, leb-true m n fits))));
    }
offered-fits {k = None} es e t q o w = absurd (false≢true (sym e ∙ t))

-- with fewer, the search is over behind them
pub stopped : {l l' : List ℕ} {k k' : Option ℕ} {m : ℕ} {b : Bool} (es : List RowEvent) → b ≡ has_left k m → b ≡ false → m ≡ joins_in es
    → Met l k l' k' es → is_over (run_at (view l') k') ≡ true
unfolding run_at meet_all has_left
stopped {l} {k = Some n} {m = m} es e t q w = ap is_over w.is ∙ run-stops (view l) n es (omega (arith, leb-false m n (sym e ∙ t)))
stopped {l} {k = None} es e t q w = ap is_over (w.is ∙ over-stays (view l) es) ∙ sym (is-over (view l))

-- a join, and then other events
skip-one : (y : Run) (j : Join ℕ) → skip 1 y ≡ meet y (tested j)
unfolding skip meet
skip-one (over s) j = refl
skip-one (on s zero) j = refl
skip-one (on s (suc n)) j = let e : suc n - 1 ≡ n = omega arith in rw (le-leb 1 (suc n) (omega arith), e) refl

pub join-then : {l l' : List ℕ} {k k' : Option ℕ} {j : Join ℕ} {es : List RowEvent} → Spent k k' 1 → Met l k' l' k' es
    → Met l k l' k' (tested j ∷ es)
unfolding meet_all
join-then {l} {k = k} {j = j} {es = es} w m =
    record { is = m.is ∙ ap (λ (y : Run). meet_all y es) (w.is (view l) ∙ skip-one (run_at (view l) k) j) }
