-- How the earliest arrival of a ride at a target is found: over the targets of a call, over the calls from the right.
use Rattle.std.specs.Prelude.{None, Option, Some}
use mathlib.Core.Path.{◌≡◌, refl, sym, ap, ap₂, ◌∙◌}
use mathlib.Core.Bool.{Bool, true, false, cond, ◌&&◌}
use mathlib.Core.List.{List, [], ◌∷◌, ◌++◌, map}
use Prim.Native.Nat.{ℕ, ◌+◌, ◌-◌, ◌≤◌, ◌<◌, min}
use native.Mathlib.Omega.{arith}
use Rattle.laws.specs.Lists.{concat_map, span}
use Rattle.laws.specs.Bits.{bits_of}
use Rattle.laws.proofs.Places.{span-cons, span-nil, concat_map-cong, tails-span}
use Rattle.search_input.specs.Feed.{call_at, same_run, target_mask, target_walk_of, arrival_of}
use Rattle.rides.specs.Rows.{network_of}
use Rattle.rides.specs.Loops.{later_from}
use Rattle.rides.specs.Sheets.{joins_of, sheet_of}
use lib.Dec.{ltb}
use Rattle.rides.proofs.LoopLaws.{run-end, run-next, run-on}
use Rattle.limited_rides.specs.Earliest.{sooner, soonest, target_due, alight_due, later_due, board_due, ride_due, DueByRides}
use Rattle.limited_rides.proofs.EventRowLaws.{over-rides}

-- ---- the least of a list

sooner-none : (s : Option ℕ) → sooner s None ≡ s
unfolding sooner
sooner-none None = refl
sooner-none (Some x) = refl

sooner-sooner : (s t u : Option ℕ) → sooner (sooner s t) u ≡ sooner s (sooner t u)
unfolding sooner
sooner-sooner None t u = refl
sooner-sooner (Some x) None u = refl
sooner-sooner (Some x) (Some y) None = refl
sooner-sooner (Some x) (Some y) (Some z) = let e : min (min x y) z ≡ min x (min y z) = omega arith in ap Some e

soonest-append : (xs ys : List ℕ) → soonest (xs ++ ys) ≡ sooner (soonest xs) (soonest ys)
unfolding soonest sooner
soonest-append [] ys = refl
soonest-append (x ∷ xs) ys =
    ap (sooner (Some x)) (soonest-append xs ys) ∙ sym (sooner-sooner (Some x) (soonest xs) (soonest ys))

pub soonest-none : None ≡ soonest []
unfolding soonest
soonest-none = refl

-- ---- the targets of a mask

-- t and what is left give the least of all
pub record InDue (feed : List ℕ) (a mask : ℕ) (t : Option ℕ) (left : ℕ) : Type 0 where
  pub rest : sooner t (soonest (target_due feed a left)) ≡ soonest (target_due feed a mask)

pub due-start : {feed : List ℕ} {a mask : ℕ} → InDue feed a mask None mask
unfolding sooner
due-start = record { rest = refl }

pub due-turn : {feed : List ℕ} {a mask left left' x w d : ℕ} {t t' : Option ℕ} → bits_of left ≡ x ∷ bits_of left'
    → w ≡ target_walk_of feed x → d ≡ arrival_of w a
    → t' ≡ sooner t (Some d) → InDue feed a mask t left → InDue feed a mask t' left'
unfolding soonest target_due
due-turn {feed} {a} {left = left} {left' = left'} {x} {d = d} {t = t} eb ew ed et i =
    let d' : d ≡ arrival_of (target_walk_of feed x) a = ed ∙ ap (λ (y : ℕ). arrival_of y a) ew in
    let e : soonest (target_due feed a left) ≡ sooner (Some d) (soonest (target_due feed a left')) = rw (d', eb) refl in
    record { rest = rw et (sooner-sooner t (Some d) (soonest (target_due feed a left')) ∙ ap (sooner t) (sym e) ∙ i.rest) }

pub due-done : {feed : List ℕ} {a mask left : ℕ} {t : Option ℕ} → bits_of left ≡ [] → InDue feed a mask t left
    → t ≡ soonest (target_due feed a mask)
unfolding soonest target_due
due-done {feed} {a} {left = left} {t = t} e i =
    let none : soonest (target_due feed a left) ≡ None = rw e refl in
    sym (sooner-none t) ∙ ap (sooner t) (sym none) ∙ i.rest

-- ---- the calls of a run

module _ (feed : List ℕ) (n j : ℕ) {r : Bool} (er : r ≡ (ltb (j + 1) n && same_run (call_at feed j) (call_at feed (j + 1)))) where
  pub later-end : r ≡ false → None ≡ soonest (later_due feed n j)
  unfolding later_due soonest
  later-end e = rw (run-end (call_at feed) n j er e) refl

  pub later-one : {v next t : Option ℕ} → r ≡ true → v ≡ soonest (alight_due feed (j + 1))
      → (j + 1 < n → next ≡ soonest (later_due feed n (j + 1)))
      → t ≡ sooner v next
      → t ≡ soonest (later_due feed n j)
  unfolding later_due
  later-one e ev en et =
      rw (run-on (call_at feed) n j er e)
      (et ∙ rw (ev, en (run-next (call_at feed) n j er e))
      (sym (soonest-append (alight_due feed (j + 1)) (concat_map (alight_due feed) (later_from (call_at feed) n (j + 1) (j + 1 + 1))))))

-- ---- the loop stands at j

pub record Due (feed : List ℕ) (n j : ℕ) (next least : Option ℕ) : Type 0 where
  pub low : j ≤ n
  pub here : j < n → next ≡ soonest (later_due feed n j)
  pub all : least ≡ soonest (concat_map (board_due feed n) (span j (n - j)))

pub calls-start : {feed : List ℕ} {n : ℕ} {next : Option ℕ} → Due feed n n next None
calls-start {feed} {n} =
    record {
      low = omega arith;
      here = λ g. absurd (omega arith);
      all = soonest-none
          ∙ sym (ap (λ (js : List ℕ). soonest (concat_map (board_due feed n) js)) (span-nil n n (omega arith)));
    }

pub calls-next : {feed : List ℕ} {n j' : ℕ} {next least : Option ℕ} (j : ℕ) → 0 < j' → j ≡ j' - 1 → Due feed n j' next least → j + 1 < n
    → next ≡ soonest (later_due feed n (j + 1))
calls-next {feed} {n} {j'} j h ej w l =
    let q : j' ≡ j + 1 = omega arith in
    w.here (omega arith) ∙ ap (λ (i : ℕ). soonest (later_due feed n i)) q

board-due : (feed : List ℕ) (n j : ℕ) {next t : Option ℕ} → next ≡ soonest (later_due feed n j) → t ≡ cond (call_at feed j).board next None
    → t ≡ soonest (board_due feed n j)
unfolding board_due
board-due feed n j {next} en et = et ∙ go (call_at feed j).board
  where
    go : (b : Bool) → cond b next None ≡ soonest (cond b (later_due feed n j) [])
    go true = en
    go false = soonest-none

pub calls-turn : {feed : List ℕ} {n j' : ℕ} {next' least' : Option ℕ} (j : ℕ) {next t least : Option ℕ} → 0 < j' → j ≡ j' - 1
    → Due feed n j' next' least'
    → next ≡ soonest (later_due feed n j) → t ≡ cond (call_at feed j).board next None → least ≡ sooner t least' → Due feed n j next least
calls-turn {feed} {n} {j'} {next'} {least'} j {next} {t} {least} h ej w en et el =
    record { low = omega (arith, w.low); here = λ g. en; all = sums }
  where
    sums : least ≡ soonest (concat_map (board_due feed n) (span j (n - j)))
    sums =
        let q : j + 1 ≡ j' = omega arith in
        let here = board-due feed n j en et in
        rw (span-cons j n (omega (arith, w.low)), q, soonest-append (board_due feed n j) (concat_map (board_due feed n) (span j' (n - j'))))
        (el ∙ ap₂ sooner here w.all)

pub calls-done : {feed : List ℕ} {n j : ℕ} {next least : Option ℕ} → j ≡ 0 → Due feed n j next least → least ≡ soonest (ride_due feed n)
unfolding ride_due
calls-done {feed} {n} {j} e w = w.all ∙ ap (λ (i : ℕ). soonest (concat_map (board_due feed n) (span i (n - i)))) e

-- ---- these are the rides

pub due-by-rides : DueByRides
unfolding ride_due board_due later_due alight_due target_due network_of sheet_of later_from
due-by-rides feed changes n =
    let q : n - 0 ≡ n = omega arith in
    sym
    (over-rides (network_of (sheet_of feed) (joins_of feed changes))
    (λ r. map (λ x. arrival_of (target_walk_of feed x) (call_at feed r.a).arrival)
    (bits_of (target_mask feed (call_at feed r.a).stop))) (span 0 n)
    ∙ tails-span _ n n 0 (omega arith) ∙ concat_map-cong _ (board_due feed n) (λ j. refl) (span 0 n)
    ∙ ap (λ (m : ℕ). concat_map (board_due feed n) (span 0 m)) (sym q))
