-- What the joins left and the mark tell at the end of a search within a limit.
use mathlib.Core.Path.{◌≡◌, refl, sym, ap, ◌∙◌}
use mathlib.Core.Logic.{◌⊎◌, inl, inr}
use mathlib.Core.Bool.{true, false, cond}
use mathlib.Core.List.{List, [], ◌++◌, map, append-nil}
use Prim.Native.Nat.{ℕ, ◌-◌, min}
use Rattle.std.specs.Prelude.{Option, Some, None}
use native.Mathlib.Omega.{arith}
use lib.Dec.{leb}
use borrow.Author.Tests.{ne_eqb, leb-true, leb-false}
use Rattle.laws.specs.Lists.{foldl, concat_map, span}
use Rattle.ways.specs.Rides.{First, first_rides}
use Rattle.counted.specs.Events.{offered}
use Rattle.laws.proofs.Bools.{test, not-true}
use Rattle.laws.proofs.Places.{concat_map-cong, map-concat_map}
use Rattle.profile.specs.Found.{Row}
use Rattle.profile.specs.Kept.{SearchState, going, refused}
use Rattle.search_state.specs.View.{view}
use Rattle.candidate.specs.Offer.{offer_to}
use Rattle.rides.specs.Offered.{offer_all}
use Rattle.counted.specs.Events.{offers_of, joins_in, up_to, finished}
use Rattle.counted.proofs.EventLaws.{count-is, finished-if}
use Rattle.limited_rides.specs.declared.Tested.{Tested}
use Rattle.limited_rides.specs.Runs.{RowEvent, on, over, go_on, meet_all, state_of, run_at, Met}
use Rattle.search_input.specs.declared.FirstRide.{FirstRide}
use Rattle.rides.specs.Rows.{Sheet, Joins, first_at, network_of}
use Rattle.rides.specs.Loops.{direct_rows, change_rows, first_rows_of, pass_rows}
use Rattle.rides.specs.Sheets.{sheet_of, joins_of}
use Rattle.limited_rides.specs.RowEvents.{change_events, first_events, row_events, events_at}
use Rattle.limited_rides.proofs.EventRowLaws.{events-by-loops}
use Rattle.limited_rides.specs.Within.{Within, told}
use Rattle.limited_rides.proofs.RunLaws.{run-states, run-finishes}

state-go : (s : SearchState Row) (n : ℕ) → state_of (go_on s n) ≡ s
unfolding state_of go_on
state-go (going ks h l) n = refl
state-go refused n = refl

state-at : (s : SearchState Row) (k : Option ℕ) → state_of (run_at s k) ≡ s
unfolding run_at state_of
state-at s (Some n) = state-go s n
state-at s None = refl

-- a search that goes on has its joins left
go_left : (s f : SearchState Row) (m n : ℕ) → go_on s m ≡ on f n → m ≡ n
unfolding go_on
go_left (going ks h l) f m n e = cc
go_left refused f m n e = let z : ◌≡◌ {A = ℕ} 0 1 = cc in absurd (omega arith)

on_read : (s f : SearchState Row) (k : Option ℕ) (n : ℕ) → run_at s k ≡ on f n → k ≡ Some n
unfolding run_at
on_read s f (Some m) n e = ap Some (go_left s f m n e)
on_read s f None n e = let z : ◌≡◌ {A = ℕ} 0 1 = cc in absurd (omega arith)

-- one that is over and not refused has none
go-over : (s f : SearchState Row) (m : ℕ) → (s ≡ refused → ⊥) → go_on s m ≡ over f → ⊥
unfolding go_on
go-over (going ks h l) f m r e = let z : ◌≡◌ {A = ℕ} 0 1 = cc in omega arith
go-over refused f m r e = r refl

over-read : (s f : SearchState Row) (k : Option ℕ) → (s ≡ refused → ⊥) → run_at s k ≡ over f → k ≡ None
unfolding run_at
over-read s f (Some m) r e = absurd (go-over s f m r e)
over-read s f None r e = refl

-- ---- the end

module _ {l l' : List ℕ} {k' : Option ℕ} {limit : ℕ} {es : List RowEvent} (w : Met l (Some limit) l' k' es) where
  from : run_at (view l') k' ≡ meet_all (go_on (view l) limit) es
  unfolding run_at meet_all
  from = w.is

  ended : view l' ≡ foldl offer_to (view l) (offers_of (up_to limit es))
  ended = sym (state-at (view l') k') ∙ ap state_of from ∙ run-states (view l) limit es

  finish : (view l' ≡ refused → ⊥) → run_at (view l') k'
      ≡ cond (leb (joins_in es) limit) (on (foldl offer_to (view l) (offers_of es)) (limit - joins_in es))
      (over (foldl offer_to (view l) (offers_of (up_to limit es))))
  finish r = from ∙ run-finishes (view l) limit es (λ e. r (sym (state-at (view l') k') ∙ ap state_of from ∙ e))

  within : {r : Tested} → r ≡ told limit k' → Within l l' limit es r
  unfolding offer_all
  within {r} e = record { state = ended; joins = λ q. (both q).0; all = λ q. (both q).1 }
    where
      both : (view l' ≡ refused → ⊥) → (r.joins ≡ joins_in (up_to limit es)) × (r.finished ≡ finished limit es)
      both q = go (test (leb (joins_in es) limit))
        where
          go : (leb (joins_in es) limit ≡ true) ⊎ (leb (joins_in es) limit ≡ false)
              → (r.joins ≡ joins_in (up_to limit es)) × (r.finished ≡ finished limit es)
          go (inl t) =
              let m = on_read (view l') (foldl offer_to (view l) (offers_of es)) k' (limit - joins_in es) (rw t at (finish q)) in
              let h = leb-true (joins_in es) limit t in
              let joins : r.joins ≡ limit - (limit - joins_in es) = rw (e, m) refl in
              let all : r.finished ≡ true = rw (e, m) refl in
              (omega (arith, count-is limit es), all ∙ sym ((finished-if limit es).1 h))
          go (inr t) =
              let m = over-read (view l') (foldl offer_to (view l) (offers_of (up_to limit es))) k' q (rw t at (finish q)) in
              let h = leb-false (joins_in es) limit t in
              let joins : r.joins ≡ limit = rw (e, m) refl in
              let all : r.finished ≡ false = rw (e, m) refl in
              let unfinished = not-true (finished limit es) (λ z. let g = (finished-if limit es).0 z in omega arith) in
              (omega (arith, count-is limit es), all ∙ sym unfinished)

-- with no joins
pub apart-change : (s : Sheet) (joins : Joins) (n : ℕ) (f : FirstRide) {depth : ℕ} → (depth ≡ 1 → ⊥) → change_events s joins depth n f ≡ []
unfolding change_events
apart-change s joins n f {depth} z = rw (ne_eqb depth 1 z)

-- at any depth but 1 the events are those at depth 0
pub apart-rows : (s : Sheet) (joins : Joins) (n : ℕ) {depth : ℕ} → (depth ≡ 1 → ⊥) → row_events s joins depth n ≡ row_events s joins 0 n
unfolding row_events first_events
apart-rows s joins n {depth} z =
    λ i. concat_map (λ f. map offered (direct_rows s (first_at s f)) ++ apart f i) (first_rides (network_of s joins) (span 0 n))
  where
    apart : (f : First ℕ) → change_events s joins depth n (first_at s f) ≡ change_events s joins 0 n (first_at s f)
    apart f = apart-change s joins n (first_at s f) z ∙ sym (apart-change s joins n (first_at s f) (λ e. omega arith))

-- at depth 0 they are the offers of the full search
pub direct-events : (s : Sheet) (joins : Joins) (n : ℕ) → row_events s joins 0 n ≡ map offered (pass_rows s joins 0 n)
unfolding row_events first_events change_events pass_rows first_rows_of change_rows
direct-events s joins n =
    concat_map-cong _ (λ f. map offered (direct_rows s (first_at s f) ++ [])) (λ f. each (direct_rows s (first_at s f)))
    (first_rides (network_of s joins) (span 0 n))
    ∙ sym (map-concat_map offered (λ f. direct_rows s (first_at s f) ++ []) (first_rides (network_of s joins) (span 0 n)))
  where
    each : (os : List Row) → ◌≡◌ {A = List RowEvent} (map offered os ++ []) (map offered (os ++ []))
    each os = append-nil (map offered os) ∙ sym (ap (λ (os : List Row). map offered os) (append-nil os))

-- over the lent arrays
pub within-arrays : (f g : List ℕ) (n m depth : ℕ) {l l' : List ℕ} {k' : Option ℕ} {limit : ℕ} {r : Tested} → m ≡ min n 512
    → Met l (Some limit) l' k' (row_events (sheet_of f) (joins_of f g) depth m) → r ≡ told limit k'
    → Within l l' limit (events_at f g n depth) r
within-arrays f g n m depth e w t = rw (events-by-loops f g n depth, ← e) (within w t)
