-- What the counted loops cite beside `RestLaws` of crate `rides`: their invariants, and that they may end where the search is over.
use mathlib.Core.Path.{◌≡◌, sym, ◌∙◌}
use mathlib.Core.Bool.{Bool, true}
use mathlib.Core.List.{List}
use Prim.Native.Nat.{ℕ}
use Rattle.std.specs.Prelude.{Option}
use Rattle.laws.specs.Lists.{concat_map, span}
use Rattle.ways.specs.Rides.{first_rides}
use Rattle.search_state.specs.View.{view}
use Rattle.rides.specs.declared.firsts.FirstRides.{FirstRides}
use Rattle.rides.specs.declared.lent.Lent.{Lent}
use Rattle.rides.specs.Firsts.{firsts_left}
use Rattle.rides.specs.Places.{sheet_in, joins_in}
use Rattle.rides.specs.Rows.{first_at, network_of}
use Rattle.rides.proofs.RestLaws as generic
use Rattle.limited_rides.specs.RowEvents.{first_events}
use Rattle.limited_rides.specs.Runs.{RowEvent, meet, meet_all, is_over, run_at, seen, Met}
use Rattle.limited_rides.proofs.RunLaws.{over-all}

abbrev pub Rest : {A : Type 0} → List ℕ → Option ℕ → List ℕ → Option ℕ → (A → List RowEvent) → List A → List A → Type 0
Rest l₀ k₀ l k g all rest = generic.Rest seen meet (record { state = l₀; joins = k₀ }) (record { state = l; joins = k }) g all rest

-- of the loop over the first rides: of those of `lent`, at a depth, what is left
abbrev pub PathRest : Lent → ℕ → List ℕ → Option ℕ → List ℕ → Option ℕ → FirstRides → Type 0
PathRest lent depth l₀ k₀ l k left =
    let s = sheet_in lent in
    let joins = joins_in lent in
    let n = lent.calls.n in
    Rest l₀ k₀ l k (λ f. first_events s joins depth n (first_at s f)) (first_rides (network_of s joins) (span 0 n)) (firsts_left left)

-- where the search is over, a loop may end
pub rest-stops : {A : Type 0} {g : A → List RowEvent} {l₀ l : List ℕ} {k₀ k : Option ℕ} {all rest : List A} {r : Bool}
    → r ≡ is_over (run_at (view l) k) → r ≡ true → Rest l₀ k₀ l k g all rest → Met l₀ k₀ l k (concat_map g all)
unfolding meet_all
rest-stops {g = g} {l = l} {k = k} {rest = rest} e t w = generic.rest-stays (over-all (run_at (view l) k) (concat_map g rest) (sym e ∙ t)) w
