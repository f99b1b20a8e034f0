-- What every loop of the search cites. A loop goes through a list of numbers, and its invariant is that what is left of the list, offered
-- to the present state, gives what the whole list gives from the first state.
use mathlib.Core.Path.{◌≡◌, refl, sym, ◌∙◌, ap, subst}
use mathlib.Core.Logic.{◌⊎◌, inl, inr}
use mathlib.Core.Bool.{Bool, true, false, false≢true, not, cond, ◌&&◌}
use lib.Dec.{eqb, ltb}
use borrow.Author.Tests.{eqb-true, ltb-true, ltb-false}
use Rattle.laws.proofs.Agree.{take_while-agree}
use Rattle.laws.proofs.Bools.{and-true-left, and-true-right, test}
use mathlib.Core.List.{List, [], ◌∷◌, Memᴰ}
use Prim.Native.Nat.{ℕ, ◌+◌, ◌-◌, ◌≤◌, ◌<◌}
use native.Mathlib.Omega.{arith}
use Rattle.laws.specs.Lists.{concat_map, foldl, span}
use Rattle.laws.specs.Bits.{bits_of, low_of, cleared}
use Rattle.laws.proofs.Folds.{span-mem}
use Rattle.laws.proofs.Tails.{take_while-mem}
use lib.Count.{count_trailing_zeros}
use Rattle.std.specs.Int.Bits.{bit_and}
use Rattle.laws.proofs.Bits.{bits_none, bits-set, lowest-first}
use Rattle.laws.proofs.Places.{span-cons, span-nil}
use Rattle.profile.specs.Found.{Row}
use Rattle.profile.specs.Kept.{SearchState, refused}
use Rattle.search_state.specs.View.{view, open_of}
use Rattle.candidate.specs.Offer.{offer_to}
use Rattle.candidate.proofs.OfferLaws.{offers-late}
use Rattle.search_state.proofs.ViewLaws.{view-is-refused}
use Rattle.search_input.specs.declared.FeedCall.{FeedCall}
use Rattle.search_input.specs.declared.FirstRide.{FirstRide}
use Rattle.search_input.specs.Feed.{call_at, same_run}
use Rattle.ways.specs.Rides.{first_rides}
use Rattle.rides.specs.declared.firsts.FirstRides.{FirstRides}
use Rattle.rides.specs.declared.lent.Lent.{Lent}
use Rattle.rides.specs.Firsts.{firsts_left}
use Rattle.rides.specs.Places.{sheet_in, joins_in}
use Rattle.rides.specs.Rows.{first_at, network_of}
use Rattle.rides.specs.Loops.{later_from, first_rows_of}
use Rattle.rides.specs.Offered.{After, Offered}
use Rattle.rides.specs.Sheets.{joins_of}
use Rattle.rides.proofs.RestLaws as generic

-- one row is offered
pub single : {l l' : List ℕ} {o : Row} → view l' ≡ offer_to (view l) o → Offered l l' (o ∷ [])
single e = record { is = e }

-- the same of a row that is written otherwise
pub single_as : {l l' : List ℕ} {o r : Row} → o ≡ r → view l' ≡ offer_to (view l) o → Offered l l' (r ∷ [])
single_as {l} {l'} e w = subst (λ (x : Row). Offered l l' (x ∷ [])) e (single w)

-- nothing follows where one can't alight
pub unalighted : {S X E : Type 0} {see : S → X} {step : X → E → X} {s : S} (es : List E) (feed : List ℕ) (m : ℕ) {a : FeedCall}
    → a ≡ call_at feed m → a.alight ≡ false → After see step s s (cond (call_at feed m).alight es [])
unalighted es feed m e f = rw (sym (ap (λ (a : FeedCall). a.alight) e) ∙ f) generic.nothing

-- two tests in one
cond-and : {E : Type 0} (b c : Bool) (es : List E) → b && c ≡ false → cond b (cond c es []) [] ≡ []
cond-and true true es h = absurd (false≢true (sym h))
cond-and true false es h = refl
cond-and false c es h = refl

-- what follows of the rides that board at j, by the one test that the code makes of boarding and joining
module _ {S X E : Type 0} {see : S → X} {step : X → E → X} (feed changes : List ℕ) (p : FirstRide) (j : ℕ) (es : List E) {x : Bool}
    (e : x ≡ ((call_at feed j).board && joins_of feed changes p j)) where
  pub on-board : {s t : S} → x ≡ true → After see step s t es
      → After see step s t (cond (call_at feed j).board (cond (joins_of feed changes p j) es []) [])
  on-board t o =
      let h = sym e ∙ t in
      rw (and-true-left (call_at feed j).board _ h, and-true-right (call_at feed j).board _ h) o

  pub off-board : {s : S} → x ≡ false → After see step s s (cond (call_at feed j).board (cond (joins_of feed changes p j) es []) [])
  off-board t = rw (cond-and (call_at feed j).board (joins_of feed changes p j) es (sym e ∙ t)) generic.nothing

-- a refused search stays as it is, whatever is offered
refused_all : (s : SearchState Row) (os : List Row) → s ≡ refused → foldl offer_to s os ≡ s
refused_all s os e = ap (λ (r : SearchState Row). foldl offer_to r os) e ∙ offers-late refused os (λ o m. refl) ∙ sym e

pub run-same : (a b c : FeedCall) → same_run a b ≡ true → same_run a c ≡ same_run b c
unfolding same_run
run-same a b c h = rw (eqb-true a.trip b.trip (and-true-left _ _ h), eqb-true a.day b.day (and-true-right (eqb a.trip b.trip) _ h))

-- ---- a loop over a list: of set digits, of calls, of first rides

abbrev pub Rest : {A : Type 0} → List ℕ → List ℕ → (A → List Row) → List A → List A → Type 0
Rest l₀ l g all rest = generic.Rest view offer_to l₀ l g all rest

-- of a pass over the first rides: of those of `lent`, at a depth, what is left
abbrev pub PassRest : Lent → ℕ → List ℕ → List ℕ → FirstRides → Type 0
PassRest lent depth l₀ l left =
    let s = sheet_in lent in
    let joins = joins_in lent in
    let n = lent.calls.n in
    Rest l₀ l (λ f. first_rows_of s joins depth n (first_at s f) f.ride.b f.ride.a) (first_rides (network_of s joins) (span 0 n))
    (firsts_left left)

-- where the search is refused, a loop may end
pub rest-stops : {A : Type 0} {g : A → List Row} {l₀ l : List ℕ} {all rest : List A} {r : Bool} → r ≡ not (open_of l) → r ≡ true
    → Rest l₀ l g all rest → Offered l₀ l (concat_map g all)
rest-stops {g = g} {l = l} {rest = rest} e t w =
    generic.rest-stays (refused_all (view l) (concat_map g rest) (shut (open_of l) refl (sym e ∙ t))) w
  where
    shut : (b : Bool) → open_of l ≡ b → not b ≡ true → view l ≡ refused
    shut true p q = (view-is-refused l).1 (p ∙ ap not q)
    shut false p q = (view-is-refused l).1 p

-- ---- what comes next: of the set digits of a mask

pub digits-none : {m : ℕ} → m ≡ 0 → bits_of m ≡ []
digits-none e = ap bits_of e ∙ bits_none

pub digits-first : {m : ℕ} → (m ≡ 0 → ⊥) → m < 16 → bits_of m ≡ count_trailing_zeros 8 m ∷ bits_of (bit_and m (m - 1))
unfolding low_of cleared
digits-first {m} f h = (lowest-first m f h).parts

pub digits-small : (m : ℕ) {x : ℕ} {xs : List ℕ} → bits_of m ≡ x ∷ xs → x < 4
unfolding bits_of
digits-small m e = (bits-set 4 m (rw e (Memᴰ.head refl))).0

-- ---- of the later calls of a run, by the test of the next one

module _ (at : ℕ → FeedCall) (n j : ℕ) {t : Bool} (et : t ≡ (ltb (j + 1) n && same_run (at j) (at (j + 1)))) where
  pub run-end : t ≡ false → later_from at n j (j + 1) ≡ []
  unfolding later_from
  run-end f = go (test (ltb (j + 1) n))
    where
      go : (ltb (j + 1) n ≡ true) ⊎ (ltb (j + 1) n ≡ false) → later_from at n j (j + 1) ≡ []
      go (inl h) = let k : same_run (at j) (at (j + 1)) ≡ false = rw h at (sym et ∙ f) in rw (span-cons (j + 1) n (ltb-true _ _ h), k)
      go (inr h) = rw (span-nil (j + 1) n (ltb-false _ _ h))

  module _ (e : t ≡ true) where
    pub run-next : j + 1 < n
    run-next = ltb-true _ _ (and-true-left _ _ (sym et ∙ e))

    pub run-on : later_from at n j (j + 1) ≡ (j + 1) ∷ later_from at n (j + 1) (j + 1 + 1)
    unfolding later_from
    run-on =
        let same : same_run (at j) (at (j + 1)) ≡ true = and-true-right (ltb (j + 1) n) _ (sym et ∙ e) in
        rw (span-cons (j + 1) n run-next, same)
        (ap (λ (xs : List ℕ). (j + 1) ∷ xs)
        (take_while-agree (λ k. same_run (at j) (at k)) (λ k. same_run (at (j + 1)) (at k)) (span (j + 1 + 1) (n - (j + 1 + 1)))
        (λ k _. run-same (at j) (at (j + 1)) (at k) same)))

-- such a call is one of those that are read, and of the run
pub record Within (at : ℕ → FeedCall) (n i k : ℕ) : Type 0 where
  pub within : k < n
  pub same : same_run (at i) (at k) ≡ true

pub later-within : (at : ℕ → FeedCall) (n i j : ℕ) {k : ℕ} → Memᴰ k (later_from at n i j) → Within at n i k
unfolding later_from
later-within at n i j {k} w =
    let (m, t) = take_while-mem (λ k. same_run (at i) (at k)) (span j (n - j)) w in
    let (low, high) = span-mem j (n - j) m in
    record { within = omega arith; same = t }

module _ {S X E : Type 0} {see : S → X} {step : X → E → X} {g : ℕ → List E} {first now : S} (at : ℕ → FeedCall) {n j k : ℕ}
    {rest rest' : List ℕ} (e : rest ≡ k ∷ rest') (w : generic.Rest see step first now g (later_from at n j (j + 1)) rest) where
  pub later-has : Within at n j k
  later-has = later-within _ _ _ _ (generic.rest-has e w)

  pub later-placed : j < n → n ≤ 512 → (j < 512) × (k < 512)
  later-placed h f = (omega arith, omega (arith, later-has.within))
