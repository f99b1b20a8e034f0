-- The first rides as the iterator goes through them: what comes next, how much is left, and that all of them are those of crate `ways`.
use mathlib.Core.Path.{◌≡◌, refl, sym, ap, ◌∙◌}
use mathlib.Core.Bool.{Bool, true, false, cond}
use mathlib.Core.List.{List, [], ◌∷◌, Memᴰ}
use Rattle.laws.proofs.Folds.{span-mem}
use Rattle.laws.proofs.Tails.{take_while-mem}
use Prim.Native.Nat.{ℕ, zero, suc, ◌+◌, ◌-◌, ◌*◌, ◌/◌, ◌%◌, ◌≤◌, ◌<◌}
use native.Mathlib.Omega.{arith}
use lib.Dec.{eqb, leb}
use lib.ListN.{length}
use Rattle.laws.specs.Lists.{concat_map, filterb, take_while, span}
use Rattle.laws.specs.Bits.{bits_from, bits_of}
use Rattle.laws.proofs.Flat.{concat_map-filterb, flat-single}
use Rattle.laws.proofs.Places.{concat_map-cong, tails-span}
use Rattle.ways.specs.Rides.{First, first_ride, first_rides}
use Rattle.ways.proofs.RideLaws as listed
use Rattle.search_input.specs.Feed.{call_at, same_run, origin_mask, origin_walk_of}
use Rattle.rides.specs.Rows.{Joins, network_of}
use Rattle.rides.specs.Sheets.{sheet_of}
use Rattle.rides.specs.Loops.{later_from}
use Rattle.rides.specs.Firsts.{alight_firsts, origin_firsts, board_firsts, firsts_by}

-- ---- what comes next

module _ (feed : List ℕ) (n o i : ℕ) where
  pub next-board : {ks ks' os js js' : List ℕ} (os' : List ℕ) {i' : ℕ} → ks ≡ [] → os ≡ [] → js ≡ i' ∷ js' → ks' ≡ []
      → concat_map (origin_firsts feed n i') os' ≡ board_firsts feed n i'
      → firsts_by feed n o i ks os js ≡ firsts_by feed n o i' ks' os' js'
  next-board os' e eo ej ek w = rw (e, eo, ej, ek, w) refl

-- ---- how much is left

few-bits : (k b m : ℕ) → length (bits_from k b m) ≤ k
few-bits zero b m = omega arith
few-bits (suc k) b m = go (eqb (m % 2) 1) (few-bits k (suc b) (m / 2))
  where
    go : (c : Bool) → length (bits_from k (suc b) (m / 2)) ≤ k
        → length (cond c (b ∷ bits_from k (suc b) (m / 2)) (bits_from k (suc b) (m / 2))) ≤ suc k
    go true h = omega arith
    go false h = omega arith

pub four-bits : (m : ℕ) → length (bits_of m) ≤ 4
unfolding bits_of
four-bits m = few-bits 4 0 m

few-taken : (p : ℕ → Bool) (xs : List ℕ) → length (take_while p xs) ≤ length xs
few-taken p [] = omega arith
few-taken p (x ∷ xs) = go (p x) (few-taken p xs)
  where
    go : (c : Bool) → length (take_while p xs) ≤ length xs → length (cond c (x ∷ take_while p xs) []) ≤ suc (length xs)
    go true h = omega arith
    go false h = omega arith

length-span : (i k : ℕ) → length (span i k) ≡ k
length-span i zero = refl
length-span i (suc k) = ap suc (length-span (suc i) k)

pub taken-below : (p : ℕ → Bool) (i n : ℕ) {k : ℕ} {ks : List ℕ} → take_while p (span i (n - i)) ≡ k ∷ ks → k < n
taken-below p i n {k} e =
    let m : Memᴰ k (take_while p (span i (n - i))) = rw e (Memᴰ.head refl) in
    let h : (i ≤ k) × (k < i + (n - i)) = span-mem i (n - i) (take_while-mem p (span i (n - i)) m).0 in
    omega arith

pub few-later : (p : ℕ → Bool) (i n : ℕ) → length (take_while p (span i (n - i))) ≤ n
few-later p i n = omega (arith, few-taken p (span i (n - i)), length-span i (n - i))

-- ---- of a call and an origin

module _ (feed : List ℕ) (n i o : ℕ) {b : Bool} (e : b ≡ leb (origin_walk_of feed o * 60) (call_at feed i).departure) where
  pub origin-walked : b ≡ true → alight_firsts feed o i (later_from (call_at feed) n i (i + 1)) ≡ origin_firsts feed n i o
  unfolding origin_firsts
  origin-walked t = rw (sym e ∙ t) refl

  pub origin-far : {xs : List ℕ} → b ≡ false → xs ≡ [] → alight_firsts feed o i xs ≡ origin_firsts feed n i o
  unfolding origin_firsts
  origin-far t x = rw (sym e ∙ t, x) refl

-- ---- all of them

module _ (feed : List ℕ) (joins : Joins) (n : ℕ) where
  alone : First ℕ → List (First ℕ)
  alone f = f ∷ []

  ones : (xs : List (First ℕ)) → concat_map alone xs ≡ xs
  unfolding alone
  ones [] = refl
  ones (x ∷ xs) = ap (λ (ys : List (First ℕ)). x ∷ ys) (ones xs)

  run-firsts : (i o : ℕ) → listed.over_run (network_of (sheet_of feed) joins) (λ k. alone (first_ride o i k)) i (span (i + 1) (n - (i + 1)))
      ≡ alight_firsts feed o i (later_from (call_at feed) n i (i + 1))
  unfolding alone later_from network_of sheet_of
  run-firsts i o =
      let ks = take_while (λ k. same_run (call_at feed i) (call_at feed k)) (span (i + 1) (n - (i + 1))) in
      sym (concat_map-filterb (λ k. (call_at feed k).alight) (λ k. first_ride o i k ∷ []) ks)
      ∙ flat-single (first_ride o i) (filterb (λ k. (call_at feed k).alight) ks)

  board-firsts : (i : ℕ) → cond ((network_of (sheet_of feed) joins).board i)
      (concat_map (λ o. listed.over_run (network_of (sheet_of feed) joins) (λ k. alone (first_ride o i k)) i
      (span (i + 1) (n - (i + 1)))) ((network_of (sheet_of feed) joins).origins i)) []
      ≡ board_firsts feed n i
  unfolding board_firsts origin_firsts network_of sheet_of
  board-firsts i =
      ap (λ (r : List (First ℕ)). cond (call_at feed i).board r [])
      (concat_map-filterb (λ o. leb (origin_walk_of feed o * 60) (call_at feed i).departure) _
      (bits_of (origin_mask feed (call_at feed i).stop))
      ∙ concat_map-cong _ (origin_firsts feed n i)
      (λ o. ap (λ (r : List (First ℕ)). cond (leb (origin_walk_of feed o * 60) (call_at feed i).departure) r []) (run-firsts i o))
      (bits_of (origin_mask feed (call_at feed i).stop)))

  pub firsts-all : concat_map (board_firsts feed n) (span 0 n) ≡ first_rides (network_of (sheet_of feed) joins) (span 0 n)
  firsts-all =
      sym
      (sym (ones (first_rides (network_of (sheet_of feed) joins) (span 0 n)))
      ∙ listed.over-firsts (network_of (sheet_of feed) joins) alone (span 0 n) ∙ tails-span _ n n 0 (omega arith)
      ∙ concat_map-cong _ (board_firsts feed n) board-firsts (span 0 n))

  pub firsts-start : {ks os : List ℕ} → ks ≡ [] → os ≡ []
      → firsts_by feed n 0 0 ks os (span 0 (n - 0)) ≡ first_rides (network_of (sheet_of feed) joins) (span 0 n)
  firsts-start e eo = let q : n - 0 ≡ n = omega arith in rw (e, eo, q) firsts-all
