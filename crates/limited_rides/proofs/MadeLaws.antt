-- How the counts of rides are put in, from the right.
use mathlib.Core.Path.{◌≡◌, refl, sym, ap, ◌∙◌}
use mathlib.Core.Logic.{◌≢◌, ◌⊎◌, inl, inr}
use mathlib.Core.Bool.{Bool, true, false, cond, ◌&&◌}
use mathlib.Core.List.{List, [], ◌∷◌}
use Prim.Native.Nat.{ℕ, zero, suc, ◌+◌, ◌-◌, ◌*◌, ◌≤◌, ◌<◌}
use native.Mathlib.Omega.{arith}
use native.Mathlib.Nat.{eq-or-lt_of_le}
use lib.ListN.{length, get_or, set, length-set}
use lib.Seq.{get_or-set_same, get_or-set_other}
use lib.Dec.{ltb}
use Rattle.laws.specs.Lists.{span, take_while, filterb}
use Rattle.laws.proofs.Lists.{length-filterb}
use Rattle.laws.proofs.Places.{span-cons, span-nil}
use Rattle.search_input.specs.declared.FeedCall.{FeedCall}
use Rattle.search_input.specs.Feed.{call_at, same_run}
use Rattle.rides.specs.Loops.{later_from}
use Rattle.rides.proofs.LoopLaws.{run-end, run-next, run-on}
use Rattle.limited_rides.specs.Counts.{alights_from, rides_from, sum_of, rides_in, Counts}

-- ---- one call

module _ (feed : List ℕ) (n j : ℕ) {r : Bool} (er : r ≡ (ltb (j + 1) n && same_run (call_at feed j) (call_at feed (j + 1)))) where
  pub alights-end : r ≡ false → 0 ≡ alights_from (call_at feed) n j
  unfolding alights_from
  alights-end e = rw (run-end (call_at feed) n j er e)

  pub alights-one : {c : FeedCall} {v : ℕ} → r ≡ true → c ≡ call_at feed (j + 1) → (j + 1 < n → v ≡ alights_from (call_at feed) n (j + 1))
      → cond c.alight (v + 1) v ≡ alights_from (call_at feed) n j
  unfolding alights_from
  alights-one {c} {v} e ec ev = rw (run-on (call_at feed) n j er e, ← ec) (go c.alight)
    where
      go : (b : Bool)
          → cond b (v + 1) v
          ≡ length (cond b ((j + 1) ∷ filterb (λ m. (call_at feed m).alight) (later_from (call_at feed) n (j + 1) (j + 1 + 1)))
          (filterb (λ m. (call_at feed m).alight) (later_from (call_at feed) n (j + 1) (j + 1 + 1))))
      go true = let h = ev (run-next (call_at feed) n j er e) in omega arith
      go false = ev (run-next (call_at feed) n j er e)

length-take_while : (p : ℕ → Bool) (xs : List ℕ) → length (take_while p xs) ≤ length xs
length-take_while p [] = omega arith
length-take_while p (x ∷ xs) = go (p x) (length-take_while p xs)
  where
    go : (b : Bool) → length (take_while p xs) ≤ length xs → length (cond b (x ∷ take_while p xs) []) ≤ suc (length xs)
    go true ih = omega arith
    go false ih = omega arith

length-span : (a n : ℕ) → length (span a n) ≡ n
length-span a zero = refl
length-span a (suc n) = ap suc (length-span (suc a) n)

pub alights-few : (feed : List ℕ) (n j : ℕ) → alights_from (call_at feed) n j ≤ n
unfolding alights_from later_from
alights-few feed n j =
    let p : ℕ → Bool = λ k. same_run (call_at feed j) (call_at feed k) in
    let xs = span (j + 1) (n - (j + 1)) in
    omega (
      arith,
      length-filterb (λ m. (call_at feed m).alight) (take_while p xs),
      length-take_while p xs,
      length-span (j + 1) (n - (j + 1)),
    )

-- ---- the loop stands at j

pub record Counted (k feed : List ℕ) (n j next total : ℕ) : Type 0 where
  pub long : length k ≡ 512
  pub low : j ≤ n
  pub board : (i : ℕ) → j ≤ i → i < n → get_or k i 0 ≡ rides_from (call_at feed) n i
  pub here : j < n → next ≡ alights_from (call_at feed) n j
  pub small : next ≤ n
  pub sum : total ≡ sum_of (rides_from (call_at feed) n) (span j (n - j))
  pub bound : total ≤ (n - j) * 512

pub counted_start : {k feed : List ℕ} {n : ℕ} → length k ≡ 512 → Counted k feed n n 0 0
counted_start {k} {feed} {n} h =
    record {
      long = h;
      low = omega arith;
      board = λ i l g. absurd (omega arith);
      here = λ g. absurd (omega arith);
      small = omega arith;
      sum = sym (ap (sum_of (rides_from (call_at feed) n)) (span-nil n n (omega arith)));
      bound = omega arith;
    }

module _ {k feed : List ℕ} {n j' next' total : ℕ} (j : ℕ) {next v : ℕ} (hn : n ≤ 512) (h : 0 < j') (ej : j ≡ j' - 1)
    (w : Counted k feed n j' next' total)
    (e : next ≡ alights_from (call_at feed) n j) (ev : v ≡ cond (call_at feed j).board next 0) where
  is : v ≡ rides_from (call_at feed) n j
  unfolding rides_from
  is = rw (← e) ev

  most : v ≤ 512
  most = go (call_at feed j).board ev
    where
      go : (b : Bool) → v ≡ cond b next 0 → v ≤ 512
      go true q = omega (arith, alights-few feed n j)
      go false q = omega arith

  pub counted-fits : total + v < 4294967296
  counted-fits = omega (arith, w.bound, w.low, most)

  pub counted-turn : Counted (set k j v) feed n j next (total + v)
  counted-turn =
      record {
        long = length-set k j v ∙ w.long;
        low = omega (arith, w.low);
        board = λ i l g. go i g (eq-or-lt_of_le l);
        here = λ g. e;
        small = omega (arith, alights-few feed n j);
        sum = sums;
        bound = omega (arith, w.bound, w.low, most);
      }
    where
      go : (i : ℕ) → i < n → (j ≡ i) ⊎ (j < i) → get_or (set k j v) i 0 ≡ rides_from (call_at feed) n i
      go i g (inl q) = rw (← q, get_or-set_same k j v 0 (omega (arith, w.long, w.low))) is
      go i g (inr l) = let z : i ≢ j = λ q. omega arith in get_or-set_other k j i v 0 z ∙ w.board i (omega arith) g

      sums : total + v ≡ sum_of (rides_from (call_at feed) n) (span j (n - j))
      sums =
          let q : j + 1 ≡ j' = omega arith in
          rw (span-cons j n (omega (arith, w.low)), q) (omega (arith, w.sum, is))

pub counted-done : {k : List ℕ} {feed : List ℕ} {n j next total : ℕ} → j ≡ 0 → Counted k feed n j next total
    → Counts (record { board = k; all = total }) feed n
unfolding rides_in
counted-done {k} {feed} {n} {j} {next} {total} e w =
    record {
      board = λ i g. w.board i (omega arith) g;
      all = w.sum ∙ ap (λ (i : ℕ). sum_of (rides_from (call_at feed) n) (span i (n - i))) e;
    }

-- what the next call of the loop is handed
pub counted_next : {k feed : List ℕ} {n j' next' total : ℕ} (j : ℕ) → 0 < j' → j ≡ j' - 1 → Counted k feed n j' next' total → j + 1 < n
    → next' ≡ alights_from (call_at feed) n (j + 1)
counted_next {feed = feed} {n = n} {j' = j'} j h ej w l =
    let q : j' ≡ j + 1 = omega arith in
    w.here (omega arith) ∙ ap (λ (i : ℕ). alights_from (call_at feed) n i) q
