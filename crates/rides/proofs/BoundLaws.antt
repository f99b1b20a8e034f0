-- How the numbers that bound last rides are put in: over the targets of a call, over the calls from the right, over the times of departure.
use mathlib.Core.Path.{◌≡◌, refl, sym, ap, ◌∙◌}
use mathlib.Core.Logic.{◌≢◌, ◌⊎◌, inl, inr}
use mathlib.Core.Bool.{Bool, true, false, false≢true, ◌&&◌}
use mathlib.Core.List.Memᴰ
use mathlib.Core.List.{List, [], ◌∷◌, Memᴰ}
use Prim.Native.Nat.{ℕ, ◌+◌, ◌/◌, ◌≤◌, ◌<◌, min}
use native.Mathlib.Omega.{arith}
use native.Mathlib.Nat.{eq-or-lt_of_le}
use lib.Dec.{eqb, ltb}
use lib.ListN.{length, get_or, set}
use lib.Seq.{get_or-set_same, get_or-set_other}
use borrow.Author.Tests.{eqb-true, eqb-false}
use Rattle.laws.specs.Bits.{bits_of}
use Rattle.laws.proofs.Bools.{test}
use Rattle.search_input.specs.declared.FeedCall.{FeedCall}
use Rattle.search_input.specs.Feed.{call_at, same_run, target_mask, target_walk_of, arrival_of}
use Rattle.rides.specs.Loops.{later_from}
use Rattle.rides.specs.Bounds.{AtTargets, AtCall, AtBoard, bucket_of, InBucket, Bounds, Filled, Lowered, Suffix}
use Rattle.rides.proofs.LoopLaws.{run-end, run-next, run-on}

-- ---- the targets of a mask

-- t is early enough for those before, so that what is early enough for those left is for all
pub record InMask (feed : List ℕ) (a mask t left : ℕ) : Type 0 where
  pub rest : (s : ℕ) → s ≤ t → AtTargets feed a left s → AtTargets feed a mask s

pub mask-start : {feed : List ℕ} {a mask t : ℕ} → InMask feed a mask t mask
mask-start = record { rest = λ s l w. w }

pub mask-turn : {feed : List ℕ} {a mask t left left' x d t' : ℕ} → bits_of left ≡ x ∷ bits_of left'
    → d ≤ arrival_of (target_walk_of feed x) a → t' ≡ min t d
    → InMask feed a mask t left → InMask feed a mask t' left'
unfolding AtTargets
mask-turn {feed} {a} {t = t} {left} {left'} {x} {d} {t'} e h et i =
    record { rest = λ s l w. i.rest s (omega arith) (λ y m. go s l w y (Memᴰ.cases_cons (rw e at m))) }
  where
    go : (s : ℕ) → s ≤ t' → ((y : ℕ) → Memᴰ y (bits_of left') → s ≤ arrival_of (target_walk_of feed y) a) → (y : ℕ)
        → (y ≡ x) ⊎ Memᴰ y (bits_of left') → s ≤ arrival_of (target_walk_of feed y) a
    go s l w y (inl q) = rw q (omega arith)
    go s l w y (inr m) = w y m

pub mask-done : {feed : List ℕ} {a mask t left : ℕ} → bits_of left ≡ [] → InMask feed a mask t left → AtTargets feed a mask t
unfolding AtTargets
mask-done {t = t} e i = i.rest t (omega arith) (λ y m. absurd (Memᴰ.not-nil (rw e at m)))

-- ---- a call that one can alight at, or not

pub alight-some : (feed : List ℕ) (m mask t : ℕ) {c : FeedCall} → c ≡ call_at feed m → mask ≡ target_mask feed c.stop
    → AtTargets feed c.arrival mask t → AtCall feed m t
unfolding AtCall
alight-some feed m mask t ec em w _ = rw (← ec, ← em) w

pub alight-none : (feed : List ℕ) (m t : ℕ) {c : FeedCall} → c ≡ call_at feed m → c.alight ≡ false → AtCall feed m t
unfolding AtCall
alight-none feed m t ec e y = absurd (false≢true (sym e ∙ ap (λ (z : FeedCall). z.alight) ec ∙ y))

-- ---- the calls of a run

module _ (feed : List ℕ) (n j t : ℕ) where
  pub board-last : {r : Bool} → r ≡ (ltb (j + 1) n && same_run (call_at feed j) (call_at feed (j + 1))) → r ≡ false → AtBoard feed n j t
  unfolding AtBoard
  board-last er e m w = absurd (Memᴰ.not-nil (rw (run-end (call_at feed) n j er e) at w))

  pub board-next : {l : List ℕ} (d : ℕ) {r : Bool} → r ≡ (ltb (j + 1) n && same_run (call_at feed j) (call_at feed (j + 1))) → r ≡ true
      → Filled l feed n (j + 1) → AtCall feed (j + 1) d → t ≡ min (get_or l (j + 1) 0) d → AtBoard feed n j t
  unfolding AtBoard AtCall AtTargets
  board-next {l} d er e f w et m i y x z = go (Memᴰ.cases_cons (rw (run-on (call_at feed) n j er e) at i))
    where
      go : (m ≡ j + 1) ⊎ Memᴰ m (later_from (call_at feed) n (j + 1) (j + 1 + 1))
          → t ≤ arrival_of (target_walk_of feed x) (call_at feed m).arrival
      go (inl q) = let g = w (rw q at y) x (rw q at z) in rw q (omega arith)
      go (inr k) = let g = f.board (j + 1) (omega arith) (run-next (call_at feed) n j er e) m k y x z in omega arith

-- ---- the calls from the right

module _ {b c feed : List ℕ} {n j : ℕ} (t : ℕ) (long : length b ≡ 1024) (hn : n ≤ 512) (hj : j < n) (w : AtBoard feed n j t)
    (f : Filled b feed n (j + 1)) (v : Lowered (set b j t) c feed j) where
  kept : (i : ℕ) → j < i → i < 512 → get_or c i 0 ≡ get_or b i 0
  kept i l h =
      let k : i ≢ j = λ e. omega arith in
      v.low i h ∙ get_or-set_other b j i t 0 k

  pub filled : Filled c feed n j
  unfolding InBucket bucket_of
  filled = record { board = λ i l h. on_board i h (eq-or-lt_of_le l); bucket = λ i l h. in_bucket i h (eq-or-lt_of_le l) }
    where
      on_board : (i : ℕ) → i < n → (j ≡ i) ⊎ (j < i) → AtBoard feed n i (get_or c i 0)
      on_board i h (inl e) = rw (← e, v.low j (omega arith), get_or-set_same b j t 0 (omega arith)) w
      on_board i h (inr l) = rw (kept i l (omega arith)) (f.board i (omega arith) h)

      in_bucket : (i : ℕ) → i < n → (j ≡ i) ⊎ (j < i) → InBucket c feed i
      in_bucket i h (inl e) = rw e at v.here
      in_bucket i h (inr l) =
          let k : 512 + (call_at feed i).departure / 128 ≢ j = λ e. omega arith in
          λ y.
          let (p, q) = f.bucket i (omega arith) h y in (
            p,
            omega (
              arith,
              v.less (512 + (call_at feed i).departure / 128),
              get_or-set_other b j (512 + (call_at feed i).departure / 128) t 0 k,
              kept i l (omega arith),
            ),
          )

pub filled_none : {b feed : List ℕ} {n : ℕ} → Filled b feed n n
filled_none = record { board = λ i l h. absurd (omega arith); bucket = λ i l h. absurd (omega arith) }

pub filled-same : {b feed : List ℕ} {n i j : ℕ} → i ≡ j → Filled b feed n i → Filled b feed n j
filled-same e f = rw e at f

-- ---- the number for a departure

module _ {b feed : List ℕ} {j : ℕ} {c : FeedCall} (ec : c ≡ call_at feed j) where
  pub lowered : {q t : ℕ} → length b ≡ 1024 → j < 512 → q ≡ bucket_of c.departure → q < 1024 → 512 ≤ q
      → t ≡ min (get_or b q 0) (get_or b j 0) → Lowered b (set b q t) feed j
  unfolding InBucket
  lowered {q} {t} long h eq l g et =
      let k : j ≢ q = λ e. omega arith in
      record {
        low = λ i s. let k : i ≢ q = λ e. omega arith in get_or-set_other b q i t 0 k;
        less = λ p. go p (test (eqb p q));
        here = λ _. rw (← ec, ← eq) (l, omega (arith, get_or-set_same b q t 0 (omega arith), get_or-set_other b q j t 0 k));
      }
    where
      go : (p : ℕ) → (eqb p q ≡ true) ⊎ (eqb p q ≡ false) → get_or (set b q t) p 0 ≤ get_or b p 0
      go p (inl e) = let s : p ≡ q = eqb-true p q e in rw s (omega (arith, get_or-set_same b q t 0 (omega arith)))
      go p (inr e) = omega (arith, get_or-set_other b q p t 0 (eqb-false p q e))

  pub lowered_none : c.board ≡ false → Lowered b b feed j
  unfolding InBucket
  lowered_none e =
      record { low = λ i s. refl; less = λ p. omega arith; here = λ y. absurd (false≢true (sym e ∙ ap (λ (z : FeedCall). z.board) ec ∙ y)) }

-- ---- the later departures: the loop stands at q

pub record From (b₀ b : List ℕ) (q : ℕ) : Type 0 where
  pub long : length b ≡ 1024
  pub low : 512 ≤ q
  pub high : q < 1024
  pub before : (i : ℕ) → i < q → get_or b i 0 ≡ get_or b₀ i 0
  pub least : (p r : ℕ) → q ≤ p → p ≤ r → r < 1024 → get_or b p 0 ≤ get_or b₀ r 0

-- ---- all of it

pub bounds-made : {b c feed : List ℕ} {n : ℕ} → n ≤ 512 → Filled b feed n 0 → Suffix b c → Bounds c feed n
unfolding InBucket bucket_of
bounds-made {b} {c} {feed} {n} hn f s =
    record {
      board = λ j h. rw (s.low j (omega arith)) (f.board j (omega arith) h);
      after = λ t j h y l.
          let (p, q) = f.bucket j (omega arith) h y in
          omega (
            arith,
            s.least (512 + t / 128) (512 + (call_at feed j).departure / 128) (omega arith) (omega arith) p,
            s.low j (omega arith),
          );
    }
