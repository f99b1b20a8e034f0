-- The numbers of places: how they are put in, and that no way on is at its target before them.
use mathlib.Core.Path.{◌≡◌, refl, sym, subst, ◌∙◌}
use mathlib.Core.Logic.{◌≢◌, ◌⊎◌, inl, inr}
use mathlib.Core.Bool.{Bool, true, false, false≢true, ◌&&◌}
use mathlib.Core.List.Memᴰ
use mathlib.Core.List.{List, map, Memᴰ}
use Prim.Native.Nat.{ℕ, zero, suc, ◌+◌, ◌-◌, ◌≤◌, ◌<◌, min}
use native.Mathlib.Omega.{arith}
use native.Mathlib.Nat.{eq-or-lt_of_le}
use native.Mathlib.Numerals.{add-one}
use lib.Arith.{lt_of_le-ne}
use lib.Dec.{eqb, ltb}
use lib.ListN.{length, get_or, set, replicate, length-set, length-replicate, get_or-replicate}
use lib.Seq.{get_or-set_same, get_or-set_other}
use borrow.Author.Tests.{eqb-true, eqb-false}
use Rattle.laws.specs.Lists.{span}
use Rattle.laws.specs.Tails.{Tail}
use Rattle.laws.specs.Bits.{bits_of}
use Rattle.laws.proofs.Folds.{concat_map-mem, span-mem}
use Rattle.laws.proofs.Bools.{and-true-left, and-true-right, test}
use Rattle.laws.proofs.Tails.{take_while-mem}
use Rattle.ways.specs.Rides.{Leg, Network, joined_rides}
use Rattle.ways.specs.Routes.{Way, here, ride_then, onward}
use Rattle.ways.proofs.RideLaws.{Listed, joined-mem, listed_in}
use Rattle.search_input.specs.declared.FirstRide.{FirstRide}
use Rattle.search_input.specs.Feed.{call_at, same_run, target_mask, joined}
use Rattle.rides.specs.Rows.{first_of, network_of}
use Rattle.rides.specs.Loops.{later_from}
use Rattle.rides.specs.Sheets.{sheet_of, joins_of}
use Rattle.rides.specs.Bounds.{AtTargets, AtCall}
use Rattle.rides.proofs.LoopLaws.{run-end, run-next, run-on}
use Rattle.rides.specs.Reach.{due_at, NotBefore, alighted_at, BoardAt, JoinAt, Least, JoinsAt, EachOf, Each}

-- ---- arrays filled from the left and from the right

module _ {A : Type 0} {room : ℕ} {none : A} (P : ℕ → A → Type 0) where
  -- none is put in
  pub each-none : {i : ℕ} {l : List A} → length l ≡ room → EachOf room none P i i l
  each-none e = record { long = e; each = λ k l h. absurd (omega arith) }

  pub none_yet : (i : ℕ) (x : A) → EachOf room none P i i (replicate room x)
  none_yet i x = each-none (length-replicate room x)

  -- the same element at each place
  pub each-alike : {n : ℕ} {x : A} → n ≤ room → ((k : ℕ) → P k x) → EachOf room none P 0 n (replicate room x)
  each-alike {n} {x} h p =
      record { long = length-replicate room x; each = λ k l i. rw (get_or-replicate {A = A} room k x none (omega arith)) (p k) }

  -- x is put at m
  put-at : {m i n : ℕ} {x : A} (l : List A) → m < room → P m x → length l ≡ room
      → ((k : ℕ) → i ≤ k → k < n → k ≢ m → P k (get_or l k none)) → EachOf room none P i n (set l m x)
  put-at {m} {i} {n} {x} l h p e g = record { long = length-set l m x ∙ e; each = λ k a b. go k a b (test (eqb k m)) }
    where
      go : (k : ℕ) → i ≤ k → k < n → (eqb k m ≡ true) ⊎ (eqb k m ≡ false) → P k (get_or (set l m x) k none)
      go k a b (inl q) = rw (eqb-true k m q, get_or-set_same l m x none (omega (arith, e))) p
      go k a b (inr q) = let d = eqb-false k m q in rw (get_or-set_other l m k x none d) (g k a b d)

  -- in place of another
  pub put-again : {m n : ℕ} {x : A} {l : List A} → m < room → P m x → EachOf room none P 0 n l → EachOf room none P 0 n (set l m x)
  put-again {l = l} h p w = put-at l h p w.long (λ k a b d. w.each k a b)

  -- one more on the right
  pub put_right : {m n : ℕ} {x : A} {l : List A} → n ≡ m + 1 → m < room → P m x → EachOf room none P 0 m l
      → EachOf room none P 0 n (set l m x)
  put_right {l = l} e h p w = put-at l h p w.long (λ k a b d. w.each k a (lt_of_le-ne (omega arith) d))

  -- one more on the left
  pub put-left : {i j n : ℕ} {x : A} {l : List A} → i ≡ j + 1 → j < room → P j x → EachOf room none P i n l
      → EachOf room none P j n (set l j x)
  put-left {l = l} e h p w = put-at l h p w.long (λ k a b d. w.each k (let g = lt_of_le-ne a (λ q. d (sym q)) in omega (arith, e, g)) b)

pub each_same : (P : ℕ → ℕ → Type 0) {i j n : ℕ} {l : List ℕ} → i ≡ j → Each P i n l → Each P j n l
each_same P {n = n} {l = l} e w = subst (λ (k : ℕ). Each P k n l) e w

pub each_to : {A : Type 0} {room : ℕ} {none : A} (P : ℕ → A → Type 0) {i m n : ℕ} {l : List A} → m ≡ n → EachOf room none P i m l
    → EachOf room none P i n l
each_to {room = room} {none} P {i} {l = l} e w = subst (λ (k : ℕ). EachOf room none P i k l) e w

-- ---- the rides that board at a place

module _ (feed : List ℕ) (n : ℕ) (at : List ℕ) (j t : ℕ) where
  pub board-last : {r : Bool} → r ≡ (ltb (j + 1) n && same_run (call_at feed j) (call_at feed (j + 1))) → r ≡ false → BoardAt feed n at j t
  unfolding BoardAt
  board-last er e d m y = absurd (Memᴰ.not-nil (rw (run-end (call_at feed) n j er e) at m))

  pub board-next : {boards : List ℕ} {r : Bool} → r ≡ (ltb (j + 1) n && same_run (call_at feed j) (call_at feed (j + 1))) → r ≡ true
      → Each (BoardAt feed n at) (j + 1) n boards → t ≡ min (get_or boards (j + 1) 0) (get_or at (j + 1) 0) → BoardAt feed n at j t
  unfolding BoardAt
  board-next er e f et d m y = go (Memᴰ.cases_cons (rw (run-on (call_at feed) n j er e) at m))
    where
      go : (d ≡ j + 1) ⊎ Memᴰ d (later_from (call_at feed) n (j + 1) (j + 1 + 1)) → t ≤ get_or at d 0
      go (inl q) = rw q (omega arith)
      go (inr k) = let g = f.each (j + 1) (omega arith) (run-next (call_at feed) n j er e) d k y in omega arith

-- ---- the rides that a ride joins

pub least_start : {feed changes boards : List ℕ} {p : FirstRide} {i t : ℕ} → Least feed changes boards p i i t
least_start = record { least = λ k a h. absurd (omega arith) }

-- a number that is no later than those before, and than that at c if one can board there and the ride joins
least-on : {feed changes boards : List ℕ} {p : FirstRide} {i c t t' : ℕ} → t' ≤ t → JoinAt feed changes boards p c t'
    → Least feed changes boards p i c t
    → Least feed changes boards p i (c + 1) t'
unfolding JoinAt
least-on {feed} {changes} {boards} {p} {i} {c} {t} {t'} h w l = record { least = λ k a b. go k a (eq-or-lt_of_le (omega arith)) }
  where
    go : (k : ℕ) → i ≤ k → (k ≡ c) ⊎ (k < c) → (call_at feed k).board ≡ true → joins_of feed changes p k ≡ true → t' ≤ get_or boards k 0
    go k a (inl e) y z = let g = w (rw e at y) (rw e at z) in rw e (omega arith)
    go k a (inr b) y z = let g = l.least k a b y z in omega arith

pub least-joined : {feed changes boards : List ℕ} {p : FirstRide} {i c t t' : ℕ} → t' ≡ min t (get_or boards c 0)
    → Least feed changes boards p i c t
    → Least feed changes boards p i (c + 1) t'
unfolding JoinAt
least-joined e l = least-on (omega arith) (λ y z. omega arith) l

pub least-apart : {feed changes boards : List ℕ} {p : FirstRide} {i c t : ℕ} {x : Bool}
    → x ≡ ((call_at feed c).board && joins_of feed changes p c) → x ≡ false
    → Least feed changes boards p i c t → Least feed changes boards p i (c + 1) t
unfolding JoinAt
least-apart e f l = least-on (omega arith) (λ y z. absurd (false≢true (sym f ∙ rw (y, z) at e))) l

-- of no more places
pub least-fewer : {feed changes boards : List ℕ} {p : FirstRide} {i n n' t : ℕ} → n' ≤ n → Least feed changes boards p i n t
    → Least feed changes boards p i n' t
least-fewer h w = record { least = λ k a b. w.least k a (omega arith) }

-- ---- no way on is early

tail-span : (n i k : ℕ) (x : ℕ) (xs : List ℕ) → n ≡ i + k → Tail x xs (span i k) → xs ≡ span (x + 1) (n - (x + 1))
tail-span n i zero x xs e t = absurd t
tail-span n i (suc k) x xs e (inl (p, q)) =
    let z : n - (x + 1) ≡ k = omega arith in
    q ∙ rw (z, p, add-one i) refl
tail-span n i (suc k) x xs e (inr t) = tail-span n (suc i) k x xs (omega arith) t

module _ (feed changes : List ℕ) (n : ℕ) where
  abbrev pub net : Network ℕ
  net = network_of (sheet_of feed) (joins_of feed changes)

  pub below : (r : Leg ℕ) → Listed net (span 0 n) r → (r.b < n) × (r.a < n)
  below r w = let (x, y) = listed_in net (span 0 n) r w in (omega (arith, (span-mem 0 n x).1), omega (arith, (span-mem 0 n y).1))

  boarded : (r : Leg ℕ) → Listed net (span 0 n) r → (call_at feed r.b).board ≡ true
  unfolding network_of sheet_of
  boarded r w = w.board

  pub alighted : (r : Leg ℕ) → Listed net (span 0 n) r → (call_at feed r.a).alight ≡ true
  unfolding network_of sheet_of
  alighted r w = w.alight

  later : (r : Leg ℕ) → Listed net (span 0 n) r → Memᴰ r.a (later_from (call_at feed) n r.b (r.b + 1))
  unfolding later_from network_of sheet_of
  later r w = rw (← tail-span n 0 n r.b w.later (omega arith) w.tail) w.run

  -- the calls of a ride are of one run
  pub of-run : (r : Leg ℕ) → Listed net (span 0 n) r → same_run (call_at feed r.b) (call_at feed r.a) ≡ true
  unfolding network_of sheet_of
  of-run r w = (take_while-mem (λ k. same_run (call_at feed r.b) (call_at feed k)) w.later w.run).1

  -- a join asks the same of a ride and of the call where it alights
  joined-alighted : (r : Leg ℕ) (c : ℕ) → same_run (call_at feed r.b) (call_at feed r.a) ≡ true → net.joins r c ≡ true
      → joins_of feed changes (alighted_at feed r.a) c ≡ true
  unfolding network_of joins_of joined first_of sheet_of same_run
  joined-alighted r c s e =
      let t : (call_at feed r.b).trip ≡ (call_at feed r.a).trip =
      eqb-true _ _ (and-true-left (eqb (call_at feed r.b).trip (call_at feed r.a).trip)
      (eqb (call_at feed r.b).day (call_at feed r.a).day) s) in
      let d : (call_at feed r.b).day ≡ (call_at feed r.a).day =
      eqb-true _ _ (and-true-right (eqb (call_at feed r.b).trip (call_at feed r.a).trip)
      (eqb (call_at feed r.b).day (call_at feed r.a).day) s) in
      rw (t, d) at e

  pub not-before-here : (at : List ℕ) → Each (AtCall feed) 0 n at → NotBefore feed changes n 0 at
  unfolding NotBefore onward AtCall AtTargets due_at network_of sheet_of
  not-before-here at f r w h y i m =
      let (k, j, e) = Memᴰ.of_map here (bits_of (target_mask feed (call_at feed r.a).stop)) m in
      subst (λ (v : Way ℕ). get_or at r.a 0 ≤ due_at feed r.a v) e (f.each r.a (omega arith) h y k j)

  pub not-before-on : (at boards new : List ℕ) (left : ℕ) → Each (BoardAt feed n at) 0 n boards
      → Each (JoinsAt feed changes n boards) 0 n new
      → NotBefore feed changes n left at → NotBefore feed changes n (suc left) new
  unfolding NotBefore onward BoardAt JoinsAt JoinAt due_at
  not-before-on at boards new left f g h r w hr y z m =
      let s = span 0 n in
      let (l, j, m₁) = concat_map-mem (λ l. map (ride_then l) (onward net left s l)) (joined_rides net s r) m in
      let (v, k, e) = Memᴰ.of_map (ride_then l) (onward net left s l) m₁ in
      let (q, x) = joined-mem net s r l j in
      let on = h l v (below l q).1 (alighted l q) (of-run l q) k in
      let board = f.each l.b (omega arith) (below l q).0 l.a (later l q) (alighted l q) in
      let join = (g.each r.a (omega arith) hr y).least l.b (omega arith) (below l q).0 (boarded l q) (joined-alighted r l.b z x) in
      subst (λ (u : Way ℕ). get_or new r.a 0 ≤ due_at feed r.a u) e (omega (arith, on, board, join))
