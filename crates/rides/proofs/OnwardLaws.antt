-- What leads on from a ride: its rows are those of the ways on, so that what bounds these covers them; and one change fewer is left after a
-- ride. The bounds of one change and of two stand side by side.
use mathlib.Core.Path.{◌≡◌, refl, sym, ap, subst, ◌∙◌}
use mathlib.Core.Bool.{true}
use mathlib.Core.List.Memᴰ
use mathlib.Core.List.{List, [], ◌∷◌, Memᴰ}
use Prim.Native.Nat.{ℕ, zero, suc, ◌+◌, ◌-◌, ◌≤◌, ◌<◌}
use native.Mathlib.Omega.{arith}
use native.Mathlib.Numerals.{add-one}
use lib.ListN.{get_or}
use Rattle.laws.specs.Lists.{span}
use Rattle.ways.specs.Rides.{Leg, leg, first_ride, first_rides}
use Rattle.ways.proofs.RideLaws.{firsts-mem}
use Rattle.rides.specs.declared.call_list.Ride.{Ride}
use Rattle.rides.specs.Places.{IsRide}
use Rattle.rides.proofs.ReachLaws.{net, below, alighted, of-run, not-before-here, not-before-on}
use Rattle.ways.specs.Routes.{Way, onward}
use Rattle.profile.specs.Found.{Row}
use Rattle.profile.specs.Journeys.{row_of}
use Rattle.candidate.proofs.PassedLaws.{cov-no-later}
use Rattle.search_input.specs.declared.FeedCall.{FeedCall}
use Rattle.search_input.specs.declared.FirstRide.{FirstRide}
use Rattle.search_input.specs.Feed.{call_at, same_run, target_walk_of, arrival_of}
use Rattle.rides.specs.Rows.{Sheet, Joins, first_of, three_row, network_of}
use Rattle.rides.specs.Loops.{over_calls, over_run, later_from, end_at, onward_rows, alight_on, board_on}
use Rattle.rides.specs.Sheets.{sheet_of, joins_of}
use Rattle.rides.specs.Offered.{Offered}
use Rattle.rides.specs.Reach.{end_of, due_at, NotBefore, BoardAt, JoinAt, Least, JoinsAt, EachOf, Each}
use Rattle.rides.specs.Reach.{LeastByBlock, RowAt, Onward}
use Rattle.rides.specs.Routes.{on_row}
use Rattle.laws.specs.Lists.{concat_map}
use Rattle.laws.proofs.Bools.{and-true}
use Rattle.laws.proofs.Folds.{concat_map-mem, mem-concat_map, span-mem}
use lib.Dec.{eqb}
use borrow.Author.Tests.{eq-eqb}
use Rattle.rides.specs.Bounds.{AtCall}
use Rattle.rides.specs.Over.{Over, Walked}
use Rattle.search_input.specs.Layout.{call_room}
use Rattle.rides.proofs.LoopLaws.{Rest, run-same, later-within}
use Rattle.rides.proofs.JoinedLaws.{alights-first, row-here}
use Rattle.rides.proofs.OverLaws.{due_first, left-out, over-offered, rest-out}
use Rattle.rides.proofs.SkipLaws.{Covers, cond-mem}
use Rattle.rides.proofs.RouteLaws.{rows-of-ways}

-- ---- by the tests that the code makes

pub run-self : (a : FeedCall) → same_run a a ≡ true
unfolding same_run
run-self a = and-true (eqb a.trip a.trip) (eqb a.day a.day) (eq-eqb a.trip a.trip refl) (eq-eqb a.day a.day refl)

pub alight-is : (feed : List ℕ) (k : ℕ) {a : FeedCall} → a ≡ call_at feed k → a.alight ≡ true → (call_at feed k).alight ≡ true
alight-is feed k e y = ap (λ (a : FeedCall). a.alight) (sym e) ∙ y

-- a first ride is one
pub first-is-ride : (feed changes : List ℕ) (n : ℕ) {o : ℕ} (r : Ride)
    → Memᴰ (first_ride o r.board r.alight) (first_rides (net feed changes n) (span 0 n)) → IsRide feed n r
first-is-ride feed changes n r m =
    let w = (firsts-mem (net feed changes n) (span 0 n) _ m).0 in
    let l = leg r.board r.alight in
    record {
      run = record { within = (below feed changes n l w).1; same = of-run feed changes n l w };
      alights = alighted feed changes n l w;
    }

-- ---- the rows that lead on

-- a row has the leave and the walk of f, three rides, and is due at t
record Like (f : FirstRide) (t : ℕ) (o : Row) : Type 0 where
  leave : f.leave ≡ o.leave
  rides : 3 ≡ o.rides
  walk : f.walk ≡ o.walk
  due : o.arrival ≡ t

on-like : (s : Sheet) (f : FirstRide) (x : ℕ) (p r : Leg ℕ) (ls : List (Leg ℕ))
    → Like f (arrival_of (s.target_walk x) (s.at (end_of r.a ls)).arrival) (on_row s f x p r ls)
unfolding three_row row_of
on-like s f x p r [] = record { leave = refl; rides = refl; walk = refl; due = refl }
on-like s f x p r (l ∷ ls) = on-like s f x r l ls

module _ (feed : List ℕ) (f : FirstRide) {l : List ℕ} where
  -- to a target, at once
  pub end-out : (b a j m x : ℕ) {t d : ℕ} → d ≡ arrival_of (target_walk_of feed x) (call_at feed m).arrival → t ≤ d → Over l f 3 t
      → Walked l l (end_at (sheet_of feed) f b a j m x) f 3 t
  unfolding end_at three_row sheet_of row_of
  end-out b a j m x {t} e h w =
      record {
        offered =
            left-out f 3 t (end_at (sheet_of feed) f b a j m x) w
            (λ o i. rw (Memᴰ.eq_of_singleton i)
            (cov-no-later (due_first f 3 t) (three_row (sheet_of feed) f b a j m x) refl (omega arith) refl refl));
        over = w;
      }

  pub end-made : {l' : List ℕ} (b a j m x : ℕ) {d : ℕ} → d ≡ arrival_of (target_walk_of feed x) (call_at feed m).arrival
      → Offered l l' (end_at (sheet_of feed) f b a j m x) → Walked l l' (end_at (sheet_of feed) f b a j m x) f 3 d
  unfolding end_at three_row sheet_of row_of
  end-made b a j m x e o =
      record { offered = o; over = rw e (over-offered l f 3 (three_row (sheet_of feed) f b a j m x) o.is refl refl refl) }

module _ (s : Sheet) (joins : Joins) (n : ℕ) (f : FirstRide) where
  -- after a ride with one change more left come those that it joins
  pub fewer : (left j m : ℕ) (p : FirstRide) → p ≡ first_of s j 0 m
      → onward_rows (left + 1) s joins n f 0 0 j m ≡ over_calls (board_on left s joins n f p j m) n 0
  unfolding onward_rows board_on alight_on
  fewer left j m p e = rw (e, add-one left) refl

  -- the ride before it is named only where no change is left
  pub before-any : (left b a j m : ℕ) → (left ≡ 0 → ⊥)
      → onward_rows left s joins n f b a j m ≡ onward_rows (left - 1 + 1) s joins n f 0 0 j m
  unfolding onward_rows
  before-any zero b a j m z = absurd (z refl)
  before-any (suc k) b a j m z = let q : suc k - 1 + 1 ≡ suc k = omega arith in rw q refl

module _ (feed changes : List ℕ) (n : ℕ) (f : FirstRide) {on boards : List (List ℕ)} {rows : List (List (List ℕ))}
    (w : Onward on boards rows feed changes n) where
  -- what leads on, if nothing of it is due earlier
  on-covered : (left b a j m : ℕ) {t : ℕ} → left ≤ 2 → m < n → (call_at feed m).alight ≡ true
      → same_run (call_at feed j) (call_at feed m) ≡ true → t ≤ get_or (get_or on left []) m 0
      → Covers (due_first f 3 t) (onward_rows left (sheet_of feed) (joins_of feed changes) n f b a j m)
  unfolding NotBefore due_at sheet_of row_of
  on-covered left b a j m {t} hl hm y q e o i =
      let (v, k, d) =
      Memᴰ.of_map (λ (v : Way ℕ). on_row (sheet_of feed) f v.target (leg b a) (leg j m) v.rides)
      (onward (network_of (sheet_of feed) (joins_of feed changes)) left (span 0 n) (leg j m))
      (subst (Memᴰ o) (rows-of-ways (sheet_of feed) (joins_of feed changes) n f left (leg b a) (leg j m)) i) in
      let g = subst (Like f (due_at feed m v)) d (on-like (sheet_of feed) f v.target (leg b a) (leg j m) v.rides) in
      let h = w.on_time left hl (leg j m) v hm y q k in
      cov-no-later (due_first f 3 t) o g.leave (omega (arith, h, e, g.due)) g.rides g.walk

  alight-covered : (left j m c d : ℕ) {t : ℕ} → left ≤ 2 → d < n → same_run (call_at feed c) (call_at feed d) ≡ true
      → ((call_at feed d).alight ≡ true → t ≤ get_or (get_or on left []) d 0)
      → Covers (due_first f 3 t) (alight_on left (sheet_of feed) (joins_of feed changes) n f j m c d)
  unfolding alight_on sheet_of
  alight-covered left j m c d hl hd q h o i =
      let (y, k) = cond-mem (call_at feed d).alight i in
      on-covered left j m c d hl hd y q (h y) o k

  -- the rides that board at c and alight behind the place i of its run
  run-covered : (left j m c i : ℕ) {t : ℕ} → left ≤ 1 → i < n → same_run (call_at feed c) (call_at feed i) ≡ true
      → t ≤ get_or (get_or boards left []) i 0
      → Covers (due_first f 3 t)
      (concat_map (alight_on left (sheet_of feed) (joins_of feed changes) n f j m c) (later_from (call_at feed) n i (i + 1)))
  unfolding BoardAt
  run-covered left j m c i hl hi q h o k =
      let (d, x, z) =
      concat_map-mem (alight_on left (sheet_of feed) (joins_of feed changes) n f j m c) (later_from (call_at feed) n i (i + 1)) k in
      let v = later-within (call_at feed) n i (i + 1) x in
      alight-covered left j m c d (omega arith) v.within (run-same (call_at feed c) (call_at feed i) (call_at feed d) q ∙ v.same)
      (λ y. let g = w.board left hl i hi d x y in omega (arith, g, h)) o z

  board-covered : (left j m c : ℕ) (p : FirstRide) {t : ℕ} → left ≤ 1 → c < n
      → ((call_at feed c).board ≡ true → joins_of feed changes p c ≡ true → t ≤ get_or (get_or boards left []) c 0)
      → Covers (due_first f 3 t) (board_on left (sheet_of feed) (joins_of feed changes) n f p j m c)
  unfolding board_on over_run sheet_of
  board-covered left j m c p hl hc h o k =
      let (y, x) = cond-mem (call_at feed c).board k in
      let (z, i) = cond-mem (joins_of feed changes p c) x in
      run-covered left j m c c hl hc (run-self (call_at feed c)) (h y z) o i

  -- those that board at i or behind it, up to k, if none that p joins is earlier
  calls-covered : (left j m i k : ℕ) (p : FirstRide) {t u s : ℕ} → left ≤ 1 → k ≤ n → t ≤ u → s ≤ i
      → Least feed changes (get_or boards left []) p s k u
      → Covers (due_first f 3 t) (concat_map (board_on left (sheet_of feed) (joins_of feed changes) n f p j m) (span i (k - i)))
  unfolding JoinAt
  calls-covered left j m i k p hl hk h a g o x =
      let (c, y, z) = concat_map-mem (board_on left (sheet_of feed) (joins_of feed changes) n f p j m) (span i (k - i)) x in
      let (low, high) = span-mem i (k - i) y in
      board-covered left j m c p hl (omega arith) (λ q r. let e = g.least c (omega arith) (omega arith) q r in omega (arith, e, h)) o z

  -- the rows of the rides that the ride r joins
  pub row-on : (left : ℕ) (r : Ride) {p : FirstRide} {row : List ℕ} → left ≤ 1 → IsRide feed n r
      → p ≡ first_of (sheet_of feed) r.board 0 r.alight → row ≡ get_or (get_or rows left []) r.alight []
      → LeastByBlock feed changes (get_or boards left []) n p row
  unfolding first_of
  row-on left r hl q e er =
      row-here (alights-first feed n 0 r q e) changes (get_or boards left []) (ap (λ (p : FirstRide). p.alight) (sym e))
      (rw er (w.row left hl r.alight q.run.within))

  module _ {l : List ℕ} {t : ℕ} (v : Over l f 3 t) where
    pub alight-out : (left j m c d : ℕ) {u : ℕ} → left ≤ 1 → d < n → same_run (call_at feed c) (call_at feed d) ≡ true
        → u ≡ get_or (get_or on left []) d 0 → t ≤ u
        → Walked l l (alight_on left (sheet_of feed) (joins_of feed changes) n f j m c d) f 3 t
    alight-out left j m c d hl hd q e h =
        record {
          offered =
              left-out f 3 t (alight_on left (sheet_of feed) (joins_of feed changes) n f j m c d) v
              (alight-covered left j m c d (omega arith) hd q (λ y. omega arith));
          over = v;
        }

    pub run-out : (left j m c i : ℕ) {u : ℕ} → left ≤ 1 → i < n → same_run (call_at feed c) (call_at feed i) ≡ true
        → u ≡ get_or (get_or boards left []) i 0 → t ≤ u
        → Offered l l
        (concat_map (alight_on left (sheet_of feed) (joins_of feed changes) n f j m c) (later_from (call_at feed) n i (i + 1)))
    run-out left j m c i hl hi q e h =
        left-out f 3 t
        (concat_map (alight_on left (sheet_of feed) (joins_of feed changes) n f j m c) (later_from (call_at feed) n i (i + 1))) v
        (run-covered left j m c i hl hi q (omega arith))

    pub board-out : (left j m c : ℕ) (p : FirstRide) {u : ℕ} → left ≤ 1 → c < n → u ≡ get_or (get_or boards left []) c 0 → t ≤ u
        → Walked l l (board_on left (sheet_of feed) (joins_of feed changes) n f p j m c) f 3 t
    board-out left j m c p hl hc e h =
        record {
          offered =
              left-out f 3 t (board_on left (sheet_of feed) (joins_of feed changes) n f p j m c) v
              (board-covered left j m c p hl hc (λ y z. omega arith));
          over = v;
        }

    pub calls-out : (left j m i k : ℕ) (p : FirstRide) {u s : ℕ} → left ≤ 1 → k ≤ n → t ≤ u → s ≤ i
        → Least feed changes (get_or boards left []) p s k u
        → Offered l l (concat_map (board_on left (sheet_of feed) (joins_of feed changes) n f p j m) (span i (k - i)))
    calls-out left j m i k p hl hk h a g =
        left-out f 3 t (concat_map (board_on left (sheet_of feed) (joins_of feed changes) n f p j m) (span i (k - i))) v
        (calls-covered left j m i k p hl hk h a g)

    -- all that leads on from a ride
    pub onward-out : (left b a : ℕ) (r : Ride) {u : ℕ} → left ≤ 2 → IsRide feed n r → u ≡ get_or (get_or on left []) r.alight 0 → t ≤ u
        → Offered l l (onward_rows left (sheet_of feed) (joins_of feed changes) n f b a r.board r.alight)
    onward-out left b a r hl q e h =
        left-out f 3 t (onward_rows left (sheet_of feed) (joins_of feed changes) n f b a r.board r.alight) v
        (on-covered left b a r.board r.alight hl q.run.within q.alights q.run.same (omega arith))

    -- what is left of it, in a loop over the rides that r joins
    pub rest-on-out : {l₀ : List ℕ} {rest : List ℕ} (left : ℕ) (r : Ride) (p : FirstRide) {u : ℕ} → left ≤ 1 → IsRide feed n r
        → p ≡ first_of (sheet_of feed) r.board 0 r.alight → u ≡ get_or (get_or on (left + 1) []) r.alight 0 → t ≤ u
        → Rest l₀ l (board_on left (sheet_of feed) (joins_of feed changes) n f p r.board r.alight) (span 0 (n - 0)) rest
        → Offered l₀ l (onward_rows (left + 1) (sheet_of feed) (joins_of feed changes) n f 0 0 r.board r.alight)
    unfolding over_calls
    rest-on-out {rest = rest} left r p hl q e eu h x =
        let g = board_on left (sheet_of feed) (joins_of feed changes) n f p r.board r.alight in
        let k = fewer (sheet_of feed) (joins_of feed changes) n f left r.board r.alight p e in
        rw k
        (rest-out
        (left-out f 3 t (concat_map g rest) v
        (λ o i. on-covered (left + 1) 0 0 r.board r.alight (omega arith) q.run.within q.alights q.run.same (omega arith) o
        (let (c, y, z) = concat_map-mem g rest i in rw k (mem-concat_map g (x.within c y) z))))
        x)

-- ---- the bounds side by side

pub onward-made : {none one two last middle : List ℕ} {rows rows' : List (List ℕ)} (feed changes : List ℕ) (n : ℕ) → Each (AtCall feed) 0 n none
    → Each (BoardAt feed n none) 0 n last → Each (JoinsAt feed changes n last) 0 n one
    → EachOf call_room [] (RowAt feed changes n last) 0 n rows
    → Each (BoardAt feed n one) 0 n middle → Each (JoinsAt feed changes n middle) 0 n two
    → EachOf call_room [] (RowAt feed changes n middle) 0 n rows'
    → Onward (none ∷ one ∷ two ∷ []) (last ∷ middle ∷ []) (rows ∷ rows' ∷ []) feed changes n
onward-made {none} {one} {two} {last} {middle} {rows} {rows'} feed changes n w b₀ j₁ r₀ b₁ j₂ r₁ =
    record { on_time = on; board = board; row = row }
  where
    zero-left : NotBefore feed changes n 0 none
    zero-left = not-before-here feed changes n none w

    one-left : NotBefore feed changes n 1 one
    one-left = not-before-on feed changes n none last one 0 b₀ j₁ zero-left

    on : (left : ℕ) → left ≤ 2 → NotBefore feed changes n left (get_or (none ∷ one ∷ two ∷ []) left [])
    on zero h = zero-left
    on (suc zero) h = one-left
    on (suc (suc zero)) h = not-before-on feed changes n one middle two 1 b₁ j₂ one-left
    on (suc (suc (suc k))) h = absurd (omega arith)

    board : (left : ℕ) → left ≤ 1 → (c : ℕ) → c < n
        → BoardAt feed n (get_or (none ∷ one ∷ two ∷ []) left []) c (get_or (get_or (last ∷ middle ∷ []) left []) c 0)
    board zero h c l = b₀.each c (omega arith) l
    board (suc zero) h c l = b₁.each c (omega arith) l
    board (suc (suc k)) h c l = absurd (omega arith)

    row : (left : ℕ) → left ≤ 1 → (m : ℕ) → m < n
        → RowAt feed changes n (get_or (last ∷ middle ∷ []) left []) m (get_or (get_or (rows ∷ rows' ∷ []) left []) m [])
    row zero h m l = r₀.each m (omega arith) l
    row (suc zero) h m l = r₁.each m (omega arith) l
    row (suc (suc k)) h m l = absurd (omega arith)
