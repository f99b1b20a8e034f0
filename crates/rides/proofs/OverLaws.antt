-- From when on journeys need not be offered: how `over` begins, what an offer makes of it, and what it leaves out.
use mathlib.Core.Logic.{◌⊎◌, inl, inr}
use mathlib.Core.Path.{◌≡◌, refl, sym, ap, ◌∙◌}
use mathlib.Core.Bool.{Bool, true, false, ◌&&◌}
use mathlib.Core.List.Memᴰ
use mathlib.Core.List.{List, [], ◌∷◌, Memᴰ}
use Prim.Native.Nat.{ℕ, ◌+◌, ◌-◌, ◌≤◌, ◌<◌, min}
use native.Mathlib.Omega.{arith}
use lib.Dec.{eqb, leb, ltb}
use lib.ListN.{get_or}
use borrow.Author.Tests.{le-leb, leb-true, leb-false, ltb-true, ltb-false, eqb-true}
use Rattle.laws.specs.Lists.{concat_map, foldl, span}
use Rattle.laws.specs.Bits.{bits_of}
use Rattle.laws.proofs.Bools.{and-true-left, and-true-right, test}
use Rattle.laws.proofs.Folds.{concat_map-mem, span-mem}
use Rattle.profile.specs.Found.{Row}
use Rattle.profile.specs.declared.figures.Figures.{Figures}
use Rattle.profile.specs.Journeys.{cov, row_of}
use Rattle.profile.proofs.CoverLaws.{cov-sooner, cov-tie}
use Rattle.profile.proofs.FiguresLaws.{lexb-lt}
use Rattle.search_state.specs.View.{view}
use Rattle.candidate.specs.Offer.{with_figures, offer_to, passed_over, PassedFrom}
use Rattle.candidate.proofs.FromLaws.{offered-passed-over}
use Rattle.candidate.proofs.PassedLaws.{cov-no-later, covered-passed, passed-stays, offers-covered}
use Rattle.candidate.proofs.TurnLaws.{cov-total}
use Rattle.profile.specs.Kept.{SearchState}
use Rattle.search_input.specs.declared.FirstRide.{FirstRide}
use Rattle.search_input.specs.Feed.{call_at, figures_of, target_mask, target_walk_of, arrival_of}
use Rattle.rides.specs.Rows.{direct_row, change_row}
use Rattle.rides.specs.Loops.{over_run, later_from, last_at, last_alight_rows, last_board_rows, change_rows, over_bits, over_calls, direct_at, direct_rows}
use Rattle.rides.specs.Sheets.{joins_of, sheet_of}
use Rattle.rides.specs.Offered.{Offered}
use Rattle.rides.specs.Over.{Over, Walked}
use Rattle.rides.specs.Bounds.{AtBoard}
use Rattle.rides.specs.Reach.{JoinAt, Least}
use Rattle.rides.proofs.LoopLaws.{Rest}
use Rattle.rides.proofs.RestLaws.{rest-stays}
use Rattle.rides.proofs.SkipLaws.{Covers, cond-mem, rest-covered, run-covered}

-- ---- how it begins

pub over-from : {l : List ℕ} {f : FirstRide} {k t : ℕ} → PassedFrom (view l) f.leave k f.walk t → Over l f k t
unfolding PassedFrom row_of
over-from {t = t} p = record { passed = p t ∙ le-leb t t (omega arith) }

-- by the answer of `passes_over`
pub over-asked : {l : List ℕ} {f : FirstRide} {k t : ℕ} {r : Bool} {g : Figures} → g ≡ figures_of f t k
    → r ≡ passed_over (view l) (with_figures g) → r ≡ true → Over l f k t
over-asked {l} e p y = record { passed = sym (ap (λ x. passed_over (view l) (with_figures x)) e) ∙ sym p ∙ y }

pub over-seen : {l l' : List ℕ} {f : FirstRide} {k t : ℕ} → view l' ≡ view l → Over l f k t → Over l' f k t
over-seen {f = f} {k} {t} e w = record { passed = ap (λ s. passed_over s (with_figures (figures_of f t k))) e ∙ w.passed }

-- ---- what it leaves out

-- what begins with f, has so many rides and is due at t
abbrev pub due_first : FirstRide → ℕ → ℕ → Row
due_first f k t = with_figures (figures_of f t k)

pub left-out : {l : List ℕ} (f : FirstRide) (k t : ℕ) (os : List Row) → Over l f k t → Covers (due_first f k t) os → Offered l l os
left-out {l} f k t os w g = record { is = sym (offers-covered (view l) (due_first f k t) os w.passed g) }

-- a loop may end where what is left of it is left out
pub rest-out : {A : Type 0} {g : A → List Row} {l₀ l : List ℕ} {all rest : List A} → Offered l l (concat_map g rest)
    → Rest l₀ l g all rest → Offered l₀ l (concat_map g all)
rest-out o w = rest-stays (sym o.is) w

-- ---- what an offer makes of it

pub over-offered : {l' : List ℕ} (l : List ℕ) (f : FirstRide) (k : ℕ) (o : Row) → view l' ≡ offer_to (view l) o → o.leave ≡ f.leave → o.rides ≡ k
    → o.walk ≡ f.walk → Over l' f k o.arrival
unfolding row_of
over-offered l f k o e el er ew =
    record {
      passed =
          ap (λ s. passed_over s (due_first f k o.arrival)) e
          ∙ covered-passed (offer_to (view l) o) o (due_first f k o.arrival) (offered-passed-over (view l) o)
          (cov-no-later o (due_first f k o.arrival) el (omega arith) er ew);
    }

-- ---- one change

module _ (feed : List ℕ) (f : FirstRide) where
  board-by : (changes : List ℕ) (n j : ℕ) {t u : ℕ}
      → ((call_at feed j).board ≡ true → joins_of feed changes f j ≡ true → t ≤ u) → AtBoard feed n j u
      → Covers (due_first f 2 t) (last_board_rows (sheet_of feed) (joins_of feed changes) n f j)
  unfolding last_board_rows sheet_of row_of
  board-by changes n j {t} {u} h w o m =
      let (y, p) = cond-mem (call_at feed j).board m in
      let (z, i) = cond-mem (joins_of feed changes f j) p in
      run-covered feed f n j t u (h y z) w o i

  calls-by : {b : List ℕ} (changes : List ℕ) (n i m : ℕ) {t u k : ℕ} → m ≤ n → ((j : ℕ) → j < n → AtBoard feed n j (get_or b j 0))
      → t ≤ u → k ≤ i → Least feed changes b f k m u
      → Covers (due_first f 2 t) (concat_map (last_board_rows (sheet_of feed) (joins_of feed changes) n f) (span i (m - i)))
  unfolding JoinAt
  calls-by {b} changes n i m e w h a g o p =
      let (j, k, q) = concat_map-mem (last_board_rows (sheet_of feed) (joins_of feed changes) n f) (span i (m - i)) p in
      let (low, high) = span-mem i (m - i) k in
      board-by changes n j (λ y z. let r = g.least j (omega arith) (omega arith) y z in omega (arith, r, h)) (w j (omega arith)) o q

module _ {l : List ℕ} (feed : List ℕ) (f : FirstRide) where
  pub target-out : (b a x : ℕ) {t d : ℕ} → d ≡ arrival_of (target_walk_of feed x) (call_at feed a).arrival → t ≤ d → Over l f 2 t
      → Walked l l (last_at (sheet_of feed) f b a x) f 2 t
  unfolding last_at change_row sheet_of row_of
  target-out b a x {t} e h w =
      record {
        offered =
            left-out f 2 t (last_at (sheet_of feed) f b a x) w
            (λ o m. rw (Memᴰ.eq_of_singleton m)
            (cov-no-later (due_first f 2 t) (change_row (sheet_of feed) f b a x) refl (omega arith) refl refl));
        over = w;
      }

  pub target-made : {l' : List ℕ} (b a x : ℕ) {d : ℕ} → d ≡ arrival_of (target_walk_of feed x) (call_at feed a).arrival
      → Offered l l' (last_at (sheet_of feed) f b a x) → Walked l l' (last_at (sheet_of feed) f b a x) f 2 d
  unfolding last_at change_row sheet_of row_of
  target-made b a x e o =
      record { offered = o; over = rw e (over-offered l f 2 (change_row (sheet_of feed) f b a x) o.is refl refl refl) }

  -- the rides that board at j and alight behind i
  pub run-out : (n j i : ℕ) {t u : ℕ} → t ≤ u → AtBoard feed n i u → Over l f 2 t
      → Offered l l (concat_map (last_alight_rows (sheet_of feed) f j) (later_from (call_at feed) n i (i + 1)))
  unfolding over_run row_of
  run-out n j i {t} {u} h w v =
      left-out f 2 t (over_run (last_alight_rows (sheet_of feed) f j) (call_at feed) n i (i + 1)) v (rest-covered feed f n j i t u h w)

  pub board-out : (changes : List ℕ) (n j : ℕ) {t u : ℕ} → t ≤ u → AtBoard feed n j u → Over l f 2 t
      → Walked l l (last_board_rows (sheet_of feed) (joins_of feed changes) n f j) f 2 t
  board-out changes n j {t} h w v =
      record {
        offered =
            left-out f 2 t (last_board_rows (sheet_of feed) (joins_of feed changes) n f j) v
            (board-by feed f changes n j (λ y z. h) w);
        over = v;
      }

  -- the last rides that board at i or behind it, up to m, if none that is joined is earlier
  pub calls-out : {b : List ℕ} (changes : List ℕ) (n i m : ℕ) {t u k : ℕ} → m ≤ n → ((j : ℕ) → j < n → AtBoard feed n j (get_or b j 0))
      → t ≤ u → k ≤ i → Least feed changes b f k m u → Over l f 2 t
      → Offered l l (concat_map (last_board_rows (sheet_of feed) (joins_of feed changes) n f) (span i (m - i)))
  calls-out changes n i m {t} e w h a g v =
      left-out f 2 t (concat_map (last_board_rows (sheet_of feed) (joins_of feed changes) n f) (span i (m - i))) v
      (calls-by feed f changes n i m e w h a g)

  -- all of them
  pub changes-out : {b : List ℕ} (changes : List ℕ) (n depth : ℕ) {t u : ℕ} → ((j : ℕ) → j < n → AtBoard feed n j (get_or b j 0)) → t ≤ u
      → Least feed changes b f 0 n u
      → Over l f 2 t → Offered l l (change_rows (sheet_of feed) (joins_of feed changes) depth n f)
  unfolding change_rows over_calls
  changes-out changes n depth {t} w h g v =
      left-out f 2 t (change_rows (sheet_of feed) (joins_of feed changes) depth n f) v
      (λ o m. calls-by feed f changes n 0 n (omega arith) w h (omega arith) g o (cond-mem (eqb depth 1) m).1)

-- ---- one ride alone

module _ {l : List ℕ} (feed : List ℕ) (f : FirstRide) where
  pub direct-out : (x : ℕ) {t d : ℕ} → d ≡ arrival_of (target_walk_of feed x) f.arrival → t ≤ d → Over l f 1 t
      → Walked l l (direct_at (sheet_of feed) f x) f 1 t
  unfolding direct_at direct_row sheet_of row_of
  direct-out x {t} e h w =
      record {
        offered =
            left-out f 1 t (direct_at (sheet_of feed) f x) w
            (λ o m. rw (Memᴰ.eq_of_singleton m)
            (cov-no-later (due_first f 1 t) (direct_row (sheet_of feed) f x) refl (omega arith) refl refl));
        over = w;
      }

  pub direct-made : {l' : List ℕ} (x : ℕ) {d : ℕ} → d ≡ arrival_of (target_walk_of feed x) f.arrival
      → Offered l l' (direct_at (sheet_of feed) f x) → Walked l l' (direct_at (sheet_of feed) f x) f 1 d
  unfolding direct_at direct_row sheet_of row_of
  direct-made x e o =
      record { offered = o; over = rw e (over-offered l f 1 (direct_row (sheet_of feed) f x) o.is refl refl refl) }

-- a row beats each one that leaves no later, is due no earlier and has more rides
cov-fewer : (b o : Row) → b.leave ≡ o.leave → b.arrival ≤ o.arrival → b.rides < o.rides → cov b o ≡ true
cov-fewer b o el ea er = go (test (ltb b.arrival o.arrival))
  where
    go : (ltb b.arrival o.arrival ≡ true) ⊎ (ltb b.arrival o.arrival ≡ false) → cov b o ≡ true
    go (inl t) = sym (cov-sooner b o (omega arith) (ltb-true b.arrival o.arrival t))
    go (inr t) =
        sym
        (cov-tie b o true (omega arith) (ltb-false b.arrival o.arrival t) ea (sym (lexb-lt b.rides o.rides (leb b.walk o.walk) er)))

-- by one ride more it is the same
pub over-more : {l : List ℕ} {f : FirstRide} {t : ℕ} → Over l f 1 t → Over l f 2 t
unfolding row_of
over-more {l} {f} {t} w =
    record {
      passed = covered-passed (view l) (due_first f 1 t) (due_first f 2 t) w.passed
          (cov-fewer (due_first f 1 t) (due_first f 2 t) refl (omega arith) (omega arith));
    }

pub over-min : {l : List ℕ} {f : FirstRide} {k s t m : ℕ} → m ≡ min s t → Over l f k s → Over l f k t → Over l f k m
over-min {l} {f} {k} {s} {t} {m} e v w = go (test (leb s t))
  where
    go : (leb s t ≡ true) ⊎ (leb s t ≡ false) → Over l f k m
    go (inl y) = let q : m ≡ s = omega (arith, leb-true s t y) in rw q v
    go (inr y) = let q : m ≡ t = omega (arith, leb-false s t y) in rw q w

-- ---- offers that leave alike

-- each of these rows leaves when f does
pub record Alike (f : FirstRide) (os : List Row) : Type 0 where
  pub leaves : (o : Row) → Memᴰ o os → o.leave ≡ f.leave

keeps-one : (s : SearchState Row) (b o : Row) → o.leave ≡ b.leave → passed_over s b ≡ true → passed_over (offer_to s o) b ≡ true
keeps-one s b o e w = go (test (cov o b))
  where
    go : (cov o b ≡ true) ⊎ (cov o b ≡ false) → passed_over (offer_to s o) b ≡ true
    go (inl y) = covered-passed (offer_to s o) o b (offered-passed-over s o) y
    go (inr y) = ap (λ x. passed_over x b) (passed-stays s o (covered-passed s b o w (cov-total o b e y))) ∙ w

keeps-all : (s : SearchState Row) (b : Row) (os : List Row) → ((o : Row) → Memᴰ o os → o.leave ≡ b.leave) → passed_over s b ≡ true
    → passed_over (foldl offer_to s os) b ≡ true
keeps-all s b [] g w = w
keeps-all s b (o ∷ os) g w =
    keeps-all (offer_to s o) b os (λ x m. g x (Memᴰ.tail m)) (keeps-one s b o (g o (Memᴰ.head refl)) w)

-- they leave what would be passed over as it is
pub over-kept : {l l' : List ℕ} {f : FirstRide} {k t : ℕ} (os : List Row) → Alike f os → Offered l l' os → Over l f k t → Over l' f k t
unfolding row_of
over-kept {l} {f = f} {k} {t} os g o w =
    record {
      passed = ap (λ s. passed_over s (due_first f k t)) o.is ∙ keeps-all (view l) (due_first f k t) os g.leaves w.passed;
    }

pub directs-alike : (feed : List ℕ) (f : FirstRide) → Alike f (direct_rows (sheet_of feed) f)
unfolding direct_rows over_bits direct_at direct_row sheet_of row_of
directs-alike feed f =
    record {
      leaves = λ o m.
          let (x, i, k) = concat_map-mem (direct_at (sheet_of feed) f) (bits_of (target_mask feed f.stop)) m in
          ap (λ (r : Row). r.leave) (Memᴰ.eq_of_singleton k);
    }

pub changes-alike : (feed changes : List ℕ) (n depth : ℕ) (f : FirstRide)
    → Alike f (change_rows (sheet_of feed) (joins_of feed changes) depth n f)
unfolding change_rows over_calls last_board_rows over_run last_alight_rows over_bits last_at change_row sheet_of row_of
changes-alike feed changes n depth f =
    record {
      leaves = λ o m.
          let (j, _, p) =
          concat_map-mem (last_board_rows (sheet_of feed) (joins_of feed changes) n f) (span 0 (n - 0)) (cond-mem (eqb depth 1) m).1 in
          let q = cond-mem (joins_of feed changes f j) (cond-mem (call_at feed j).board p).1 in
          let (a, _, r) = concat_map-mem (last_alight_rows (sheet_of feed) f j) (later_from (call_at feed) n j (j + 1)) q.1 in
          let s = cond-mem (call_at feed a).alight r in
          let (x, _, k) = concat_map-mem (last_at (sheet_of feed) f j a) (bits_of (target_mask feed (call_at feed a).stop)) s.1 in
          ap (λ (r : Row). r.leave) (Memᴰ.eq_of_singleton k);
    }

-- ---- from one first ride to the next

pub over-alike : {l : List ℕ} {f g : FirstRide} {k t : ℕ} {b : Bool} → b ≡ (eqb g.leave f.leave && eqb g.walk f.walk) → b ≡ true
    → Over l f k t → Over l g k t
over-alike {l} {f} {g} {k} {t} e y w =
    let h = sym e ∙ y in
    record {
      passed =
          ap (λ (a : ℕ). passed_over (view l) (with_figures (record { leave = a; arrival = t; rides = k; walk = g.walk })))
          (eqb-true g.leave f.leave (and-true-left _ _ h))
          ∙ ap (λ (a : ℕ). passed_over (view l) (with_figures (record { leave = f.leave; arrival = t; rides = k; walk = a })))
          (eqb-true g.walk f.walk (and-true-right (eqb g.leave f.leave) _ h))
          ∙ w.passed;
    }

pub over-late : {l : List ℕ} {f : FirstRide} {k t : ℕ}
    → ((leave rides walk : ℕ)
    → passed_over (view l) (with_figures (record { leave = leave; arrival = t; rides = rides; walk = walk })) ≡ true)
    → Over l f k t
over-late {f = f} {k} w = record { passed = w f.leave k f.walk }
