-- From when on offers that differ in arrival alone are passed over: by the kept rows, and after one of them was made.
use mathlib.Core.Path.{◌≡◌, refl, sym, ap, ◌∙◌}
use mathlib.Core.Logic.{◌⊎◌, inl, inr}
use mathlib.Core.Bool.{Bool, true, false, true≢false, not, cond, ◌||◌}
use mathlib.Core.List.Memᴰ
use mathlib.Core.List.{List, [], ◌∷◌, ◌++◌, Memᴰ}
use Prim.Native.Nat.{ℕ, suc, ◌+◌, ◌-◌, ◌≤◌, ◌<◌, min, max}
use native.Mathlib.Omega.{arith}
use native.Mathlib.Numerals.{add-one}
use lib.Dec.{eqb, leb, ltb}
use lib.ListN.{get_or, drop, drop_of_length-le}
use lib.Seq.{drop-cons}
use borrow.Author.Tests.{le-leb, lt-leb, lt-ltb, le-ltb, ltb-true, ltb-false, leb-true, leb-false, eqb-true, eqb-false}
use Rattle.laws.specs.Lists.{filterb}
use Rattle.laws.proofs.Bools.{or-true-left, or_true_right, of-not, test}
use Rattle.laws.proofs.Lists.{filterb-mem, mem-filterb}
use Rattle.profile.specs.Found.{Row}
use Rattle.profile.specs.Figures.{lexb}
use Rattle.profile.specs.Kept.{going, refused, latest, settle}
use Rattle.profile.specs.Walk.{passes}
use Rattle.profile.specs.Journeys.{row_figures, row_of, cov, due, no_row}
use Rattle.profile.proofs.CoverLaws.{cov-early}
use Rattle.profile.proofs.FiguresLaws.{lexb-lt, lexb-eq, lexb-gt, lexb-same, covers-refl}
use Rattle.profile.proofs.KeptLaws.{settle-elim}
use Rattle.search_state.specs.View.{count_of, horizon_of, limits_of, kept_of, open_of, view}
use Rattle.search_state.proofs.ViewLaws.{view-is-refused, length-kept}
use Rattle.candidate.specs.Offer.{with_figures, offer_to, passed_over, PassedFrom, OfferedPassed}
use Rattle.candidate.proofs.TurnLaws.{cov-total}
use Rattle.candidate.specs.Pieces.{passing, covers_from, stays_from, row_from, rows_from}

-- ---- one row

-- by the first number alone: the second decides where they are equal
lex-below : (a b : ℕ) (x : Bool) → lexb a b x ≡ ltb a (cond x (b + 1) b)
lex-below a b true = go (test (ltb a b))
  where
    go : (ltb a b ≡ true) ⊎ (ltb a b ≡ false) → lexb a b true ≡ ltb a (b + 1)
    go (inl t) = lexb-lt a b true (ltb-true a b t) ∙ sym (lt-ltb a (b + 1) (omega (arith, ltb-true a b t)))
    go (inr t) = at (test (eqb a b))
      where
        at : (eqb a b ≡ true) ⊎ (eqb a b ≡ false) → lexb a b true ≡ ltb a (b + 1)
        at (inl e) = lexb-eq a b true (eqb-true a b e) refl ∙ sym (lt-ltb a (b + 1) (omega (arith, eqb-true a b e)))
        at (inr e) =
            let h : b < a = omega (arith, ltb-false a b t, eqb-false a b e) in
            lexb-gt a b true h ∙ sym (le-ltb a (b + 1) (omega arith))
lex-below a b false = go (test (ltb a b))
  where
    go : (ltb a b ≡ true) ⊎ (ltb a b ≡ false) → lexb a b false ≡ ltb a b
    go (inl t) = lexb-lt a b false (ltb-true a b t) ∙ sym t
    go (inr t) = at (test (eqb a b))
      where
        at : (eqb a b ≡ true) ⊎ (eqb a b ≡ false) → lexb a b false ≡ ltb a b
        at (inl e) = lexb-same a b false (eqb-true a b e) ∙ sym t
        at (inr e) =
            let h : b < a = omega (arith, ltb-false a b t, eqb-false a b e) in
            lexb-gt a b false h ∙ sym t

-- an offer with this leave, arrival, rides and walk
abbrev pub due_by : ℕ → ℕ → ℕ → ℕ → Row
due_by leave r w a = row_of leave a r w 0 0 0 0 0 0 0 0

module _ (leave r w a : ℕ) (k : Row) where
  -- the row covers it from `covers_from` on, if it leaves no earlier
  row-covers : leave ≤ k.leave → cov k (due_by leave r w a) ≡ leb (covers_from k r w) a
  unfolding cov covers_from row_of
  row-covers h = rw (le-leb leave k.leave h) (lex-below k.arrival a (lexb k.rides r (leb k.walk w)) ∙ go (lexb k.rides r (leb k.walk w)))
    where
      go : (x : Bool) → ltb k.arrival (cond x (a + 1) a) ≡ leb (cond x k.arrival (k.arrival + 1)) a
      go true = by (test (leb k.arrival a))
        where
          by : (leb k.arrival a ≡ true) ⊎ (leb k.arrival a ≡ false) → ltb k.arrival (a + 1) ≡ leb k.arrival a
          by (inl e) = lt-ltb k.arrival (a + 1) (omega (arith, leb-true k.arrival a e)) ∙ sym e
          by (inr e) = le-ltb k.arrival (a + 1) (omega (arith, leb-false k.arrival a e)) ∙ sym e
      go false = by (test (ltb k.arrival a))
        where
          by : (ltb k.arrival a ≡ true) ⊎ (ltb k.arrival a ≡ false) → ltb k.arrival a ≡ leb (k.arrival + 1) a
          by (inl e) = e ∙ sym (le-leb (k.arrival + 1) a (omega (arith, ltb-true k.arrival a e)))
          by (inr e) = e ∙ sym (lt-leb (k.arrival + 1) a (omega (arith, ltb-false k.arrival a e)))

  -- it covers the row up to `stays_from`, if that leaves no later
  row-covered : k.leave ≤ leave → cov (due_by leave r w a) k ≡ ltb a (stays_from k r w)
  unfolding cov stays_from row_of
  row-covered h = rw (le-leb k.leave leave h) (lex-below a k.arrival (lexb r k.rides (leb w k.walk)))

  -- with a row in front, if the walk behind it passes over from t on
  walk-row : (ks : List Row) (t : ℕ) → passes cov (due_by leave r w a) ks ≡ leb t a
      → passes cov (due_by leave r w a) (k ∷ ks) ≡ leb (row_from leave r w k t) a
  unfolding row_from row_of
  walk-row ks t ih = go (test (ltb k.leave leave)) (test (eqb k.leave leave))
    where
      o : Row
      o = due_by leave r w a

      early : k.leave < leave → cond (cov k o) true (cond (cov o k) false (passes cov o ks)) ≡ leb (max t (stays_from k r w)) a
      early h = by (test (ltb a (stays_from k r w)))
        where
          by : (ltb a (stays_from k r w) ≡ true) ⊎ (ltb a (stays_from k r w) ≡ false)
              → cond (cov k o) true (cond (cov o k) false (passes cov o ks)) ≡ leb (max t (stays_from k r w)) a
          by (inl e) =
              rw (sym (cov-early k o h), row-covered (omega arith), e)
              (sym (lt-leb (max t (stays_from k r w)) a (omega (arith, ltb-true a (stays_from k r w) e))))
          by (inr e) =
              rw (sym (cov-early k o h), row-covered (omega arith), e, ih) (at (test (leb t a)))
            where
              at : (leb t a ≡ true) ⊎ (leb t a ≡ false) → leb t a ≡ leb (max t (stays_from k r w)) a
              at (inl x) =
                  x ∙ sym (le-leb (max t (stays_from k r w)) a (omega (arith, leb-true t a x, ltb-false a (stays_from k r w) e)))
              at (inr x) = x ∙ sym (lt-leb (max t (stays_from k r w)) a (omega (arith, leb-false t a x)))

      same : k.leave ≡ leave → cond (cov k o) true (cond (cov o k) false (passes cov o ks)) ≡ leb (covers_from k r w) a
      same h = by (test (leb (covers_from k r w) a))
        where
          by : (leb (covers_from k r w) a ≡ true) ⊎ (leb (covers_from k r w) a ≡ false)
              → cond (cov k o) true (cond (cov o k) false (passes cov o ks)) ≡ leb (covers_from k r w) a
          by (inl e) = rw (row-covers (omega arith), e) refl
          by (inr e) =
              let f : cov k o ≡ false = row-covers (omega arith) ∙ e in
              rw (f, cov-total k o h f, e) refl

      late : leave < k.leave → cond (cov k o) true (cond (cov o k) false (passes cov o ks)) ≡ leb (min t (covers_from k r w)) a
      late h = by (test (leb (covers_from k r w) a))
        where
          by : (leb (covers_from k r w) a ≡ true) ⊎ (leb (covers_from k r w) a ≡ false)
              → cond (cov k o) true (cond (cov o k) false (passes cov o ks)) ≡ leb (min t (covers_from k r w)) a
          by (inl e) =
              rw (row-covers (omega arith), e) (sym (le-leb (min t (covers_from k r w)) a (omega (arith, leb-true (covers_from k r w) a e))))
          by (inr e) = rw (row-covers (omega arith), e, sym (cov-early o k h), ih) (at (test (leb t a)))
            where
              at : (leb t a ≡ true) ⊎ (leb t a ≡ false) → leb t a ≡ leb (min t (covers_from k r w)) a
              at (inl x) = x ∙ sym (le-leb (min t (covers_from k r w)) a (omega (arith, leb-true t a x)))
              at (inr x) =
                  x ∙ sym (lt-leb (min t (covers_from k r w)) a (omega (arith, leb-false t a x, leb-false (covers_from k r w) a e)))

      go : (ltb k.leave leave ≡ true) ⊎ (ltb k.leave leave ≡ false) → (eqb k.leave leave ≡ true) ⊎ (eqb k.leave leave ≡ false)
          → cond (cov k o) true (cond (cov o k) false (passes cov o ks))
          ≡ leb (cond (ltb k.leave leave) (max t (stays_from k r w))
          (cond (eqb k.leave leave) (covers_from k r w) (min t (covers_from k r w)))) a
      go (inl x) y = rw x (early (ltb-true k.leave leave x))
      go (inr x) (inl y) = rw (x, y) (same (eqb-true k.leave leave y))
      go (inr x) (inr y) = rw (x, y) (late (omega (arith, ltb-false k.leave leave x, eqb-false k.leave leave y)))

-- ---- all rows

module _ (leave r w : ℕ) where
  walk-rows : (t a : ℕ) → a < t → (ks : List Row) → passes cov (due_by leave r w a) ks ≡ leb (rows_from leave r w t ks) a
  unfolding rows_from
  walk-rows t a h [] = sym (lt-leb t a h)
  walk-rows t a h (k ∷ ks) = walk-row leave r w a k ks (rows_from leave r w t ks) (walk-rows t a h ks)

  pub from-none : (l : List ℕ) (t i c : ℕ) → c ≡ count_of l → c ≤ i → t ≡ rows_from leave r w t (drop i (kept_of l))
  unfolding rows_from
  from-none l t i c ec h =
      let e : drop i (kept_of l) ≡ [] = drop_of_length-le (kept_of l) {i = i} (omega (arith, length-kept l)) in
      sym (ap (rows_from leave r w t) e)

  pub from-turn : (l : List ℕ) (late t t' i j c : ℕ) {k : Row} → c ≡ count_of l → j < c → i ≡ j + 1 → k ≡ get_or (kept_of l) j no_row
      → t' ≡ row_from leave r w k t → t ≡ rows_from leave r w late (drop i (kept_of l))
      → t' ≡ rows_from leave r w late (drop j (kept_of l))
  unfolding rows_from
  from-turn l late t t' i j c ec h ei ek et inv =
      let e : drop j (kept_of l) ≡ get_or (kept_of l) j no_row ∷ drop (suc j) (kept_of l) =
      drop-cons (kept_of l) j no_row (omega (arith, length-kept l)) in
      let s : i ≡ suc j = ei ∙ add-one j in
      et ∙ ap (row_from leave r w _) (inv ∙ ap (λ (n : ℕ). rows_from leave r w late (drop n (kept_of l))) s)
      ∙ ap (λ (x : Row). row_from leave r w x (rows_from leave r w late (drop (suc j) (kept_of l)))) ek
      ∙ sym (ap (rows_from leave r w late) e)

  view-going : (l : List ℕ) → open_of l ≡ true → view l ≡ going (kept_of l) (horizon_of l) (limits_of l)
  unfolding view
  view-going l e = rw e refl

  not-not : (b : Bool) → not b ≡ false → b ≡ true
  not-not true e = refl
  not-not false e = absurd (true≢false e)

  pub from-refused : (l : List ℕ) {b : Bool} → b ≡ not (open_of l) → b ≡ true → PassedFrom (view l) leave r w 0
  unfolding PassedFrom passed_over
  from-refused l eb t a = rw ((view-is-refused l).1 (of-not _ (sym eb ∙ t))) (sym (le-leb 0 a (omega arith)))

  pub from-rows : (l : List ℕ) (late t m i : ℕ) {b : Bool} → b ≡ not (open_of l) → b ≡ false → late ≡ horizon_of l + 1
      → i ≡ 0 → t ≡ rows_from leave r w late (drop i (kept_of l)) → m ≡ min t late → PassedFrom (view l) leave r w m
  unfolding PassedFrom passed_over passing due row_of
  from-rows l late t m i eb f el ei et em a =
      rw (view-going l (not-not (open_of l) (sym eb ∙ f))) (go (test (ltb (horizon_of l) a)))
    where
      at : (leb t a ≡ true) ⊎ (leb t a ≡ false) → a < late → leb t a ≡ leb m a
      at (inl x) h = x ∙ sym (le-leb m a (omega (arith, leb-true t a x)))
      at (inr x) h = x ∙ sym (lt-leb m a (omega (arith, leb-false t a x)))

      go : (ltb (horizon_of l) a ≡ true) ⊎ (ltb (horizon_of l) a ≡ false)
          → (ltb (horizon_of l) a || passes cov (due_by leave r w a) (kept_of l)) ≡ leb m a
      go (inl x) = or-true-left _ _ x ∙ sym (le-leb m a (omega (arith, ltb-true (horizon_of l) a x)))
      go (inr x) =
          let h : a < late = omega (arith, ltb-false (horizon_of l) a x) in
          rw x (walk-rows late a h (kept_of l) ∙ ap (λ n. leb n a) (sym (et ∙ ap (λ n. rows_from leave r w late (drop n (kept_of l))) ei)) ∙ at (test (leb t a)) h)

pub late-passed : (l : List ℕ) (h late leave r w : ℕ) → h ≡ horizon_of l → late ≡ h + 1
    → passed_over (view l) (with_figures (record { leave = leave; arrival = late; rides = r; walk = w })) ≡ true
unfolding passed_over view due row_of
late-passed l h late leave r w eh el = go (open_of l)
  where
    o : Row
    o = with_figures (record { leave = leave; arrival = late; rides = r; walk = w })

    go : (b : Bool) → passed_over (cond b (going (kept_of l) (horizon_of l) (limits_of l)) refused) o ≡ true
    go true = or-true-left _ _ (lt-ltb (horizon_of l) late (omega arith))
    go false = refl

-- ---- after an offer

covers-self : (o : Row) → cov o o ≡ true
unfolding cov
covers-self o = covers-refl (row_figures o)

-- a walk passes over what stands among its rows, if none is beaten by it
passes-own : (o : Row) (zs : List Row) → ((z : Row) → Memᴰ z zs → cov o z ≡ true → cov z o ≡ true) → Memᴰ o zs → passes cov o zs ≡ true
passes-own o [] f m = absurd (Memᴰ.not-nil m)
passes-own o (z ∷ zs) f m =
    go (test (cov z o)) (test (cov o z)) (Memᴰ.cases_cons m) (λ n. passes-own o zs (λ w i. f w (Memᴰ.tail i)) n)
  where
    own : cov z o ≡ false → o ≡ z → passes cov o (z ∷ zs) ≡ true
    own x q = absurd (true≢false (sym (covers-self o) ∙ ap (λ (y : Row). cov y o) q ∙ x))

    go : (cov z o ≡ true) ⊎ (cov z o ≡ false) → (cov o z ≡ true) ⊎ (cov o z ≡ false) → (o ≡ z) ⊎ Memᴰ o zs
        → (Memᴰ o zs → passes cov o zs ≡ true) → passes cov o (z ∷ zs) ≡ true
    go (inl x) y n ih = rw x refl
    go (inr x) (inl y) n ih = absurd (true≢false (sym (f z (Memᴰ.head refl) y) ∙ x))
    go (inr x) (inr y) (inl q) ih = own x q
    go (inr x) (inr y) (inr n) ih = rw (x, y) (ih n)

-- the rows that stay when o is added
added_rows : Row → List Row → List Row
added_rows o ks = filterb (λ k. not (cov o k)) ks ++ o ∷ []

module _ (o : Row) (ks : List Row) where
  unbeaten : (z : Row) → Memᴰ z (added_rows o ks) → cov o z ≡ true → cov z o ≡ true
  unfolding added_rows
  unbeaten z m e = go (Memᴰ.append_cases (filterb (λ k. not (cov o k)) ks) m)
    where
      go : Memᴰ z (filterb (λ k. not (cov o k)) ks) ⊎ Memᴰ z (o ∷ []) → cov z o ≡ true
      go (inl i) = absurd (true≢false (sym e ∙ of-not _ (filterb-mem (λ k. not (cov o k)) ks i).1))
      go (inr i) = ap (λ (y : Row). cov y o) (Memᴰ.eq_of_singleton i) ∙ covers-self o

  in_added : Memᴰ o (added_rows o ks)
  unfolding added_rows
  in_added = Memᴰ.append_right (filterb (λ k. not (cov o k)) ks) (Memᴰ.head refl)

  settled-passed : (h l : ℕ) → passed_over (settle due 64 3600 (added_rows o ks) h l) o ≡ true
  unfolding passed_over passing
  settled-passed h l =
      settle-elim due 64 3600 (λ s. passed_over s o ≡ true) (added_rows o ks) h l
      (λ _. or_true_right (ltb h (due o)) _ (passes-own o (added_rows o ks) unbeaten in_added))
      (λ _. refl)
      (λ _ _. cut (latest due (added_rows o ks) - 1) (test (leb (due o) (latest due (added_rows o ks) - 1))))
    where
      cut : (g : ℕ) → (leb (due o) g ≡ true) ⊎ (leb (due o) g ≡ false)
          → (ltb g (due o) || passes cov o (filterb (λ k. leb (due k) g) (added_rows o ks))) ≡ true
      cut g (inl x) =
          or_true_right (ltb g (due o)) _
          (passes-own o (filterb (λ k. leb (due k) g) (added_rows o ks))
          (λ z i. unbeaten z (filterb-mem (λ k. leb (due k) g) (added_rows o ks) i).0)
          (mem-filterb (λ k. leb (due k) g) in_added x))
      cut g (inr x) = or-true-left _ _ (lt-ltb g (due o) (leb-false (due o) g x))

pub offered-passed-over : OfferedPassed
unfolding passed_over offer_to passing cov due added_rows
offered-passed-over (going ks h l) o = go (test (ltb h o.arrival)) (test (passes cov o ks))
  where
    go : (ltb h o.arrival ≡ true) ⊎ (ltb h o.arrival ≡ false) → (passes cov o ks ≡ true) ⊎ (passes cov o ks ≡ false)
        → passed_over (offer_to (going ks h l) o) o ≡ true
    go (inl x) y = rw (x, x) refl
    go (inr x) (inl y) = rw (x, y, x, y) refl
    go (inr x) (inr y) = rw (x, y) (settled-passed o ks h l)
offered-passed-over refused o = refl
