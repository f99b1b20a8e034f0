-- What the walk of an offer does at one row: the comparison by arrival, rides and walk, test by test; a turn by its answer.
use mathlib.Core.Path.{◌≡◌, refl, sym, ap, ◌∙◌}
use mathlib.Core.Bool.{Bool, true, false, cond, true≢false}
use mathlib.Core.Logic.{◌≢◌, ◌⊎◌, inl, inr}
use mathlib.Core.List.{List}
use Prim.Native.Nat.{ℕ, ◌+◌, ◌*◌, ◌/◌, ◌≤◌, ◌<◌}
use native.Mathlib.Omega.{arith}
use lib.Dec.{ltb}
use borrow.Author.Tests.{ltb-true, ltb-false, lt-ltb, le-ltb, le-leb, leb-false}
use lib.ListN.{get_or, take}
use Rattle.laws.proofs.Bools.{test}
use Rattle.profile.specs.Found.{Row}
use Rattle.profile.specs.Journeys.{cov}
use Rattle.profile.proofs.CoverLaws.{cov-early}
use Rattle.profile.proofs.FiguresLaws.{lexb-total}
use Rattle.search_state.specs.Layout.{width}
use Rattle.search_state.specs.View.{row_at, rows}
use Rattle.search_state.proofs.RowLaws.{rows_get}
use Rattle.candidate.specs.Pieces.{rank_by, turn_of, Ends, near_to, near_at, Skipped, passing, walk_end}
use Rattle.candidate.specs.declared.walk.Turn.{Turn}
use Rattle.candidate.specs.declared.walk.Turn.TheVariants.{On, Covered, Stops}
use Rattle.std.specs.Prelude.{Result, Ok, Err}
use Rattle.std.specs.Result.{is_ok}
use Rattle.candidate.proofs.StepLaws.{skip-turn, found_at, found_none}

-- ---- arrival, rides and walk, compared in that order

module _ (a r w b s v : ℕ) where
  pub rank-total : rank_by a r w b s v ≡ false → rank_by b s v a r w ≡ true
  unfolding rank_by
  rank-total h =
      lexb-total a b _ _ h (λ h'. lexb-total r s _ _ h' (λ h''. le-leb v w (omega (arith, leb-false w v h''))))

cov-rank : (a b : Row) → b.leave ≤ a.leave → cov a b ≡ rank_by a.arrival a.rides a.walk b.arrival b.rides b.walk
unfolding cov rank_by
cov-rank a b h = rw (le-leb b.leave a.leave h) refl

pub cov-total : (a b : Row) → a.leave ≡ b.leave → cov a b ≡ false → cov b a ≡ true
cov-total a b e h =
    let f = sym (cov-rank a b (omega arith)) ∙ h in
    cov-rank b a (omega arith) ∙ rank-total a.arrival a.rides a.walk b.arrival b.rides b.walk f

-- ---- a turn, test by test

turn_is : (i c : ℕ) (o k : Row) (x y : Bool) → i < c → x ≡ cov k o → y ≡ cov o k → cond x Covered (cond y Stops On) ≡ turn_of i c o k
unfolding turn_of
turn_is i c o k x y h ex ey = rw (lt-ltb i c h, ex, ey) refl

module _ (l : List ℕ) (at i c : ℕ) (o : Row) (le : i ≤ c) (e : at ≡ i * width) (m : Ends l c o) where
  -- a row that does not leave when o does is a kept one
  kept : get_or l at 0 ≢ o.leave → i < c
  unfolding Ends
  kept n = go (test (ltb i c))
    where
      go : (ltb i c ≡ true) ⊎ (ltb i c ≡ false) → i < c
      go (inl t) = ltb-true i c t
      go (inr t) = let q = ltb-false i c t in let f : at ≡ c * width = omega arith in absurd (n (ap (λ (x : ℕ). get_or l x 0) f ∙ m))

  row-leaves : (row_at l i).leave ≡ get_or l at 0
  unfolding row_at
  row-leaves = ap (λ (x : ℕ). get_or l x 0) (sym e)

  module _ (b : Bool) (er : b ≡ rank_by (get_or l (at + 1) 0) (get_or l (at + 2) 0) (get_or l (at + 3) 0) o.arrival o.rides o.walk) where
    row-covers : o.leave ≤ get_or l at 0 → b ≡ cov (row_at l i) o
    unfolding row_at
    row-covers h =
        let f : b ≡ rank_by (get_or l (i * width + 1) 0) (get_or l (i * width + 2) 0)
        (get_or l (i * width + 3) 0) o.arrival o.rides o.walk =
        rw e at er in
        f ∙ sym (cov-rank (row_at l i) o (rw row-leaves h))

    pub turn-later : o.leave ≤ get_or l at 0 → get_or l at 0 ≢ o.leave → cond b Covered On ≡ turn_of i c o (row_at l i)
    turn-later h n =
        let lt : o.leave < (row_at l i).leave = omega (arith, row-leaves, n) in
        turn_is i c o (row_at l i) b false (kept n) (row-covers h) (cov-early o (row_at l i) lt)

    pub turn-same : get_or l at 0 ≡ o.leave → i < c → cond b Covered Stops ≡ turn_of i c o (row_at l i)
    turn-same h lt = go b refl
      where
        go : (x : Bool) → b ≡ x → cond x Covered Stops ≡ turn_of i c o (row_at l i)
        go true t = turn_is i c o (row_at l i) true (cov o (row_at l i)) lt (sym t ∙ row-covers (omega arith)) refl
        go false t =
            let f = cov-total (row_at l i) o (row-leaves ∙ h) (sym (row-covers (omega arith)) ∙ t) in
            turn_is i c o (row_at l i) false true lt (sym t ∙ row-covers (omega arith)) (sym f)

  module _ (b : Bool) (er : b ≡ rank_by o.arrival o.rides o.walk (get_or l (at + 1) 0) (get_or l (at + 2) 0) (get_or l (at + 3) 0)) where
    offer-covers : get_or l at 0 ≤ o.leave → b ≡ cov o (row_at l i)
    unfolding row_at
    offer-covers h =
        let f : b ≡ rank_by o.arrival o.rides o.walk (get_or l (i * width + 1) 0) (get_or l (i * width + 2) 0)
        (get_or l (i * width + 3) 0) =
        rw e at er in
        f ∙ sym (cov-rank o (row_at l i) (rw row-leaves h))

    pub turn-early : get_or l at 0 < o.leave → cond b Stops On ≡ turn_of i c o (row_at l i)
    turn-early h =
        let n : get_or l at 0 ≢ o.leave = λ q. omega arith in
        turn_is i c o (row_at l i) false b (kept n) (cov-early (row_at l i) o (rw row-leaves h)) (offer-covers (omega arith))

pub turn_end : (i c : ℕ) (o k : Row) → c ≤ i → Stops ≡ turn_of i c o k
unfolding turn_of
turn_end i c o k h = rw (le-ltb i c h) refl

-- ---- a turn by its answer

abbrev code : Turn → ℕ
code On = 0
code Covered = 1
code Stops = 2

On≢Covered : ¬ (On ≡ Covered)
On≢Covered w = let q : ◌≡◌ {A = ℕ} 0 1 = ap code w in omega arith

On≢Stops : ¬ (On ≡ Stops)
On≢Stops w = let q : ◌≡◌ {A = ℕ} 0 2 = ap code w in omega arith

Covered≢Stops : ¬ (Covered ≡ Stops)
Covered≢Stops w = let q : ◌≡◌ {A = ℕ} 1 2 = ap code w in omega arith

module _ (i c : ℕ) (o k : Row) {t : Turn} (e : t ≡ turn_of i c o k) where
  turn_on : t ≡ On → (i < c) × (near_to o k ≡ false)
  unfolding turn_of near_to
  turn_on q = go (ltb i c) refl (cov k o) refl (cov o k) refl (sym q ∙ e)
    where
      go : (x : Bool) → ltb i c ≡ x → (y : Bool) → cov k o ≡ y → (z : Bool) → cov o k ≡ z
          → On ≡ cond x (cond y Covered (cond z Stops On)) Stops
          → (i < c) × (near_to o k ≡ false)
      go true a true b z d w = absurd (On≢Covered w)
      go true a false b true d w = absurd (On≢Stops w)
      go true a false b false d w = (ltb-true i c a, rw (b, d))
      go false a y b z d w = absurd (On≢Stops w)

  turn-covered : t ≡ Covered → (i < c) × (cov k o ≡ true)
  unfolding turn_of
  turn-covered q = go (ltb i c) refl (cov k o) refl (cov o k) (sym q ∙ e)
    where
      go : (x : Bool) → ltb i c ≡ x → (y : Bool) → cov k o ≡ y → (z : Bool) → Covered ≡ cond x (cond y Covered (cond z Stops On)) Stops
          → (i < c) × (cov k o ≡ true)
      go true a true b z w = (ltb-true i c a, b)
      go true a false b true w = absurd (Covered≢Stops w)
      go true a false b false w = absurd (On≢Covered (sym w))
      go false a y b z w = absurd (Covered≢Stops w)

  turn-stops : t ≡ Stops → (c ≤ i) ⊎ ((i < c) × (cov k o ≡ false) × (near_to o k ≡ true))
  unfolding turn_of near_to
  turn-stops q = go (ltb i c) refl (cov k o) refl (cov o k) refl (sym q ∙ e)
    where
      go : (x : Bool) → ltb i c ≡ x → (y : Bool) → cov k o ≡ y → (z : Bool) → cov o k ≡ z
          → Stops ≡ cond x (cond y Covered (cond z Stops On)) Stops
          → (c ≤ i) ⊎ ((i < c) × (cov k o ≡ false) × (near_to o k ≡ true))
      go true a true b z d w = absurd (Covered≢Stops (sym w))
      go true a false b true d w = inr (ltb-true i c a, b, rw (b, d))
      go true a false b false d w = absurd (On≢Stops (sym w))
      go false a y b z d w = inl (ltb-false i c a)

near-covering : (k o : Row) → cov k o ≡ true → near_to o k ≡ true
unfolding near_to
near-covering k o f = rw f

-- ---- what a walk finds, by where it ends

ended-ok : (o : Row) (ks : List Row) (i : ℕ) → (i ≡ near_at o ks) × (true ≡ passing o ks) → Ok i ≡ walk_end o ks
unfolding walk_end
ended-ok o ks i (e, p) = rw (← p) (ap Ok e)

ended-err : (o : Row) (ks : List Row) (i at : ℕ) → at ≡ i * width → (i ≡ near_at o ks) × (false ≡ passing o ks) → Err at ≡ walk_end o ks
unfolding walk_end
ended-err o ks i at a (e, p) = rw (← p) (ap Err (a ∙ ap (λ (x : ℕ). x * width) e))

abbrev number : Result ℕ ℕ → ℕ
number (Ok n) = n
number (Err n) = n

pub end-ok : (o : Row) (ks : List Row) {r : Result ℕ ℕ} {n : ℕ} → r ≡ walk_end o ks → r ≡ Ok n → (true ≡ passing o ks) × (n ≡ near_at o ks)
unfolding walk_end
end-ok o ks {r} {n} e q = go (passing o ks) (sym q ∙ e)
  where
    go : (b : Bool) → Ok n ≡ cond b (Ok (near_at o ks)) (Err (near_at o ks * width)) → (true ≡ b) × (n ≡ near_at o ks)
    go true w = (refl, ap number w)
    go false w = absurd (true≢false (ap is_ok w))

pub end-err : (o : Row) (ks : List Row) {r : Result ℕ ℕ} {n : ℕ} → r ≡ walk_end o ks → r ≡ Err n
    → (false ≡ passing o ks) × (n ≡ near_at o ks * width)
unfolding walk_end
end-err o ks {r} {n} e q = go (passing o ks) (sym q ∙ e)
  where
    go : (b : Bool) → Err n ≡ cond b (Ok (near_at o ks)) (Err (near_at o ks * width)) → (false ≡ b) × (n ≡ near_at o ks * width)
    go true w = absurd (true≢false (sym (ap is_ok w)))
    go false w = (refl, ap number w)

pub end-is-ok : (o : Row) (ks : List Row) {r : Result ℕ ℕ} → r ≡ walk_end o ks → is_ok r ≡ passing o ks
unfolding walk_end
end-is-ok o ks e = ap is_ok e ∙ go (passing o ks)
  where
    go : (b : Bool) → is_ok (cond b (Ok (near_at o ks)) (Err (near_at o ks * width))) ≡ b
    go true = refl
    go false = refl

module _ (l : List ℕ) (c i : ℕ) (o : Row) (few : c ≤ 64) {t : Turn} (e : t ≡ turn_of i c o (row_at l i))
    (s : Skipped o (take c (rows l)) 0 i) where
  pub walk-on : t ≡ On → Skipped o (take c (rows l)) 0 (i + 1) × (i < c)
  walk-on q =
      let (lt, f) = turn_on i c o (row_at l i) e q in
      (skip-turn l c i o (omega arith) lt 0 (row_at l i) (sym (rows_get l i (omega arith))) f s, lt)

  pub walk-covered : t ≡ Covered → Ok i ≡ walk_end o (take c (rows l))
  walk-covered q =
      let (lt, f) = turn-covered i c o (row_at l i) e q in
      ended-ok o (take c (rows l)) i
      (found_at l c i o (omega arith) lt (row_at l i) true (sym (rows_get l i (omega arith))) (sym f)
      (near-covering (row_at l i) o f) s)

  pub walk-stops : (at : ℕ) → t ≡ Stops → at ≡ i * width → Err at ≡ walk_end o (take c (rows l))
  walk-stops at q a = ended-err o (take c (rows l)) i at a (go (turn-stops i c o (row_at l i) e q))
    where
      go : (c ≤ i) ⊎ ((i < c) × (cov (row_at l i) o ≡ false) × (near_to o (row_at l i) ≡ true))
          → (i ≡ near_at o (take c (rows l))) × (false ≡ passing o (take c (rows l)))
      go (inl h) = found_none l c i o (omega arith) h s
      go (inr (lt, f, n)) = found_at l c i o (omega arith) lt (row_at l i) false (sym (rows_get l i (omega arith))) (sym f) n s

-- the place of a row, from where its numbers start
pub place_of : (s n : ℕ) → s ≡ n * width → s / width ≡ n
place_of s n e = omega arith
