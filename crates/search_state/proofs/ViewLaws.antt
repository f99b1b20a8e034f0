-- The array as a state: what is read of it, and a state with nothing kept.
use mathlib.Core.Path.{◌≡◌, refl, sym, ap, ◌∙◌}
use mathlib.Core.Bool.{Bool, true, false, not, cond, true≢false}
use mathlib.Core.Logic.{◌≢◌}
use mathlib.Core.List.{List, []}
use Prim.Native.Nat.{ℕ, ◌≤◌, ◌<◌}
use native.Mathlib.Omega.{arith}
use lib.Dec.{ltb, eqb}
use borrow.Author.Tests.{eq-eqb, ne_eqb, eqb-true, ltb-false}
use lib.ListN.{length, get_or, set, take, replicate, length-set, length-take, length-replicate, get_or-replicate, get_or-eq_default}
use lib.Seq.{get_or-set_same, get_or-set_other, get_or-take}
use Rattle.profile.specs.Found.{Row}
use Rattle.profile.specs.Kept.{going, refused, too_late}
use Rattle.search_state.specs.Layout.{count_place, horizon_place, limits_place, refused_place, size}
use Rattle.search_state.specs.View.{rows, count_of, horizon_of, limits_of, kept_of, open_of, view, ViewParts, ViewRefused}
use Rattle.profile.specs.Journeys.{no_row}
use Rattle.search_state.proofs.RowLaws.{rows-length}

-- ---- the numbers behind the slots

pub count-is : (l : List ℕ) (n : ℕ) → get_or l count_place 0 ≡ n → n ≤ 64 → count_of l ≡ n
unfolding count_of
count-is l n e h = omega arith

pub count-few : (l : List ℕ) → count_of l ≤ 64
unfolding count_of
count-few l = omega arith

pub few : (l : List ℕ) (c : ℕ) → c ≡ count_of l → c ≤ 64
few l c e = omega (arith, count-few l)

pub limits-is : (l : List ℕ) (n : ℕ) → get_or l limits_place 0 ≡ n → n < 256 → limits_of l ≡ n
unfolding limits_of
limits-is l n e h = omega arith

pub length-kept : (l : List ℕ) → length (kept_of l) ≡ count_of l
unfolding kept_of
length-kept l = omega (arith, length-take (count_of l) (rows l), rows-length l, count-few l)

-- ---- a row kept

module _ (l : List ℕ) (c i : ℕ) (ec : c ≡ count_of l) where
  pub kept_at : (r : Row) → i < c → r ≡ get_or (rows l) i no_row → r ≡ get_or (kept_of l) i no_row
  unfolding kept_of
  kept_at r h e = e ∙ sym (get_or-take (count_of l) (rows l) i no_row (omega arith))

  pub kept-past : (r : Row) → c ≤ i → r ≡ no_row → r ≡ get_or (kept_of l) i no_row
  unfolding kept_of
  kept-past r h e =
      e ∙ sym (get_or-eq_default (take (count_of l) (rows l)) no_row {n = i} (omega (arith, length-take (count_of l) (rows l), ec)))

-- ---- the state

pub view-open : (l : List ℕ) → get_or l refused_place 0 ≡ 0 → view l ≡ going (kept_of l) (horizon_of l) (limits_of l)
unfolding view open_of
view-open l e = rw (eq-eqb (get_or l refused_place 0) 0 e) refl

pub view-refused : (l : List ℕ) → (get_or l refused_place 0 ≡ 0 → ⊥) → view l ≡ refused
unfolding view open_of
view-refused l n = rw (ne_eqb (get_or l refused_place 0) 0 n) refl

pub view-is : (l : List ℕ) (n h g : ℕ) → get_or l count_place 0 ≡ n → n ≤ 64 → get_or l horizon_place 0 ≡ h → get_or l limits_place 0 ≡ g
    → g < 256 → get_or l refused_place 0 ≡ 0 → view l ≡ going (take n (rows l)) h g
unfolding kept_of horizon_of
view-is l n h g en le eh eg small em = view-open l em ∙ rw (count-is l n en le, eh, limits-is l g eg small) refl

module _ (l : List ℕ) (a : ℕ) {r : Bool} (e : r ≡ not (open_of l)) where
  pub late-refused : r ≡ true → r ≡ too_late (view l) a
  unfolding view
  late-refused t = go (open_of l) e
    where
      go : (b : Bool) → r ≡ not b → r ≡ too_late (cond b (going (kept_of l) (horizon_of l) (limits_of l)) refused) a
      go true q = absurd (true≢false (sym t ∙ q))
      go false q = t

  pub late-open : {h : ℕ} → r ≡ false → h ≡ horizon_of l → ltb h a ≡ too_late (view l) a
  unfolding view
  late-open {h} f eh = go (open_of l) e
    where
      go : (b : Bool) → r ≡ not b → ltb h a ≡ too_late (cond b (going (kept_of l) (horizon_of l) (limits_of l)) refused) a
      go true q = ap (λ (x : ℕ). ltb x a) eh
      go false q = absurd (true≢false (sym q ∙ f))

-- a state that is not too late for an offer is not refused, and its horizon is no earlier
pub in_time : (l : List ℕ) (a : ℕ) (b : Bool) → b ≡ too_late (view l) a → b ≡ false → (get_or l refused_place 0 ≡ 0) × (a ≤ horizon_of l)
unfolding view open_of
in_time l a b eb f = go (eqb (get_or l refused_place 0) 0) refl (sym eb ∙ f)
  where
    go : (c : Bool) → eqb (get_or l refused_place 0) 0 ≡ c
        → too_late (cond c (going (kept_of l) (horizon_of l) (limits_of l)) refused) a ≡ false
        → (get_or l refused_place 0 ≡ 0) × (a ≤ horizon_of l)
    go true e k = (eqb-true (get_or l refused_place 0) 0 e, ltb-false (horizon_of l) a k)
    go false e k = absurd (true≢false k)

pub view-parts : ViewParts
unfolding view
view-parts l ks h g e = go (open_of l) refl e
  where
    few-kept : count_of l ≡ length (kept_of l)
    few-kept = sym (length-kept l)

    go : (b : Bool) → open_of l ≡ b → cond b (going (kept_of l) (horizon_of l) (limits_of l)) refused ≡ going ks h g
        → (open_of l ≡ true) × (count_of l ≡ length ks) × (kept_of l ≡ ks) × (horizon_of l ≡ h) × (limits_of l ≡ g)
    go true o k = let q : kept_of l ≡ ks = cc in (o, few-kept ∙ ap length q, q, (cc), (cc))
    go false o k = let z : ◌≡◌ {A = ℕ} 0 1 = cc in absurd (omega arith)

pub view-is-refused : ViewRefused
unfolding view
view-is-refused l = (λ e. go (open_of l) refl e, λ o. rw o)
  where
    go : (b : Bool) → open_of l ≡ b → cond b (going (kept_of l) (horizon_of l) (limits_of l)) refused ≡ refused → open_of l ≡ false
    go true o k = let z : ◌≡◌ {A = ℕ} 0 1 = cc in absurd (omega arith)
    go false o k = o

-- ---- nothing kept

module _ (h g : ℕ) where
  start : List ℕ
  start = set (set (replicate size 0) horizon_place h) limits_place g

  start-zero : (y : ℕ) → y < size → y ≢ horizon_place → y ≢ limits_place → get_or start y 0 ≡ 0
  unfolding start
  start-zero y b n m =
      get_or-set_other (set (replicate size 0) horizon_place h) limits_place y g 0 m
      ∙ get_or-set_other (replicate size 0) horizon_place y h 0 n ∙ get_or-replicate size y 0 0 b

  pub fresh-view : g < 256 → view (set (set (replicate size 0) horizon_place h) limits_place g) ≡ going [] h g
  unfolding start
  fresh-view small =
      let a : ◌≢◌ {A = ℕ} count_place horizon_place = λ e. omega arith in
      let a' : ◌≢◌ {A = ℕ} count_place limits_place = λ e. omega arith in
      let b : ◌≢◌ {A = ℕ} refused_place horizon_place = λ e. omega arith in
      let b' : ◌≢◌ {A = ℕ} refused_place limits_place = λ e. omega arith in
      let d : ◌≢◌ {A = ℕ} horizon_place limits_place = λ e. omega arith in
      let n = length-replicate {A = ℕ} size 0 in
      view-is start 0 h g (start-zero count_place (omega arith) a a') (omega arith)
      (get_or-set_other (set (replicate size 0) horizon_place h) limits_place horizon_place g 0 d
      ∙ get_or-set_same (replicate size 0) horizon_place h 0 (omega (arith, n)))
      (get_or-set_same (set (replicate size 0) horizon_place h) limits_place g 0
      (omega (arith, n, length-set (replicate size 0) horizon_place h))) small (start-zero refused_place (omega arith) b b')
