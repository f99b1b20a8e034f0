-- What the program's `bestℤ` gives is the best as stated here.
use Rattle.std.specs.Prelude.{None, Option, Some}
use mathlib.Core.Path.{◌≡◌, refl, sym, ap, subst, ◌∙◌}
use mathlib.Core.Logic.{◌⊎◌, inl, inr}
use mathlib.Core.Bool.{Bool, true, false, cond, true≢false}
use mathlib.Core.List.Memᴰ
use mathlib.Core.List.{List, [], ◌∷◌, ◌++◌, Memᴰ}
use Prim.Native.Nat.{ℕ, ◌≤◌}
use lib.Dec.{leb, ltb}
use lib.IntN.{ℤ, pos, negsuc}
use borrow.Author.Tests.{leb-true, le-leb, ltb-true, ltb-false}
use Rattle.laws.specs.Lists.{filterb}
use Rattle.profile.specs.declared.Journey.{Journey}
use Rattle.profile.specs.declared.figures.Figures.{Figures}
use Rattle.profile.specs.Figures.{prefer}
use Rattle.profile.specs.Best.{choose, pick, bestℤ}
use Rattle.profile.specs.Journeys.{journey_figures}
use Rattle.profile.proofs.FiguresLaws.{prefer-refl, prefer-trans, prefer-total}
use Rattle.comparison.specs.Order.{Same}
use Rattle.comparison.specs.Best.{BestAt}
use Rattle.comparison.proofs.OrderLaws.{prefer-in}

abbrev pref : Journey → Journey → Bool
pref p q = prefer (journey_figures p) (journey_figures q)

-- journeys of equal figures are preferred alike
same-pref : (p q : Journey) → Same p q → pref p q ≡ true
same-pref p q s = subst (λ (f : Figures). prefer (journey_figures p) f ≡ true)
    (λ i. record { leave = s.leave i; arrival = s.arrival i; rides = s.rides i; walk = s.walk i }) (prefer-refl (journey_figures p))

-- the same as `IsBest`, by the program's test
record Top (ks : List Journey) (t : ℕ) (j : Journey) : Type 0 where
  before : List Journey
  behind : List Journey
  kept : ks ≡ before ++ j ∷ behind
  in_time : t ≤ j.leave
  best : (k : Journey) → Memᴰ k ks → t ≤ k.leave → pref j k ≡ true
  first : (k : Journey) → Memᴰ k before → t ≤ k.leave → Same k j → ⊥

abbrev Picks : List Journey → ℕ → Option Journey → Type 0
Picks ks t None = (k : Journey) → Memᴰ k ks → t ≤ k.leave → ⊥
Picks ks t (Some j) = Top ks t j

module _ (t : ℕ) (x : Journey) (ks : List Journey) where
  -- x leaves too early
  skip : leb t x.leave ≡ false → (r : Option Journey) → Picks ks t r → Picks (x ∷ ks) t r
  skip e None w = λ k m l. go k (Memᴰ.cases_cons m) l
    where
      go : (k : Journey) → (k ≡ x) ⊎ Memᴰ k ks → t ≤ k.leave → ⊥
      go k (inl q) l = true≢false (sym (le-leb t x.leave (rw q at l)) ∙ e)
      go k (inr m) l = w k m l
  skip e (Some j) w = record {
    before = x ∷ w.before;
    behind = w.behind;
    kept = ap {B = List Journey} (λ r. x ∷ r) w.kept;
    in_time = w.in_time;
    best = λ k m l. best k (Memᴰ.cases_cons m) l;
    first = λ k m l. first k (Memᴰ.cases_cons m) l;
  }
    where
      late : (k : Journey) → k ≡ x → t ≤ k.leave → ⊥
      late k q l = true≢false (sym (le-leb t x.leave (rw q at l)) ∙ e)

      best : (k : Journey) → (k ≡ x) ⊎ Memᴰ k ks → t ≤ k.leave → pref j k ≡ true
      best k (inl q) l = absurd (late k q l)
      best k (inr m) l = w.best k m l

      first : (k : Journey) → (k ≡ x) ⊎ Memᴰ k w.before → t ≤ k.leave → Same k j → ⊥
      first k (inl q) l = absurd (late k q l)
      first k (inr m) l = w.first k m l

  -- x is taken: each other that leaves in time is no better
  head : t ≤ x.leave → ((k : Journey) → Memᴰ k ks → t ≤ k.leave → pref x k ≡ true) → Top (x ∷ ks) t x
  head l f = record {
    before = [];
    behind = ks;
    kept = refl;
    in_time = l;
    best = λ k m. go k (Memᴰ.cases_cons m);
    first = λ k m. absurd (Memᴰ.not-nil m);
  }
    where
      go : (k : Journey) → (k ≡ x) ⊎ Memᴰ k ks → t ≤ k.leave → pref x k ≡ true
      go k (inl q) l' = rw q (prefer-refl (journey_figures x))
      go k (inr m) l' = f k m l'

  offer : leb t x.leave ≡ true → (r : Option Journey) → Picks ks t r → Picks (x ∷ ks) t (choose journey_figures x r)
  offer e None w = head (leb-true t x.leave e) (λ k m l. absurd (w k m l))
  offer e (Some y) w = by (pref x y) refl
    where
      first : (k : Journey) → pref x y ≡ false → (k ≡ x) ⊎ Memᴰ k w.before → t ≤ k.leave → Same k y → ⊥
      first k p (inl q) l s = true≢false (sym (same-pref x y (subst (λ (z : Journey). Same z y) q s)) ∙ p)
      first k p (inr m) l s = w.first k m l s

      best : (k : Journey) → pref x y ≡ false → (k ≡ x) ⊎ Memᴰ k ks → t ≤ k.leave → pref y k ≡ true
      best k p (inl q) l = rw q (prefer-total (journey_figures x) (journey_figures y) p)
      best k p (inr m) l = w.best k m l

      by : (b : Bool) → pref x y ≡ b → Picks (x ∷ ks) t (cond b (Some x) (Some y))
      by true p = head (leb-true t x.leave e) (λ k m l.
          prefer-trans (journey_figures x) (journey_figures y) (journey_figures k) p (w.best k m l))
      by false p = record {
        before = x ∷ w.before;
        behind = w.behind;
        kept = ap {B = List Journey} (λ r. x ∷ r) w.kept;
        in_time = w.in_time;
        best = λ k m l. best k p (Memᴰ.cases_cons m) l;
        first = λ k m l. first k p (Memᴰ.cases_cons m) l;
      }

picks : (t : ℕ) (ks : List Journey) → Picks ks t (pick journey_figures (filterb (λ k. leb t k.leave) ks))
picks t [] = λ k m l. Memᴰ.not-nil m
picks t (x ∷ ks) = go (leb t x.leave) refl (picks t ks)
  where
    rest : List Journey
    rest = filterb (λ k. leb t k.leave) ks

    go : (b : Bool) → leb t x.leave ≡ b → Picks ks t (pick journey_figures rest)
        → Picks (x ∷ ks) t (pick journey_figures (cond b (x ∷ rest) rest))
    go true e w = offer t x ks e (pick journey_figures rest) w
    go false e w = skip t x ks e (pick journey_figures rest) w

stated : (ks : List Journey) (h t : ℕ) → t ≤ h → (r : Option Journey) → Picks ks t r → BestAt ks h (pos t) r
stated ks h t l None w = inr w
stated ks h t l (Some j) w = (
  l,
  record {
    before = w.before;
    behind = w.behind;
    kept = w.kept;
    in_time = w.in_time;
    best = λ k m q. prefer-in j k (w.best k m q);
    first = w.first;
  },
)

pub best-at : (ks : List Journey) (h : ℕ) (z : ℤ) → BestAt ks h z (bestℤ journey_figures ks h z)
best-at ks h (negsuc t) = tt
best-at ks h (pos t) = go (ltb h t) refl
  where
    go : (b : Bool) → ltb h t ≡ b → BestAt ks h (pos t) (cond b None (pick journey_figures (filterb (λ k. leb t k.leave) ks)))
    go true e = inl (ltb-true h t e)
    go false e = stated ks h t (ltb-false h t e) (pick journey_figures (filterb (λ k. leb t k.leave) ks)) (picks t ks)
