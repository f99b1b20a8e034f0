-- The program's tests `covers`, `beats` and `prefer` are the relations stated here.
use mathlib.Core.Path.{◌≡◌, sym, ap, ◌∙◌}
use mathlib.Core.Logic.{◌⊎◌, inl, inr}
use mathlib.Core.Bool.{Bool, true, not, true≢false}
use Prim.Native.Nat.{ℕ, ◌≤◌, ◌<◌}
use native.Mathlib.Omega.{arith}
use lib.Dec.{leb}
use borrow.Author.Tests.{leb-true, le-leb, not-true}
use Rattle.laws.proofs.Bools.{and-true, and-true-left, and-true-right, not-true as is_false}
use Rattle.profile.specs.declared.Journey.{Journey}
use Rattle.profile.specs.Figures.{lexb, covers, prefer}
use Rattle.profile.specs.Front.{beats}
use Rattle.profile.specs.Journeys.{journey_figures}
use Rattle.profile.proofs.FiguresLaws.{lexb-lt, lexb-eq, lexb-true, covers-leave, covers-lexle}
use Rattle.comparison.specs.Order.{NoLarger, EqualsOrBeats, Same, Beats}
use Rattle.comparison.specs.Best.{AsGood}

-- whether p covers q, by the program's test
abbrev pub cov : Journey → Journey → Bool
cov p q = covers (journey_figures p) (journey_figures q)

lex-in : (a b c x y z : ℕ) → lexb a x (lexb b y (leb c z)) ≡ true → NoLarger a b c x y z
lex-in a b c x y z e = outer (lexb-true a x _ e)
  where
    inner : (b < y) ⊎ ((b ≡ y) × (leb c z ≡ true)) → (b < y) ⊎ ((b ≡ y) × (c ≤ z))
    inner (inl l) = inl l
    inner (inr (q, l)) = inr (q, leb-true c z l)

    outer : (a < x) ⊎ ((a ≡ x) × (lexb b y (leb c z) ≡ true)) → NoLarger a b c x y z
    outer (inl l) = inl l
    outer (inr (q, l)) = inr (q, inner (lexb-true b y _ l))

lex-out : (a b c x y z : ℕ) → NoLarger a b c x y z → lexb a x (lexb b y (leb c z)) ≡ true
lex-out a b c x y z (inl l) = lexb-lt a x _ l
lex-out a b c x y z (inr (q, inl l)) = lexb-eq a x _ q (lexb-lt b y _ l)
lex-out a b c x y z (inr (q, inr (r, l))) = lexb-eq a x _ q (lexb-eq b y _ r (le-leb c z l))

pub covers-in : (p q : Journey) → cov p q ≡ true → EqualsOrBeats p q
covers-in p q e = record {
  leaves = covers-leave (journey_figures p) (journey_figures q) e;
  rest = lex-in _ _ _ _ _ _ (covers-lexle (journey_figures p) (journey_figures q) e);
}

pub covers_out : (p q : Journey) → EqualsOrBeats p q → cov p q ≡ true
covers_out p q w = and-true _ _ (le-leb q.leave p.leave w.leaves) (lex-out _ _ _ _ _ _ w.rest)

-- ---- equal

less-or : (a b c x y z : ℕ) → NoLarger a b c x y z → NoLarger x y z a b c → (a ≡ x) × (b ≡ y) × (c ≡ z)
less-or a b c x y z (inl l) (inl m) = absurd (omega arith)
less-or a b c x y z (inl l) (inr (q, m)) = absurd (omega arith)
less-or a b c x y z (inr (q, l)) (inl m) = absurd (omega arith)
less-or a b c x y z (inr (q, inl l)) (inr (r, inl m)) = absurd (omega arith)
less-or a b c x y z (inr (q, inl l)) (inr (r, inr (s, m))) = absurd (omega arith)
less-or a b c x y z (inr (q, inr (t, l))) (inr (r, inl m)) = absurd (omega arith)
less-or a b c x y z (inr (q, inr (t, l))) (inr (r, inr (s, m))) = (q, t, omega arith)

pub both-same : (p q : Journey) → EqualsOrBeats p q → EqualsOrBeats q p → Same p q
both-same p q v w =
    let (a, r, k) = less-or _ _ _ _ _ _ v.rest w.rest in
    record { leave = omega (arith, v.leaves, w.leaves); arrival = a; rides = r; walk = k }

pub same_over : (p q : Journey) → Same p q → EqualsOrBeats p q
same_over p q s = record { leaves = omega (arith, s.leave); rest = inr (s.arrival, inr (s.rides, omega (arith, s.walk))) }

pub same-sym : (p q : Journey) → Same p q → Same q p
same-sym p q s = record { leave = sym s.leave; arrival = sym s.arrival; rides = sym s.rides; walk = sym s.walk }

-- ---- beats

pub beats-in : (p q : Journey) → beats cov p q ≡ true → Beats p q
beats-in p q e = record {
  over = covers-in p q (and-true-left (cov p q) (not (cov q p)) e);
  apart = λ s. true≢false (sym (covers_out q p (same_over q p (same-sym p q s)))
      ∙ not-true (cov q p) (and-true-right (cov p q) (not (cov q p)) e));
}

pub beats-out : (p q : Journey) → Beats p q → beats cov p q ≡ true
beats-out p q w = and-true (cov p q) (not (cov q p)) (covers_out p q w.over)
    (ap not (is_false (cov q p) (λ e. w.apart (both-same p q w.over (covers-in q p e)))))

-- ---- as good

pub prefer-in : (p q : Journey) → prefer (journey_figures p) (journey_figures q) ≡ true → AsGood p q
prefer-in p q e = one (lexb-true p.arrival q.arrival _ e)
  where
    three : (p.walk < q.walk) ⊎ ((p.walk ≡ q.walk) × (leb q.leave p.leave ≡ true))
        → (p.walk < q.walk) ⊎ ((p.walk ≡ q.walk) × (q.leave ≤ p.leave))
    three (inl l) = inl l
    three (inr (r, l)) = inr (r, leb-true q.leave p.leave l)

    two : (p.rides < q.rides) ⊎ ((p.rides ≡ q.rides) × (lexb p.walk q.walk (leb q.leave p.leave) ≡ true))
        → (p.rides < q.rides) ⊎ ((p.rides ≡ q.rides) × ((p.walk < q.walk) ⊎ ((p.walk ≡ q.walk) × (q.leave ≤ p.leave))))
    two (inl l) = inl l
    two (inr (r, l)) = inr (r, three (lexb-true p.walk q.walk _ l))

    one : (p.arrival < q.arrival) ⊎ ((p.arrival ≡ q.arrival) × (lexb p.rides q.rides (lexb p.walk q.walk (leb q.leave p.leave)) ≡ true))
        → AsGood p q
    one (inl l) = inl l
    one (inr (r, l)) = inr (r, two (lexb-true p.rides q.rides _ l))
