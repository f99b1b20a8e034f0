-- The program's `fall` is the fall stated here.
use mathlib.Core.Path.{◌≡◌, refl, sym, ap, subst, ◌∙◌}
use mathlib.Core.Logic.{◌⊎◌, inl, inr}
use mathlib.Core.Bool.{Bool, true, false, cond}
use mathlib.Core.List.Memᴰ
use mathlib.Core.List.{List, [], ◌∷◌, ◌++◌, Memᴰ}
use Prim.Native.Nat.{ℕ, ◌-◌, ◌≤◌, ◌<◌, max}
use native.Mathlib.Omega.{arith}
use lib.Dec.{leb, ltb}
use lib.ListN.{length}
use borrow.Author.Tests.{leb-true, leb-false, ltb-true, ltb-false}
use Rattle.laws.specs.Lists.{filterb}
use Rattle.laws.proofs.Lists.{length-filterb-lt}
use Rattle.profile.specs.declared.Journey.{Journey}
use Rattle.profile.specs.Figures.{covᶠ, dueᶠ}
use Rattle.laws.proofs.Sort.{length-sort, sort-mem, mem-sort}
use Rattle.profile.specs.Front.{front}
use Rattle.profile.specs.Best.{sooner, ordered}
use Rattle.profile.specs.Fall.{Ends, up_to, never, fall}
use Rattle.profile.specs.Kept.{latest}
use Rattle.profile.specs.Journeys.{journey_figures}
use Rattle.profile.proofs.FiguresLaws.{figures-order}
use Rattle.profile.proofs.FrontLaws.{front-one-more, after-due, after-mem}
use Rattle.comparison.specs.Kept.{GoesBefore, InOrder, Holds}
use Rattle.comparison.specs.Falls.{Latest, End, at, below, Falls, done, stays, falls, sinks}
use Rattle.comparison.proofs.KeptLaws.{front-holds}
use Rattle.comparison.proofs.Pairs.{Pairs, one-pairs}

abbrev due : Journey → ℕ
due j = j.arrival

abbrev standing : ℕ → List Journey → List Journey
standing h os = front (covᶠ journey_figures) (dueᶠ journey_figures) h os

-- the latest of a list that is not empty
latest-is : (ks : List Journey) → 0 < length ks → Latest ks (latest due ks)
latest-is [] l = absurd (omega arith)
latest-is (k ∷ []) l = record { one = k; there = Memᴰ.head refl; is = omega arith; top = λ q m. only q (Memᴰ.cases_cons m) }
  where
    only : (q : Journey) → (q ≡ k) ⊎ Memᴰ q [] → q.arrival ≤ max k.arrival 0
    only q (inl e) = omega (arith, ap due e)
    only q (inr m) = absurd (Memᴰ.not-nil m)
latest-is (k ∷ q ∷ ks) l = more k (q ∷ ks) (latest due (q ∷ ks)) (latest-is (q ∷ ks) (omega arith))
  where
    more : (k : Journey) (rest : List Journey) (a : ℕ) → Latest rest a → Latest (k ∷ rest) (max k.arrival a)
    more k rest a w = go (leb a k.arrival) refl
      where
        top : (x : Journey) → (x ≡ k) ⊎ Memᴰ x rest → x.arrival ≤ max k.arrival a
        top x (inl z) = omega (arith, ap due z)
        top x (inr m) = omega (arith, w.top x m)

        go : (b : Bool) → leb a k.arrival ≡ b → Latest (k ∷ rest) (max k.arrival a)
        go true e = record {
          one = k;
          there = Memᴰ.head refl;
          is = omega (arith, leb-true a k.arrival e);
          top = λ x m. top x (Memᴰ.cases_cons m);
        }
        go false e = record {
          one = w.one;
          there = Memᴰ.tail w.there;
          is = omega (arith, w.is, leb-false a k.arrival e);
          top = λ x m. top x (Memᴰ.cases_cons m);
        }

-- as many, and the same latest, where the list is put in order
listed : (ks : List Journey) → length (ordered journey_figures ks) ≡ length ks
listed ks = length-sort (sooner journey_figures) ks

latest-listed : (ks : List Journey) (a : ℕ) → Latest ks a → Latest (ordered journey_figures ks) a
latest-listed ks a w = record {
  one = w.one;
  there = mem-sort (sooner journey_figures) ks w.there;
  is = w.is;
  top = λ k m. w.top k (sort-mem (sooner journey_figures) ks m);
}

-- after a fall at 65 there are at most 64
fewer : (h : ℕ) (os : List Journey) (a : ℕ) → length (standing h os) ≡ 65 → Latest (standing h os) a → 3600 ≤ a - 1
    → length (standing (a - 1) os) ≤ 64
fewer h os a n w low =
    let d : w.one.arrival ≤ h = (after-mem (covᶠ journey_figures) (dueᶠ journey_figures) h [] os w.there).1 in
    let e : filterb (λ k. leb (due k) (a - 1)) (standing h os) ≡ standing (a - 1) os =
    after-due (covᶠ journey_figures) (dueᶠ journey_figures) (a - 1) h [] os (omega (arith, w.is)) in
    let f : leb (due w.one) (a - 1) ≡ false = borrow.Author.Tests.lt-leb (due w.one) (a - 1) (omega (arith, w.is)) in
    let l : length (filterb (λ k. leb (due k) (a - 1)) (standing h os)) < length (standing h os) =
    length-filterb-lt (λ k. leb (due k) (a - 1)) w.there f in
    omega (arith, ap length e)

abbrev pub end_of : Ends → End
end_of (up_to h m) = at h m
end_of never = below

abbrev ended : ℕ → ℕ → List Journey → List Journey → Ends
ended h m pre os = fall (covᶠ journey_figures) (dueᶠ journey_figures) 64 3600 h m pre os

pub fall-falls : (pre os : List Journey) (h m : ℕ) → length (standing h pre) ≤ 64 → Falls pre h m os (end_of (ended h m pre os))
fall-falls pre [] h m few = done
fall-falls pre (o ∷ os) h m few = go (leb (length f) 64) refl (λ h' m' l. fall-falls (pre ++ o ∷ []) os h' m' l)
  where
    f : List Journey
    f = standing h (pre ++ o ∷ [])

    c : ℕ
    c = latest due f - 1

    Later : Type 0
    Later = (h' m' : ℕ) → length (standing h' (pre ++ o ∷ [])) ≤ 64
        → Falls (pre ++ o ∷ []) h' m' os (end_of (ended h' m' (pre ++ o ∷ []) os))

    kept : Holds h (pre ++ o ∷ []) (ordered journey_figures f)
    kept = front-holds h (pre ++ o ∷ []) (ordered journey_figures f) refl

    cut : leb (length f) 64 ≡ false → (b : Bool) → ltb c 3600 ≡ b → Later
        → Falls pre h m (o ∷ os) (end_of (cond b never (ended c 1 (pre ++ o ∷ []) os)))
    cut p b q ih = low b q
      where
        many : length f ≡ 65
        many = omega (arith, leb-false (length f) 64 p, front-one-more (figures-order journey_figures) h pre o)

        top : Latest f (latest due f)
        top = latest-is f (omega (arith, many))

        low : (b : Bool) → ltb c 3600 ≡ b → Falls pre h m (o ∷ os) (end_of (cond b never (ended c 1 (pre ++ o ∷ []) os)))
        low true q = sinks {a = latest due f} kept (listed f ∙ many) (latest-listed f (latest due f) top) (ltb-true c 3600 q)
        low false q =
            let deep : 3600 ≤ latest due f - 1 = ltb-false c 3600 q in
            falls {a = latest due f} kept (listed f ∙ many) (latest-listed f (latest due f) top) deep
            (ih c 1 (fewer h (pre ++ o ∷ []) (latest due f) many top deep))

    go : (b : Bool) → leb (length f) 64 ≡ b → Later
        → Falls pre h m (o ∷ os) (end_of (cond b (ended h m (pre ++ o ∷ []) os) (cond (ltb c 3600) never (ended c 1 (pre ++ o ∷ []) os))))
    go true p ih = stays kept (omega (arith, listed f, leb-true (length f) 64 p)) (ih h m (leb-true (length f) 64 p))
    go false p ih = cut p (ltb c 3600) refl ih

-- ---- one end

order-pairs : (ks : List Journey) → InOrder ks → Pairs GoesBefore ks
order-pairs [] w = tt
order-pairs (k ∷ ks) w = (w.0, order-pairs ks w.1)

-- no two go before each other
goes-once : (p q : Journey) → GoesBefore p q → GoesBefore q p → ⊥
goes-once p q (inl a) (inl b) = omega arith
goes-once p q (inl a) (inr (b, w)) = omega arith
goes-once p q (inr (a, v)) (inl b) = omega arith
goes-once p q (inr (a, v)) (inr (b, w)) = by-rides v w
  where
    by-walk : (p.walk < q.walk) ⊎ ((p.walk ≡ q.walk) × (q.leave < p.leave))
        → (q.walk < p.walk) ⊎ ((q.walk ≡ p.walk) × (p.leave < q.leave)) → ⊥
    by-walk (inl x) (inl y) = omega arith
    by-walk (inl x) (inr (y, u)) = omega arith
    by-walk (inr (x, t)) (inl y) = omega arith
    by-walk (inr (x, t)) (inr (y, u)) = omega arith

    by-rides : (p.rides < q.rides) ⊎ ((p.rides ≡ q.rides) × ((p.walk < q.walk) ⊎ ((p.walk ≡ q.walk) × (q.leave < p.leave))))
        → (q.rides < p.rides) ⊎ ((q.rides ≡ p.rides) × ((q.walk < p.walk) ⊎ ((q.walk ≡ p.walk) × (p.leave < q.leave)))) → ⊥
    by-rides (inl x) (inl y) = omega arith
    by-rides (inl x) (inr (y, u)) = omega arith
    by-rides (inr (x, t)) (inl y) = omega arith
    by-rides (inr (x, t)) (inr (y, u)) = by-walk t u

pub one_list : (h : ℕ) (os ks ls : List Journey) → Holds h os ks → Holds h os ls → ks ≡ ls
one_list h os ks ls v w =
    one-pairs GoesBefore goes-once ks ls (order-pairs ks v.in_order) (order-pairs ls w.in_order)
    (λ j m. (w.exactly j).1 ((v.exactly j).0 m)) (λ j m. (v.exactly j).1 ((w.exactly j).0 m))

one-latest : (ks ls : List Journey) (a b : ℕ) → ks ≡ ls → Latest ks a → Latest ls b → a ≡ b
one-latest ks ls a b e v w =
    let p : v.one.arrival ≤ b = w.top v.one (subst (Memᴰ v.one) e v.there) in
    let q : w.one.arrival ≤ a = v.top w.one (subst (Memᴰ w.one) (sym e) w.there) in
    omega (arith, v.is, w.is)

pub one-fall : (pre : List Journey) (h m : ℕ) (os : List Journey) (e d : End) → Falls pre h m os e → Falls pre h m os d → e ≡ d
one-fall pre h m _ _ _ done done = refl
one-fall pre h m _ e d (stays {os = os} {o = o} v l w) (stays v' l' w') = one-fall (pre ++ o ∷ []) h m os e d w w'
one-fall pre h m _ e d (stays {o = o} v l w) (falls v' n t q w') = absurd (omega (arith, ap length (one_list h (pre ++ o ∷ []) _ _ v v')))
one-fall pre h m _ e d (stays {o = o} v l w) (sinks v' n t q) = absurd (omega (arith, ap length (one_list h (pre ++ o ∷ []) _ _ v v')))
one-fall pre h m _ e d (falls {o = o} v n t q w) (stays v' l' w') = absurd (omega (arith, ap length (one_list h (pre ++ o ∷ []) _ _ v v')))
one-fall pre h m _ e d (falls {os = os} {o = o} {a = a} v n t q w) (falls {a = b} v' n' t' q' w') =
    one-fall (pre ++ o ∷ []) (a - 1) 1 os e d w (subst (λ (x : ℕ). Falls (pre ++ o ∷ []) (x - 1) 1 os d)
    (one-latest _ _ b a (one_list h (pre ++ o ∷ []) _ _ v' v) t' t) w')
one-fall pre h m _ e d (falls {o = o} {a = a} v n t q w) (sinks {a = b} v' n' t' q') = absurd
    (omega (arith, one-latest _ _ a b (one_list h (pre ++ o ∷ []) _ _ v v') t t'))
one-fall pre h m _ e d (sinks {o = o} v n t q) (stays v' l' w') = absurd (omega (arith, ap length (one_list h (pre ++ o ∷ []) _ _ v v')))
one-fall pre h m _ e d (sinks {o = o} {a = a} v n t q) (falls {a = b} v' n' t' q' w') = absurd
    (omega (arith, one-latest _ _ a b (one_list h (pre ++ o ∷ []) _ _ v v') t t'))
one-fall pre h m _ _ _ (sinks v n t q) (sinks v' n' t' q') = refl
