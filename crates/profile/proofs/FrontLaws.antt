-- The laws of `front`: what one offer more does to it, at an earlier horizon, who is in it, and that it covers every offer due by the
-- horizon. That `cov` is an `Order` is a parameter where it is needed.
use mathlib.Core.Path.{◌≡◌, refl, sym, ap, ◌∙◌}
use mathlib.Core.Logic.{◌⊎◌, inl, inr}
use mathlib.Core.Bool.{Bool, true, false, not, cond, ◌&&◌, ◌||◌, true≢false, false≢true, and-not_self, and-false, and-true as and-true'}
use mathlib.Core.List.Memᴰ
use mathlib.Core.List.{List, [], ◌∷◌, ◌++◌, append_assoc, append-nil, Memᴰ}
use Prim.Native.Nat.{ℕ, suc, ◌≤◌, ◌<◌}
use native.Mathlib.Omega.{arith}
use lib.Dec.{leb}
use borrow.Author.Tests.{leb-true, le-leb, lt-leb}
use lib.ListN.{length, length-append}
use Rattle.laws.specs.Lists.{filterb, anyb}
use Rattle.laws.proofs.Bools.{and-true, and-true-left, and-true-right, test, not-true, of-not}
use Rattle.laws.proofs.Lists.{anyb-mem, mem-anyb, anyb-not, anyb-none, anyb-append, mem-filterb, filterb-cong, filterb-all, length-filterb}
use Rattle.laws.proofs.Lists.{snoc-ind}
use Rattle.profile.specs.Front.{beats, counts, after, front, Order}
use Rattle.profile.specs.Walk.{near, Antichain}

module _ {A : Type 0} (cov : A → A → Bool) (due : A → ℕ) where
  -- what the offer o adds to those that count, after `pre`
  abbrev pub last : ℕ → List A → A → List A
  last h pre o = cond (leb (due o) h && not (anyb (λ q. cov q o) pre)) (o ∷ []) []

  -- ---- one offer more

  -- by cases on the three tests: a later offer beats x; o beats x; the rest of `counts`
  after-snoc-step : (x o : A) (t u l : List A) (a b r : Bool) → beats cov o x ≡ b → u ≡ filterb (λ k. not (beats cov o k)) t ++ l
      → cond (not (a || (b || false)) && r) (x ∷ u) u ≡ filterb (λ k. not (beats cov o k)) (cond (not a && r) (x ∷ t) t) ++ l
  after-snoc-step x o t u l true b r e ih = ih
  after-snoc-step x o t u l false true true e ih = rw e ih
  after-snoc-step x o t u l false true false e ih = ih
  after-snoc-step x o t u l false false true e ih = rw e (ap {B = List A} (λ r. x ∷ r) ih)
  after-snoc-step x o t u l false false false e ih = ih

  pub after-snoc : (h : ℕ) (pre os : List A) (o : A)
      → after cov due h pre (os ++ o ∷ []) ≡ filterb (λ k. not (beats cov o k)) (after cov due h pre os) ++ last h (pre ++ os) o
  after-snoc h pre [] o = rw append-nil
  after-snoc h pre (x ∷ os) o =
      rw (anyb-append (λ q. beats cov q x) os (o ∷ []))
      (after-snoc-step x o (after cov due h (pre ++ x ∷ []) os) (after cov due h (pre ++ x ∷ []) (os ++ o ∷ [])) (last h (pre ++ x ∷ os) o)
      (anyb (λ q. beats cov q x) os) (beats cov o x) (leb (due x) h && not (anyb (λ q. cov q x) pre)) refl
      (rw (← (append_assoc pre (x ∷ []) os)) (after-snoc h (pre ++ x ∷ []) os o)))

  -- ---- an earlier horizon

  after-due-step : (g : ℕ) (x : A) (t u : List A) (n hi lo m : Bool) → leb (due x) g ≡ lo → (lo ≡ true → hi ≡ true)
      → filterb (λ k. leb (due k) g) t ≡ u
      → filterb (λ k. leb (due k) g) (cond (n && (hi && m)) (x ∷ t) t) ≡ cond (n && (lo && m)) (x ∷ u) u
  after-due-step g x t u false hi lo m e up ih = ih
  after-due-step g x t u true true true true e up ih = rw e (ap {B = List A} (λ r. x ∷ r) ih)
  after-due-step g x t u true true true false e up ih = ih
  after-due-step g x t u true true false true e up ih = rw e ih
  after-due-step g x t u true true false false e up ih = ih
  after-due-step g x t u true false true m e up ih = absurd (false≢true (up refl))
  after-due-step g x t u true false false m e up ih = ih

  pub after-due : (g h : ℕ) (pre os : List A) → g ≤ h → filterb (λ k. leb (due k) g) (after cov due h pre os) ≡ after cov due g pre os
  after-due g h pre [] le = refl
  after-due g h pre (x ∷ os) le =
      after-due-step g x (after cov due h (pre ++ x ∷ []) os) (after cov due g (pre ++ x ∷ []) os) (not (anyb (λ q. beats cov q x) os))
      (leb (due x) h) (leb (due x) g)
      (not (anyb (λ q. cov q x) pre)) refl (λ e. le-leb (due x) h (omega (arith, leb-true (due x) g e)))
      (after-due g h (pre ++ x ∷ []) os le)

  -- ---- members

  -- the three tests of `counts`
  tests : (a b c : Bool) → (not a && (b && not c)) ≡ true → (a ≡ false) × (b ≡ true) × (c ≡ false)
  tests true b c e = absurd (false≢true e)
  tests false true true e = absurd (false≢true e)
  tests false true false e = (refl, refl, refl)
  tests false false c e = absurd (false≢true e)

  counts-tests : (h : ℕ) (pre : List A) (x : A) (os : List A) → counts cov due h pre x os ≡ true
      → (anyb (λ q. beats cov q x) os ≡ false) × (leb (due x) h ≡ true) × (anyb (λ q. cov q x) pre ≡ false)
  counts-tests h pre x os e = tests (anyb (λ q. beats cov q x) os) (leb (due x) h) (anyb (λ q. cov q x) pre) e

  -- a member of what counts is the first offer, which counts, or a later one
  after-cases : (h : ℕ) (pre : List A) (x : A) (os : List A) {k : A} → Memᴰ k (after cov due h pre (x ∷ os))
      → ((k ≡ x) × (counts cov due h pre x os ≡ true)) ⊎ Memᴰ k (after cov due h (pre ++ x ∷ []) os)
  after-cases h pre x os {k} m = go (counts cov due h pre x os) refl m
    where
      head : counts cov due h pre x os ≡ true → (k ≡ x) ⊎ Memᴰ k (after cov due h (pre ++ x ∷ []) os)
          → ((k ≡ x) × (counts cov due h pre x os ≡ true)) ⊎ Memᴰ k (after cov due h (pre ++ x ∷ []) os)
      head e (inl q) = inl (q, e)
      head e (inr n) = inr n

      go : (b : Bool) → counts cov due h pre x os ≡ b
          → Memᴰ k (cond b (x ∷ after cov due h (pre ++ x ∷ []) os) (after cov due h (pre ++ x ∷ []) os))
          → ((k ≡ x) × (counts cov due h pre x os ≡ true)) ⊎ Memᴰ k (after cov due h (pre ++ x ∷ []) os)
      go true e n = head e (Memᴰ.cases_cons n)
      go false e n = inr n

  -- each that counts is one of the offers, and is due by h
  pub after-mem : (h : ℕ) (pre os : List A) {k : A} → Memᴰ k (after cov due h pre os) → Memᴰ k os × (due k ≤ h)
  after-mem h pre [] m = absurd (Memᴰ.not-nil m)
  after-mem h pre (x ∷ os) {k} m = go (after-cases h pre x os m) (λ n. after-mem h (pre ++ x ∷ []) os n)
    where
      go : ((k ≡ x) × (counts cov due h pre x os ≡ true)) ⊎ Memᴰ k (after cov due h (pre ++ x ∷ []) os)
          → (Memᴰ k (after cov due h (pre ++ x ∷ []) os) → Memᴰ k os × (due k ≤ h)) → Memᴰ k (x ∷ os) × (due k ≤ h)
      go (inl (q, e)) ih = (Memᴰ.head q, rw q (leb-true (due x) h (counts-tests h pre x os e).1))
      go (inr n) ih = (Memᴰ.tail (ih n).0, (ih n).1)

  -- no offer beats one that counts
  pub after-unbeaten : (h : ℕ) (pre os : List A) {k q : A} → Memᴰ k (after cov due h pre os) → Memᴰ q (pre ++ os) → beats cov q k ≡ false
  after-unbeaten h pre [] m n = absurd (Memᴰ.not-nil m)
  after-unbeaten h pre (x ∷ os) {k} {q} m n =
      go (after-cases h pre x os m) (λ m'. after-unbeaten h (pre ++ x ∷ []) os m' (rw append_assoc n))
    where
      later : (q ≡ x) ⊎ Memᴰ q os → counts cov due h pre x os ≡ true → beats cov q x ≡ false
      later (inl r) e = rw r (and-not_self (cov x x))
      later (inr i) e = anyb-not (λ z. beats cov z x) (counts-tests h pre x os e).0 i

      self : Memᴰ q pre ⊎ Memᴰ q (x ∷ os) → counts cov due h pre x os ≡ true → beats cov q x ≡ false
      self (inl i) e = rw (anyb-not (λ z. cov z x) (counts-tests h pre x os e).2 i)
      self (inr i) e = later (Memᴰ.cases_cons i) e

      go : ((k ≡ x) × (counts cov due h pre x os ≡ true)) ⊎ Memᴰ k (after cov due h (pre ++ x ∷ []) os)
          → (Memᴰ k (after cov due h (pre ++ x ∷ []) os) → beats cov q k ≡ false) → beats cov q k ≡ false
      go (inl (r, e)) ih = rw r (self (Memᴰ.append_cases pre n) e)
      go (inr m') ih = ih m'

  -- no offer before one that counts covers it
  after-uncovered : (h : ℕ) (pre os : List A) {k q : A} → Memᴰ k (after cov due h pre os) → Memᴰ q pre → cov q k ≡ false
  after-uncovered h pre [] m n = absurd (Memᴰ.not-nil m)
  after-uncovered h pre (x ∷ os) {k} {q} m n =
      go (after-cases h pre x os m) (λ m'. after-uncovered h (pre ++ x ∷ []) os m' (Memᴰ.append_left (x ∷ []) n))
    where
      go : ((k ≡ x) × (counts cov due h pre x os ≡ true)) ⊎ Memᴰ k (after cov due h (pre ++ x ∷ []) os)
          → (Memᴰ k (after cov due h (pre ++ x ∷ []) os) → cov q k ≡ false) → cov q k ≡ false
      go (inl (r, e)) ih = rw r (anyb-not (λ z. cov z x) (counts-tests h pre x os e).2 n)
      go (inr m') ih = ih m'

  -- of those that count none covers another
  after-antichain : (h : ℕ) (pre os : List A) → Antichain cov (after cov due h pre os)
  after-antichain h pre [] = tt
  after-antichain h pre (x ∷ os) = go (counts cov due h pre x os) refl (after-antichain h (pre ++ x ∷ []) os)
    where
      rest : List A
      rest = after cov due h (pre ++ x ∷ []) os

      apart : counts cov due h pre x os ≡ true → (y : A) → Memᴰ y (after cov due h (pre ++ x ∷ []) os) → near cov x y ≡ false
      apart e y m =
          let a : cov x y ≡ false = after-uncovered h (pre ++ x ∷ []) os m (Memᴰ.append_right pre (Memᴰ.head refl)) in
          let b : (cov y x && not (cov x y)) ≡ false =
          anyb-not (λ q. beats cov q x) (counts-tests h pre x os e).0 (after-mem h (pre ++ x ∷ []) os m).0 in
          let d : (cov y x && true) ≡ false = rw a at b in
          rw a (sym (and-true' (cov y x)) ∙ d)

      go : (b : Bool) → counts cov due h pre x os ≡ b → Antichain cov rest → Antichain cov (cond b (x ∷ rest) rest)
      go true e w = (apart e, w)
      go false e w = w

  pub front-antichain : (h : ℕ) (os : List A) → Antichain cov (front cov due h os)
  front-antichain h os = after-antichain h [] os

-- ---- the laws that ask for an order

module _ {A : Type 0} {cov : A → A → Bool} {due : A → ℕ} (ord : Order cov due) where
  open ord use {cov_refl, cov_trans, cov_due}

  pub front-snoc : (h : ℕ) (os : List A) (o : A)
      → front cov due h (os ++ o ∷ []) ≡ filterb (λ k. not (beats cov o k)) (front cov due h os) ++ last cov due h os o
  front-snoc h os o = after-snoc cov due h [] os o

  -- if q covers o and o beats k, then q beats k
  pub beats-trans : (q o k : A) → cov q o ≡ true → beats cov o k ≡ true → beats cov q k ≡ true
  beats-trans q o k c b =
      and-true (cov q k) (not (cov k q)) (cov_trans q o k c (and-true-left (cov o k) (not (cov k o)) b))
      (ap not (not-true (cov k q)
      (λ f. true≢false (sym (cov_trans k q o f c) ∙ of-not (cov k o) (and-true-right (cov o k) (not (cov k o)) b)))))

  -- what covers o is not beaten by o
  pub covers-unbeaten : (k o : A) → cov k o ≡ true → beats cov o k ≡ false
  covers-unbeaten k o c = rw c (and-false (cov o k))

  -- an offer that one that counts covers beats none that counts
  pub covered-beats-none : (h : ℕ) (os : List A) (o : A) {k k' : A} → Memᴰ k (front cov due h os) → cov k o ≡ true
      → Memᴰ k' (front cov due h os) → beats cov o k' ≡ false
  covered-beats-none h os o {k} {k'} m c m' =
      not-true (beats cov o k')
      (λ b. true≢false (sym (beats-trans k o k' c b) ∙ after-unbeaten cov due h [] os m' (after-mem cov due h [] os m).0))

  -- one that counts, and that o does not beat, counts still after o
  pub front-stays : (h : ℕ) (os : List A) (o : A) {k : A} → Memᴰ k (front cov due h os) → beats cov o k ≡ false
      → Memᴰ k (front cov due h (os ++ o ∷ []))
  front-stays h os o m e =
      rw (front-snoc h os o) (Memᴰ.append_left (last cov due h os o) (mem-filterb (λ k. not (beats cov o k)) m (ap not e)))

  -- o counts, if it is due by h and no earlier offer covers it
  pub front-new : (h : ℕ) (os : List A) (o : A) → due o ≤ h → anyb (λ q. cov q o) os ≡ false → Memᴰ o (front cov due h (os ++ o ∷ []))
  front-new h os o d e = rw (front-snoc h os o) (Memᴰ.append_right (filterb (λ k. not (beats cov o k)) (front cov due h os)) here)
    where
      here : Memᴰ o (last cov due h os o)
      here = rw (le-leb (due o) h d, e) (Memᴰ.head refl)

  -- an offer that beats one that counts is itself covered by no earlier offer
  pub beats-uncovered : (h : ℕ) (os : List A) (o : A) {k : A} → Memᴰ k (front cov due h os) → beats cov o k ≡ true
      → anyb (λ q. cov q o) os ≡ false
  beats-uncovered h os o {k} m b =
      anyb-none (λ q. cov q o) os
      (λ q n. not-true (cov q o) (λ c. true≢false (sym (beats-trans q o k c b) ∙ after-unbeaten cov due h [] os m n)))

  abbrev pub Covered : ℕ → List A → A → Type 0
  Covered h os o = (k : A) × Memᴰ k (front cov due h os) × (cov k o ≡ true)

  covered-snoc : (h : ℕ) (os : List A) (z : A) → ((o : A) → Memᴰ o os → due o ≤ h → Covered h os o) → (o : A) → Memᴰ o (os ++ z ∷ [])
      → due o ≤ h → Covered h (os ++ z ∷ []) o
  covered-snoc h os z ih o m d = go (Memᴰ.append_cases os m)
    where
      old : (w : Covered h os o) → (beats cov z w.0 ≡ true) ⊎ (beats cov z w.0 ≡ false) → Covered h (os ++ z ∷ []) o
      old (k, n, c) (inl b) =
          let zk : cov z k ≡ true = and-true-left (cov z k) (not (cov k z)) b in
          (z, front-new h os z (omega (arith, cov_due z k zk, cov_due k o c)) (beats-uncovered h os z n b), cov_trans z k o zk c)
      old (k, n, c) (inr b) = (k, front-stays h os z n b, c)

      new : due z ≤ h → (anyb (λ q. cov q z) os ≡ true) ⊎ (anyb (λ q. cov q z) os ≡ false) → Covered h (os ++ z ∷ []) z
      new dz (inl e) =
          let w = anyb-mem (λ q. cov q z) os e in
          let v = ih w.0 w.1 (omega (arith, cov_due w.0 z w.2)) in
          let c : cov v.0 z ≡ true = cov_trans v.0 w.0 z v.2 w.2 in
          (v.0, front-stays h os z v.1 (covers-unbeaten v.0 z c), c)
      new dz (inr e) = (z, front-new h os z dz e, cov_refl z)

      go : Memᴰ o os ⊎ Memᴰ o (z ∷ []) → Covered h (os ++ z ∷ []) o
      go (inl i) = let w = ih o i d in old w (test (beats cov z w.0))
      go (inr i) =
          let q : o ≡ z = Memᴰ.eq_of_singleton i in
          rw q (new (rw q at d) (test (anyb (λ q. cov q z) os)))

  -- each offer due by h is covered by one that counts
  pub front-covers : (h : ℕ) (os : List A) (o : A) → Memᴰ o os → due o ≤ h → Covered h os o
  front-covers h os =
      snoc-ind (λ xs. (o : A) → Memᴰ o xs → due o ≤ h → Covered h xs o) (λ o m d. absurd (Memᴰ.not-nil m))
      (λ xs z ih. covered-snoc h xs z ih) os

  -- ---- what an offer does to those that count

  pub front-late : (h : ℕ) (os : List A) (o : A) → h < due o → front cov due h (os ++ o ∷ []) ≡ front cov due h os
  front-late h os o d = front-snoc h os o ∙ rw (lt-leb (due o) h d, append-nil)
      (filterb-all (λ k. not (beats cov o k)) (front cov due h os) (λ k m. rw (far k m)))
    where
      far : (k : A) → Memᴰ k (front cov due h os) → cov o k ≡ false
      far k m = not-true (cov o k) (λ c. let n = (after-mem cov due h [] os m).1 in let b = cov_due o k c in omega arith)

  pub front-covered : (h : ℕ) (os : List A) (o : A) → anyb (λ k. cov k o) (front cov due h os) ≡ true
      → front cov due h (os ++ o ∷ []) ≡ front cov due h os
  front-covered h os o e =
      front-snoc h os o ∙ rw (mem-anyb (λ q. cov q o) (after-mem cov due h [] os w.1).0 w.2, and-false (leb (due o) h), append-nil)
      (filterb-all (λ k. not (beats cov o k)) (front cov due h os) (λ k m. ap not (covered-beats-none h os o w.1 w.2 m)))
    where
      w : (k : A) × Memᴰ k (front cov due h os) × (cov k o ≡ true)
      w = anyb-mem (λ k. cov k o) (front cov due h os) e

  pub front-added : (h : ℕ) (os : List A) (o : A) → due o ≤ h → anyb (λ k. cov k o) (front cov due h os) ≡ false
      → front cov due h (os ++ o ∷ []) ≡ filterb (λ k. not (cov o k)) (front cov due h os) ++ o ∷ []
  front-added h os o d e = front-snoc h os o ∙ rw (le-leb (due o) h d, free)
      (ap (λ (r : List A). r ++ o ∷ []) (filterb-cong (λ k. not (beats cov o k)) (λ k. not (cov o k)) (front cov due h os) same))
    where
      free : anyb (λ q. cov q o) os ≡ false
      free = anyb-none (λ q. cov q o) os (λ q m. not-true (cov q o) (λ c.
          let v = front-covers h os q m (omega (arith, cov_due q o c)) in
          true≢false (sym (cov_trans v.0 q o v.2 c) ∙ anyb-not (λ k. cov k o) e v.1)))

      same : (k : A) → Memᴰ k (front cov due h os) → not (beats cov o k) ≡ not (cov o k)
      same k m = rw (anyb-not (λ k. cov k o) e m, and-true' (cov o k))

  length_last : (h : ℕ) (os : List A) (o : A) → length (last cov due h os o) ≤ 1
  length_last h os o = go (leb (due o) h && not (anyb (λ q. cov q o) os))
    where
      go : (b : Bool) → length (cond b (o ∷ []) []) ≤ 1
      go true = omega arith
      go false = omega arith

  -- an offer makes those that count at most one more
  pub front-one-more : (h : ℕ) (os : List A) (o : A) → length (front cov due h (os ++ o ∷ [])) ≤ suc (length (front cov due h os))
  front-one-more h os o = rw (front-snoc h os o, length-append)
      (omega (arith, length-filterb (λ k. not (beats cov o k)) (front cov due h os), length_last h os o))
