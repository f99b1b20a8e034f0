-- Tests of the program that decide a proposition, and lists of them.
use Rattle.std.specs.Prelude.{Option, Some, None, is_some}
use Prim.Native.Nat.{ℕ, ◌≤◌, ◌<◌}
use mathlib.Core.Path.{◌≡◌, refl, sym, ap, ◌∙◌}
use mathlib.Core.Logic.{◌⊎◌, inl, inr, ◌↔◌}
use mathlib.Core.Bool.{Bool, true, false, not, cond, ◌&&◌, ◌||◌, true≢false, false≢true}
use mathlib.Core.List.{List, [], ◌∷◌}
use lib.Dec.{leb, ltb, eqb}
use borrow.Author.Tests.{leb-true, leb-false, le-leb, lt-leb, ltb-true, ltb-false, lt-ltb, le-ltb, eqb-true, eq-eqb}
use Rattle.laws.proofs.Options.{some-ne-none}
use Rattle.laws.proofs.Bools.{or-true-cases, or-true-left, or_true_right, and-true, and-true-left, and-true-right, of-not}
use Rattle.refusal.specs.First.{first_answer, Answer}
use Rattle.comparison.specs.Causes.{Cause, First}

abbrev pub Decides : Bool → Type 0 → Type 0
Decides b P = (b ≡ true) ↔ P

pub dec-ltb : (m n : ℕ) → Decides (ltb m n) (m < n)
dec-ltb m n = (ltb-true m n, lt-ltb m n)

pub dec-leb : (m n : ℕ) → Decides (leb m n) (m ≤ n)
dec-leb m n = (leb-true m n, le-leb m n)

pub dec-eqb : (m n : ℕ) → Decides (eqb m n) (m ≡ n)
dec-eqb m n = (eqb-true m n, eq-eqb m n)

pub dec-not-ltb : (m n : ℕ) → Decides (not (ltb m n)) (n ≤ m)
dec-not-ltb m n = (λ e. ltb-false m n (of-not (ltb m n) e), λ h. ap not (le-ltb m n h))

pub dec-not-leb : (m n : ℕ) → Decides (not (leb m n)) (n < m)
dec-not-leb m n = (λ e. leb-false m n (of-not (leb m n) e), λ h. ap not (lt-leb m n h))

pub dec-is : (b : Bool) → Decides b (b ≡ true)
dec-is b = (λ e. e, λ e. e)

pub dec-none : {A : Type 0} (o : Option A) → Decides (not (is_some o)) (o ≡ None)
dec-none (Some x) = (λ e. absurd (false≢true e), λ e. absurd (some-ne-none x e))
dec-none None = (λ e. refl, λ e. refl)

pub dec-some : {A : Type 0} (o : Option A) → Decides (is_some o) (o ≡ None → ⊥)
dec-some (Some x) = (λ e. some-ne-none x, λ f. refl)
dec-some None = (λ e. absurd (false≢true e), λ f. absurd (f refl))

module _ {P Q : Type 0} where
  pub dec-or : (a b : Bool) → Decides a P → Decides b Q → Decides (a || b) (P ⊎ Q)
  dec-or a b f g = (λ e. fore (or-true-cases a b e), back)
    where
      fore : (a ≡ true) ⊎ (b ≡ true) → P ⊎ Q
      fore (inl e) = inl (f.0 e)
      fore (inr e) = inr (g.0 e)

      back : P ⊎ Q → (a || b) ≡ true
      back (inl p) = or-true-left a b (f.1 p)
      back (inr q) = or_true_right a b (g.1 q)

  pub dec-and : (a b : Bool) → Decides a P → Decides b Q → Decides (a && b) (P × Q)
  dec-and a b f g = (λ e. (f.0 (and-true-left a b e), g.0 (and-true-right a b e)), λ (p, q). and-true a b (f.1 p) (g.1 q))

  pub dec-nand : (a b : Bool) → Decides (not a) P → Decides (not b) Q → Decides (not (a && b)) (P ⊎ Q)
  dec-nand true b f g = (λ e. inr (g.0 e), back)
    where
      back : P ⊎ Q → not b ≡ true
      back (inl p) = absurd (false≢true (f.1 p))
      back (inr q) = g.1 q
  dec-nand false b f g = (λ e. inl (f.0 refl), λ w. refl)

  pub dec-as : (b : Bool) → (P → Q) → (Q → P) → Decides b P → Decides b Q
  dec-as b f g d = (λ e. f (d.0 e), λ q. d.1 (g q))

-- ---- lists

-- each test decides its cause, where those in front of it fail
abbrev pub Matches : List (Bool × Answer) → List Cause → Type 0
Matches [] [] = Unit {0}
Matches [] (c ∷ cs) = ⊥
Matches (t ∷ ts) [] = ⊥
Matches (t ∷ ts) (c ∷ cs) = (t.1 ≡ c.answer) × Decides t.0 c.Holds × (t.0 ≡ false → Matches ts cs)

pub first_matches : (ts : List (Bool × Answer)) (cs : List Cause) → Matches ts cs → First (first_answer ts) cs
unfolding first_answer
first_matches [] [] w = refl
first_matches [] (c ∷ cs) w = absurd w
first_matches (t ∷ ts) [] w = absurd w
first_matches (t ∷ ts) (c ∷ cs) (e, d, f) = go t.0 refl (λ b. first_matches ts cs (f b))
  where
    go : (b : Bool) → t.0 ≡ b → (t.0 ≡ false → First (first_answer ts) cs) → First (cond b t.1 (first_answer ts)) (c ∷ cs)
    go true q r = inl (d.0 q, e)
    go false q r = inr (λ h. true≢false (sym (d.1 h) ∙ q), r q)

pub one-first : (cs : List Cause) (a b : Answer) → First a cs → First b cs → a ≡ b
one-first [] a b v w = v ∙ sym w
one-first (c ∷ cs) a b (inl v) (inl w) = v.1 ∙ sym w.1
one-first (c ∷ cs) a b (inl v) (inr w) = absurd (w.0 v.0)
one-first (c ∷ cs) a b (inr v) (inl w) = absurd (v.0 w.0)
one-first (c ∷ cs) a b (inr v) (inr w) = one-first cs a b v.1 w.1
