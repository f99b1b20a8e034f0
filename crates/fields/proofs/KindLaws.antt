-- The kind of a number has that number.
use Rattle.std.specs.Prelude.{Result, Ok}
use mathlib.Core.Path.{◌≡◌, refl, sym, ◌∙◌, subst}
use mathlib.Core.Bool.{Bool, true, false}
use Prim.Native.Nat.{ℕ}
use borrow.Author.Tests.{eqb-true, eqb-false}
use lib.Dec.{eqb}
use Rattle.refusal.specs.declared.Refusal.{Refusal}
use Rattle.fields.specs.declared.kind.Kind.{Kind}
use Rattle.fields.specs.declared.kind.Kind.TheVariants.{Settings, Stop, Call, Rule, Search}
use Rattle.fields.specs.Kind.{number_of, kind_of_number, Numbered, is, none, KindsNumbered}

no-kind : (n : ℕ) → (n ≡ 1 → ⊥) → (n ≡ 2 → ⊥) → (n ≡ 3 → ⊥) → (n ≡ 4 → ⊥) → (n ≡ 5 → ⊥) → (k : Kind) → n ≡ number_of k → ⊥
no-kind n a b c d e Settings q = a q
no-kind n a b c d e Stop q = b q
no-kind n a b c d e Call q = c q
no-kind n a b c d e Rule q = d q
no-kind n a b c d e Search q = e q

pub kinds-numbered : KindsNumbered
unfolding kind_of_number
kinds-numbered n = go (eqb n 1) refl (eqb n 2) refl (eqb n 3) refl (eqb n 4) refl (eqb n 5) refl
  where
    go : (a : Bool) → eqb n 1 ≡ a → (b : Bool) → eqb n 2 ≡ b → (c : Bool) → eqb n 3 ≡ c
        → (d : Bool) → eqb n 4 ≡ d → (e : Bool) → eqb n 5 ≡ e → Numbered n (kind_of_number n)
    go true p b q c r d s e t = rw p (is Settings (eqb-true n 1 p))
    go false p true q c r d s e t = rw (p, q) (is Stop (eqb-true n 2 q))
    go false p false q true r d s e t = rw (p, q, r) (is Call (eqb-true n 3 r))
    go false p false q false r true s e t = rw (p, q, r, s) (is Rule (eqb-true n 4 s))
    go false p false q false r false s true t = rw (p, q, r, s, t) (is Search (eqb-true n 5 t))
    go false p false q false r false s false t =
        rw (p, q, r, s, t) (none (no-kind n (eqb-false n 1 p) (eqb-false n 2 q) (eqb-false n 3 r) (eqb-false n 4 s) (eqb-false n 5 t)))

number-is : {n : ℕ} {k : Kind} → Numbered n (Ok k) → n ≡ number_of k
number-is (is k e) = e

-- what is read as a kind is its number
pub number-read : {n m : ℕ} {q : Result Kind Refusal} {k : Kind} → n ≡ m → q ≡ kind_of_number n → q ≡ Ok k → m ≡ number_of k
number-read {n} n-is q-is e = sym n-is ∙ number-is (subst (Numbered n) (sym q-is ∙ e) (kinds-numbered n))
