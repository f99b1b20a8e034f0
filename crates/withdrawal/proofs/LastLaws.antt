-- The last element that passes a test, looked for from the right.
use mathlib.Core.Path.{◌≡◌, refl, sym, ap, ◌∙◌}
use mathlib.Core.Bool.{Bool, true, false, not, cond}
use mathlib.Core.List.{List, [], ◌∷◌}
use Prim.Native.Nat.{ℕ, suc, ◌+◌, ◌-◌, ◌<◌}
use native.Mathlib.Omega.{arith}
use borrow.Author.Tests.{ltb-true, ltb-false}
use lib.Dec.{ltb}
use lib.ListN.{length}
use Rattle.std.specs.Prelude.{None, Option, Some, reverse}
use Rattle.std.specs.List.{position_or_len}
use Rattle.std.proofs.lemmas.Grind.{reverse_onto}
use Rattle.std.proofs.lemmas.List.{reverse-reverse, length-reverse}
use Rattle.laws.proofs.Options.{some-injective, none-ne-some, some-ne-none}
use denote.Ref.{Bor}
use denote.Param.Members.{Mut}
use Rattle.std.specs.Fn.{Called}
use Rattle.std.specs.Iterator.{FindsPositionBack, YieldsThen}
use Rattle.std.specs.List.{FoldsTo}
use Rattle.std.specs.Option.{IsSomeAnd, MatchOption}
use Rattle.std.specs.Slice.Iter.{iter_rest, iter_steps_back}
use Rattle.std.specs.declared.slice.Iter.{Iter}
use Rattle.std.proofs.lemmas.Iterator.{YieldsList}
use Rattle.std.proofs.lemmas.Iterator.Consumers.{YieldsList-from_shown}
use Rattle.std.proofs.lemmas.Iterator.Search.{position_from_yields_List}
use Rattle.std.proofs.lemmas.List.{reverse-append}
use Rattle.withdrawal.specs.Removal.{counted, last_of}
use Rattle.withdrawal.proofs.RemovalLaws.{last_end}

module _ {A : Type 0} (p : A → Bool) where
  last-back : (ys : List A) → last_of p (reverse ys) ≡ length ys - position_or_len p ys
  last-back [] = refl
  last-back (y ∷ ys) = last_end p (reverse (y ∷ ys)) (reverse ys) y (reverse_onto ys y []) ∙ go (p y) (last-back ys)
    where
      go : (b : Bool) → last_of p (reverse ys) ≡ length ys - position_or_len p ys
          → cond b (suc (length (reverse ys))) (last_of p (reverse ys)) ≡ suc (length ys) - cond (not b) (1 + position_or_len p ys) 0
      go true e = omega (arith, length-reverse ys)
      go false e = omega (arith, e)

  -- the first from the right, as `position` finds it
  module _ (xs : List A) (r : Option ℕ)
      (e : r ≡ cond (ltb (position_or_len p (reverse xs)) (length (reverse xs))) (Some (position_or_len p (reverse xs))) None) where
    last-by : last_of p xs ≡ length xs - position_or_len p (reverse xs)
    last-by =
        sym (ap (last_of p) (reverse-reverse xs)) ∙ last-back (reverse xs)
        ∙ ap (λ (n : ℕ). n - position_or_len p (reverse xs)) (length-reverse xs)

    pub behind-none : r ≡ None → 0 ≡ last_of p xs
    behind-none q = go (ltb (position_or_len p (reverse xs)) (length (reverse xs))) refl (sym e ∙ q)
      where
        go : (b : Bool) → ltb (position_or_len p (reverse xs)) (length (reverse xs)) ≡ b
            → cond b (Some (position_or_len p (reverse xs))) None ≡ None → 0 ≡ last_of p xs
        go true t n = absurd (some-ne-none (position_or_len p (reverse xs)) n)
        go false t n = omega (arith, last-by, ltb-false (position_or_len p (reverse xs)) (length (reverse xs)) t, length-reverse xs)

    found-at : (k : ℕ) → r ≡ Some k → (k ≡ position_or_len p (reverse xs)) × (k < length xs)
    found-at k q = go (ltb (position_or_len p (reverse xs)) (length (reverse xs))) refl (sym e ∙ q)
      where
        go : (b : Bool) → ltb (position_or_len p (reverse xs)) (length (reverse xs)) ≡ b
            → cond b (Some (position_or_len p (reverse xs))) None ≡ Some k → (k ≡ position_or_len p (reverse xs)) × (k < length xs)
        go true t n =
            let same = some-injective (position_or_len p (reverse xs)) k n in
            (sym same, omega (arith, same, ltb-true (position_or_len p (reverse xs)) (length (reverse xs)) t, length-reverse xs))
        go false t n = absurd (none-ne-some k n)

    pub behind-some : (k : ℕ) → r ≡ Some k → suc (length xs - 1 - k) ≡ last_of p xs
    behind-some k q = let w = found-at k q in omega (arith, w.0, w.1, last-by)

-- a slice's items, taken from its end
back-yields : {A : Type 0} (s : Iter A) → YieldsList iter_steps_back (λ y. y.now) s (reverse (iter_rest s))
back-yields s = YieldsList-from_shown iter_steps_back (λ y. y.now) (λ u. reverse (iter_rest u)) (λ u t p. length-reverse _ ∙ p.0)
    (λ u x t p. ap reverse p ∙ reverse-append (iter_rest t) (x.now ∷ [])) s

-- what `rposition` finds in a slice
module _ {A F : Type 0} (g : Mut F (Bor A × Unit {0}) Bool) (s u : Iter A) (f : F) (p : A → Bool)
    (tells : (x : Bor A) (b : Bool) (q : F) → Called g f (x, tt) b q → (q ≡ f) × (b ≡ p x.now)) where
  found-back : (r : Option ℕ) (ys : List (Bor A)) (j : F) (o : Option (Bor A))
      → YieldsThen iter_steps_back s ys o u → FoldsTo (λ q x h. Called g q (x, tt) false h) f ys j
      → MatchOption o (r ≡ None) (λ x. IsSomeAnd r (λ i. i + 1 + length ys ≡ length (iter_rest s)) × ((h : F) × Called g j (x, tt) true h))
      → counted r ≡ last_of p (iter_rest s)
  found-back r ys j None y c e =
      let found = position_from_yields_List p u f None (ys, None, j, y, c, refl) (back-yields s) tells in
      ap counted e ∙ behind-none p (iter_rest s) None found refl
  found-back None ys j (Some x) y c e = absurd e.0
  found-back (Some i) ys j (Some x) y c e =
      let at : i ≡ length (iter_rest s) - 1 - length ys = omega (arith, e.0) in
      let found = position_from_yields_List p u f (Some (length ys)) (ys, Some x, j, y, c, (refl, e.1)) (back-yields s) tells in
      ap suc at ∙ behind-some p (iter_rest s) (Some (length ys)) found (length ys) refl

  pub last-found : (r : Option ℕ) → FindsPositionBack iter_steps_back g s f (length (iter_rest s)) r u → counted r ≡ last_of p (iter_rest s)
  last-found r d = found-back r d.0 d.2 d.1 d.3 d.4 d.5
