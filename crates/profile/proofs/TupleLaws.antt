-- What `<=` says of two tuples of numbers: one comparison after another.
use mathlib.Core.Path.{◌≡◌, refl, sym, ap, ◌∙◌}
use mathlib.Core.Bool.{Bool, true, false, cond, ◌&&◌, ◌||◌}
use Prim.Native.Nat.{ℕ}
use native.Mathlib.Omega.{arith}
use lib.Dec.{leb, ltb, eqb}
use borrow.Author.Tests.{ltb-true, ltb-false, eqb-true, eqb-false, le-leb, lt-leb}
use Rattle.std.specs.Prelude.{Option, None, Some}
use Rattle.std.proofs.Common.{Ordering}
use Rattle.std.specs.Ordering.{is_le, nat_cmp, partial_ordering_then, is_some_and}
use Rattle.std.specs.declared.cmp.Ordering.TheVariants.{Less, Equal, Greater}
use Rattle.laws.specs.Lex.{lexb}

-- an answer is that of `<=`
abbrev le : Option Ordering → Bool
le p = is_some_and is_le p

le-first : (x y : ℕ) (p : Option Ordering) → le (partial_ordering_then (Some (nat_cmp x y)) p) ≡ lexb x y (le p)
unfolding lexb
le-first x y p = go (ltb x y) (eqb x y)
  where
    go : (l e : Bool) → le (partial_ordering_then (Some (cond l Less (cond e Equal Greater))) p) ≡ (l || (e && le p))
    go true e = refl
    go false true = refl
    go false false = refl

le-last : (x y : ℕ) → le (Some (nat_cmp x y)) ≡ leb x y
le-last x y = go (ltb x y) refl (eqb x y) refl
  where
    go : (l : Bool) → ltb x y ≡ l → (e : Bool) → eqb x y ≡ e → le (Some (cond l Less (cond e Equal Greater))) ≡ leb x y
    go true p e q = let h = ltb-true x y p in sym (le-leb x y (omega arith))
    go false p true q = let h = eqb-true x y q in sym (le-leb x y (omega arith))
    go false p false q = let h = ltb-false x y p in let n = eqb-false x y q in sym (lt-leb x y (omega arith))

then-then : (a b c : Option Ordering)
    → partial_ordering_then (partial_ordering_then a b) c ≡ partial_ordering_then a (partial_ordering_then b c)
then-then None b c = refl
then-then (Some Less) b c = refl
then-then (Some Equal) b c = refl
then-then (Some Greater) b c = refl

-- of four numbers
pub le-four : (a b r s w v m l : ℕ)
    → le (partial_ordering_then
    (partial_ordering_then (partial_ordering_then (Some (nat_cmp a b)) (Some (nat_cmp r s))) (Some (nat_cmp w v))) (Some (nat_cmp m l)))
    ≡ lexb a b (lexb r s (lexb w v (leb m l)))
le-four a b r s w v m l =
    ap le (then-then (partial_ordering_then (Some (nat_cmp a b)) (Some (nat_cmp r s))) (Some (nat_cmp w v)) (Some (nat_cmp m l)))
    ∙ ap le (then-then (Some (nat_cmp a b)) (Some (nat_cmp r s)) (partial_ordering_then (Some (nat_cmp w v)) (Some (nat_cmp m l))))
    ∙ le-first a b _ ∙ ap (lexb a b) (le-first r s _ ∙ ap (lexb r s) (le-first w v _ ∙ ap (lexb w v) (le-last m l)))
