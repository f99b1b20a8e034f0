-- `same_keys` is symmetric, at every two keys.
use Rattle.std.proofs.Common.{◌≡◌, ℕ, zero, suc, Bool, true, false, cond, ◌&&◌, T, eqb, ltb, ℤ, pos, negsuc, ◌+ℤ◌, ◌-ℤ◌, neg_ℤ, sym, refl}
use Rattle.std.proofs.Common.{ap, ◌∙◌, eqb→eq}
use lib.IntN.{+ℤ_comm, neg_ℤ-+ℤ, neg_ℤ-neg_ℤ}
use lib.Ieee.{Float, binary64, of_int, neg, le}
use Rattle.place.specs.Numbers.{n125, ◌⊕◌, ◌⊗◌}
use Rattle.place.specs.Near.{same_keys, close_by, close_at, angle, square, series, metres, turn, around}
use Rattle.place.specs.Keys.{tag_n}
use Rattle.place.specs.Promises.{Symmetric}
use Rattle.laws.proofs.Ints.{nat_abs-negℤ}
use Rattle.laws.proofs.Tests.{eqb-sym}
use Rattle.laws.proofs.Signs.{mul-neg, square-neg, of_int-negsuc}

-- ---- the other way round
pub back : (a b : ℤ) → b -ℤ a ≡ neg_ℤ (a -ℤ b)
back a b = +ℤ_comm b (neg_ℤ a) ∙ ap (λ (z : ℤ). neg_ℤ a +ℤ z) (sym (neg_ℤ-neg_ℤ b)) ∙ sym (neg_ℤ-+ℤ a (neg_ℤ b))

around-neg : (d : ℤ) → around (neg_ℤ d) ≡ around d
unfolding around
around-neg d = ap (λ (n : ℕ). cond (ltb 180000000 n) (pos 360000000 -ℤ pos n) (pos n)) (nat_abs-negℤ d)

turn-sym : (a b : ℤ) → turn b a ≡ turn a b
unfolding turn
turn-sym a b = ap around (back a b) ∙ around-neg (a -ℤ b)

-- ---- the square of a way in metres
square-metres : (x : Float) → square (metres (neg x)) ≡ square (metres x)
unfolding square metres
square-metres x = ap (λ (y : Float). y ⊗ y) (mul-neg binary64 x _) ∙ square-neg binary64 (metres x)

pub metres-neg : (z : ℤ) → square (metres (of_int binary64 (neg_ℤ z))) ≡ square (metres (of_int binary64 z))
metres-neg (pos zero) = refl
metres-neg (pos (suc n)) = ap (λ (x : Float). square (metres x)) (of_int-negsuc binary64 n) ∙ square-metres (of_int binary64 (pos (suc n)))
metres-neg (negsuc n) =
    sym (square-metres (of_int binary64 (pos (suc n)))) ∙ ap (λ (x : Float). square (metres x)) (sym (of_int-negsuc binary64 n))

close-neg : (s x : Float) (z : ℤ) → close_at s x (of_int binary64 (neg_ℤ z)) ≡ close_at s x (of_int binary64 z)
unfolding close_at
close-neg s x z = ap (λ (y : Float). le (square (metres x ⊗ series (square (angle s))) ⊕ y) (n125 ⊗ n125)) (metres-neg z)

pub close-sym : (alat alon blat blon : ℤ) → close_by blat blon alat alon ≡ close_by alat alon blat blon
unfolding close_by
close-sym alat alon blat blon =
    (λ i. close_at (of_int binary64 (+ℤ_comm blat alat i)) (of_int binary64 (turn-sym alon blon i)) (of_int binary64 (back alat blat i)))
    ∙ close-neg (of_int binary64 (alat +ℤ blat)) (of_int binary64 (turn alon blon)) (alat -ℤ blat)

-- ---- the keys
-- where the tags are the same, it does not matter whose is compared with N
pick : (t h : Bool) (m n : ℕ) (x : Bool) → (T t → m ≡ n)
    → cond (t && h) (cond (eqb m tag_n) x true) false ≡ cond (t && h) (cond (eqb n tag_n) x true) false
pick true h m n x f = ap (λ (k : ℕ). cond h (cond (eqb k tag_n) x true) false) (f tt)
pick false h m n x f = refl

pub symmetric : Symmetric
unfolding same_keys
symmetric a b =
    pick (eqb a.tag b.tag) (eqb a.hash b.hash) a.tag b.tag (close_by a.lat a.lon b.lat b.lon) (eqb→eq a.tag b.tag)
    ∙ (λ i. cond (eqb-sym a.tag b.tag i && eqb-sym a.hash b.hash i)
    (cond (eqb b.tag tag_n) (close-sym b.lat b.lon a.lat a.lon i) true) false)
