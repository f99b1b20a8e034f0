-- Decimal digits: how many there are, one digit more, and that they are right.
use mathlib.Core.Path.{◌≡◌, refl, sym, ap, ◌∙◌}
use mathlib.Core.Bool.{Bool, true, false, cond}
use mathlib.Core.List.{List, [], ◌∷◌, ◌++◌, append_assoc}
use Prim.Native.Nat.{ℕ, zero, suc, ◌+◌, ◌*◌, ◌-◌, ◌/◌, ◌%◌, ◌≤◌, ◌<◌}
use native.Mathlib.Omega.{arith}
use borrow.Author.Tests.{ltb-true, ltb-false, lt-ltb, le-ltb}
use lib.Dec.{ltb}
use lib.ListN.{length, get_or, length-append}
use Rattle.laws.proofs.Folds.{foldl-append}
use Rattle.laws.proofs.Every.{all_append}
use Rattle.buffer.specs.declared.Buffer.{Buffer}
use Rattle.buffer.specs.Put.{Put}
use Rattle.buffer.proofs.PutLaws.{put_then, put_as, put-within}
use Rattle.lines.specs.Decimal.{decimal_by, decimal, spaced, value_of, IsDigit, Spells, DecimalRight}

abbrev tens : ℕ → ℕ
tens zero = 1
tens (suc k) = 10 * tens k

by-small : (k n : ℕ) → length (decimal_by k n) ≤ k
unfolding decimal_by
by-small zero n = omega arith
by-small (suc k) n = go (ltb n 10) (by-small k (n / 10))
  where
    go : (b : Bool) → length (decimal_by k (n / 10)) ≤ k
        → length (cond b ((48 + n) ∷ []) (decimal_by k (n / 10) ++ ((48 + n % 10) ∷ []))) ≤ suc k
    go true h = omega arith
    go false h = simp length-append (omega arith)

pub decimal-small : (n : ℕ) → length (decimal n) ≤ 20
unfolding decimal
decimal-small n = by-small 20 n

-- one place more changes nothing where there are enough
by-more : (k n : ℕ) → n < tens (suc k) → decimal_by (suc k) n ≡ decimal_by (suc (suc k)) n
unfolding decimal_by
by-more zero n h = rw (lt-ltb n 10 (omega arith)) refl
by-more (suc k) n h = go (ltb n 10) (by-more k (n / 10) (omega arith))
  where
    go : (b : Bool) → decimal_by (suc k) (n / 10) ≡ decimal_by (suc (suc k)) (n / 10)
        → cond b ((48 + n) ∷ []) (decimal_by (suc k) (n / 10) ++ ((48 + n % 10) ∷ []))
        ≡ cond b ((48 + n) ∷ []) (decimal_by (suc (suc k)) (n / 10) ++ ((48 + n % 10) ∷ []))
    go true e = refl
    go false e = rw e refl

-- nor do some more
by-enough : (j k n : ℕ) → n < tens (suc k) → decimal_by (suc k) n ≡ decimal_by (suc k + j) n
by-enough zero k n h = let e : suc k + 0 ≡ suc k = omega arith in rw e refl
by-enough (suc j) k n h =
    let e : suc k + suc j ≡ suc (suc k) + j = omega arith in
    rw e (by-more k n h ∙ by-enough j (suc k) n (omega arith))

-- a number below 65536 has five digits at most
pub short-decimal : (n : ℕ) → n < 65536 → length (decimal n) ≤ 5
unfolding decimal
short-decimal n h = rw (← by-enough 15 4 n (omega arith)) (by-small 5 n)

pub decimal-one : (n : ℕ) → n < 10 → decimal n ≡ (48 + n) ∷ []
unfolding decimal decimal_by
decimal-one n h = rw (lt-ltb n 10 h) refl

pub decimal-more : (n : ℕ) → 10 ≤ n → n < 18446744073709551616 → decimal n ≡ decimal (n / 10) ++ ((48 + n % 10) ∷ [])
unfolding decimal decimal_by
decimal-more n h f = rw (le-ltb n 10 h) (ap (λ (ds : List ℕ). ds ++ ((48 + n % 10) ∷ [])) (by-more 18 (n / 10) (omega arith)))

first_then : (xs : List ℕ) (y : ℕ) → 48 < get_or xs 0 0 → 48 < get_or (xs ++ y ∷ []) 0 0
first_then [] y h = absurd (omega arith)
first_then (x ∷ xs) y h = h

value-then : (xs : List ℕ) (d : ℕ) → value_of (xs ++ (48 + d) ∷ []) ≡ value_of xs * 10 + d
value-then xs d = foldl-append (λ (v e : ℕ). v * 10 + (e - 48)) 0 xs ((48 + d) ∷ []) ∙ omega arith

one_right : (n : ℕ) → n < 10 → Spells n ((48 + n) ∷ [])
one_right n h = record { digits = ((omega arith, omega arith), tt); value = omega arith; first = λ p. omega arith; nought = λ e. rw e refl }

then-right : (n : ℕ) (ds : List ℕ) → 10 ≤ n → Spells (n / 10) ds → Spells n (ds ++ ((48 + n % 10) ∷ []))
then-right n ds h s =
    record {
      digits = all_append IsDigit ds ((48 + n % 10) ∷ []) s.digits ((omega arith, omega arith), tt);
      value = value-then ds (n % 10) ∙ omega (arith, s.value);
      first = λ p. first_then ds (48 + n % 10) (s.first (omega arith));
      nought = λ e. absurd (omega arith);
    }

by_right : (k n : ℕ) → n < tens (suc k) → Spells n (decimal_by (suc k) n)
unfolding decimal_by
by_right zero n h = rw (lt-ltb n 10 (omega arith)) (one_right n (omega arith))
by_right (suc k) n h = go (ltb n 10) refl (by_right k (n / 10) (omega arith))
  where
    go : (b : Bool) → ltb n 10 ≡ b → Spells (n / 10) (decimal_by (suc k) (n / 10))
        → Spells n (cond b ((48 + n) ∷ []) (decimal_by (suc k) (n / 10) ++ ((48 + n % 10) ∷ [])))
    go true e s = one_right n (ltb-true n 10 e)
    go false e s = then-right n (decimal_by (suc k) (n / 10)) (ltb-false n 10 e) s

pub decimal-right : DecimalRight
unfolding decimal
decimal-right n h = by_right 19 n (omega arith)

-- ---- put into a buffer
pub one-put : (n : ℕ) {a b : Buffer} → n < 10 → Put 1 ((48 + n) ∷ []) a b → Put 20 (decimal n) a b
one-put n h p = put-within 20 (decimal-small n) (put_as (sym (decimal-one n h)) p)

module _ (n : ℕ) (fits : n < 18446744073709551616) where
  two-more : 100 ≤ n → decimal n ≡ decimal (n / 100) ++ ((48 + n / 10 % 10) ∷ (48 + n % 10) ∷ [])
  two-more h =
      let e : n / 10 / 10 ≡ n / 100 = omega arith in
      decimal-more n (omega arith) fits
      ∙ ap (λ (ds : List ℕ). ds ++ ((48 + n % 10) ∷ [])) (decimal-more (n / 10) (omega arith) (omega arith))
      ∙ append_assoc (decimal (n / 10 / 10)) _ _
      ∙ ap (λ (k : ℕ). decimal k ++ ((48 + n / 10 % 10) ∷ (48 + n % 10) ∷ [])) e

  two-only : 10 ≤ n → n < 100 → decimal n ≡ (48 + n / 10 % 10) ∷ (48 + n % 10) ∷ []
  two-only h k =
      let e : 48 + n / 10 ≡ 48 + n / 10 % 10 = omega arith in
      decimal-more n h fits
      ∙ ap (λ (ds : List ℕ). ds ++ ((48 + n % 10) ∷ [])) (decimal-one (n / 10) (omega arith))
      ∙ ap (λ (d : ℕ). d ∷ (48 + n % 10) ∷ []) e

  pub more-put : {a b c d : Buffer} → 100 ≤ n → Put 20 (decimal (n / 100)) a b → Put 1 ((48 + n / 10 % 10) ∷ []) b c
      → Put 1 ((48 + n % 10) ∷ []) c d
      → Put 20 (decimal n) a d
  more-put h p q r = put-within 20 (decimal-small n) (put_as (sym (two-more h)) (put_then p (put_then q r)))

  pub two-put : {b c d : Buffer} → 10 ≤ n → n < 100 → Put 1 ((48 + n / 10 % 10) ∷ []) b c → Put 1 ((48 + n % 10) ∷ []) c d
      → Put 20 (decimal n) b d
  two-put h k q r = put-within 20 (decimal-small n) (put_as (sym (two-only h k)) (put_then q r))

-- a space before it
pub space-put : (n : ℕ) {a b c : Buffer} → Put 1 (32 ∷ []) a b → Put 20 (decimal n) b c → Put 21 (spaced n) a c
unfolding spaced
space-put n p q = put_then p q

pub short-put : (n : ℕ) {a b : Buffer} → n < 65536 → Put 21 (spaced n) a b → Put 6 (spaced n) a b
unfolding spaced
short-put n h p = put-within 6 (omega (arith, short-decimal n h)) p
