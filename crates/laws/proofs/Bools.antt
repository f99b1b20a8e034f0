-- Laws of `||`, `&&` and `not` as equations with true and false.
use mathlib.Core.Path.{◌≡◌, refl}
use mathlib.Core.Logic.{◌⊎◌, inl, inr}
use mathlib.Core.Bool.{Bool, true, false, not, cond, ◌&&◌, ◌||◌, true≢false, false≢true}

pub or-true-cases : (a b : Bool) → (a || b) ≡ true → (a ≡ true) ⊎ (b ≡ true)
or-true-cases true b e = inl refl
or-true-cases false b e = inr e

pub or-true-left : (a b : Bool) → a ≡ true → (a || b) ≡ true
or-true-left true b e = refl
or-true-left false b e = absurd (false≢true e)

pub or_true_right : (a b : Bool) → b ≡ true → (a || b) ≡ true
or_true_right true b e = refl
or_true_right false b e = e

pub or-false-left : (a b : Bool) → (a || b) ≡ false → a ≡ false
or-false-left true b e = e
or-false-left false b e = refl

pub or-false-right : (a b : Bool) → (a || b) ≡ false → b ≡ false
or-false-right true b e = absurd (true≢false e)
or-false-right false b e = e

pub and-true-left : (a b : Bool) → (a && b) ≡ true → a ≡ true
and-true-left true b e = refl
and-true-left false b e = e

pub and-true-right : (a b : Bool) → (a && b) ≡ true → b ≡ true
and-true-right true b e = e
and-true-right false b e = absurd (false≢true e)

pub and-true : (a b : Bool) → a ≡ true → b ≡ true → (a && b) ≡ true
and-true true b e f = f
and-true false b e f = e

-- a test is true or false
pub test : (b : Bool) → (b ≡ true) ⊎ (b ≡ false)
test true = inl refl
test false = inr refl

pub not-true : (b : Bool) → (b ≡ true → ⊥) → b ≡ false
not-true true n = absurd (n refl)
not-true false n = refl

pub of-not : (b : Bool) → not b ≡ true → b ≡ false
of-not true e = absurd (false≢true e)
of-not false e = refl

pub and-by : {p : Bool} (q : Bool) → p ≡ true → (p && q) ≡ q
and-by q e = rw e

pub and-not : {p : Bool} (q : Bool) → p ≡ false → (p && q) ≡ false
and-not q e = rw e

pub or-by : {p : Bool} (q : Bool) → p ≡ true → (p || q) ≡ true
or-by q e = rw e

pub or-not : {p : Bool} (q : Bool) → p ≡ false → (p || q) ≡ q
or-not q e = rw e

pub cond-by : {A : Type 0} {p : Bool} (x y : A) → p ≡ true → cond p x y ≡ x
cond-by x y e = rw e

pub cond-not : {A : Type 0} {p : Bool} (x y : A) → p ≡ false → cond p x y ≡ y
cond-not x y e = rw e
