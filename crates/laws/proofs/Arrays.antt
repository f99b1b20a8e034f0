-- What stands in an array after numbers are stored one after the other.
use mathlib.Core.Path.{◌≡◌, refl, ◌∙◌}
use mathlib.Core.Logic.{◌≢◌}
use mathlib.Core.List.{List, [], ◌∷◌}
use Prim.Native.Nat.{ℕ, zero, suc, ◌+◌, ◌≤◌, ◌<◌}
use native.Mathlib.Omega.{arith}
use lib.ListN.{length, get_or, set, length-set}
use lib.Seq.{get_or-set_same, get_or-set_other}
use Rattle.laws.specs.Arrays.{puts}

pub length-puts : (vs l : List ℕ) (a k : ℕ) → length (puts l a k vs) ≡ length l
length-puts [] l a k = refl
length-puts (v ∷ vs) l a k = length-puts vs (set l (a + k) v) a (suc k) ∙ length-set l (a + k) v

pub puts_low : (vs l : List ℕ) (a k x : ℕ) → x < a + k → get_or (puts l a k vs) x 0 ≡ get_or l x 0
puts_low [] l a k x h = refl
puts_low (v ∷ vs) l a k x h =
    let n : x ≢ a + k = λ e. omega arith in
    puts_low vs (set l (a + k) v) a (suc k) x (omega arith) ∙ get_or-set_other l (a + k) x v 0 n

pub puts-high : (vs l : List ℕ) (a k x : ℕ) → a + k + length vs ≤ x → get_or (puts l a k vs) x 0 ≡ get_or l x 0
puts-high [] l a k x h = refl
puts-high (v ∷ vs) l a k x h =
    let n : x ≢ a + k = λ e. omega arith in
    puts-high vs (set l (a + k) v) a (suc k) x (omega arith) ∙ get_or-set_other l (a + k) x v 0 n

pub puts-in : (vs l : List ℕ) (a k j : ℕ) → j < length vs → a + k + length vs ≤ length l
    → get_or (puts l a k vs) (a + (k + j)) 0 ≡ get_or vs j 0
puts-in [] l a k j h r = absurd (omega arith)
puts-in (v ∷ vs) l a k zero h r =
    let e : a + (k + 0) ≡ a + k = omega arith in
    rw e (puts_low vs (set l (a + k) v) a (suc k) (a + k) (omega arith) ∙ get_or-set_same l (a + k) v 0 (omega arith))
puts-in (v ∷ vs) l a k (suc j) h r =
    let e : a + (k + suc j) ≡ a + (suc k + j) = omega arith in
    rw e (puts-in vs (set l (a + k) v) a (suc k) j (omega arith) (omega (arith, length-set l (a + k) v)))
