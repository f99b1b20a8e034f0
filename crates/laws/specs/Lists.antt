-- Lists filtered, searched, folded and packed by a Bool test. Definitions only; their laws are in proofs/.
use Rattle.std.specs.Prelude.{Bool, false, cond, ◌||◌, List, [], ◌∷◌, ◌++◌, ℕ, zero, suc, ◌-◌, eqb, length, replicate, None, Option, Some}

module _ {A : Type 0} where
  -- the elements that pass the test, in order
  abbrev pub filterb : (A → Bool) → List A → List A
  filterb p [] = []
  filterb p (x ∷ xs) = cond (p x) (x ∷ filterb p xs) (filterb p xs)

  -- whether some element passes the test
  abbrev pub anyb : (A → Bool) → List A → Bool
  anyb p [] = false
  anyb p (x ∷ xs) = p x || anyb p xs

  -- the first element that passes the test
  abbrev pub firstb : (A → Bool) → List A → Option A
  firstb p [] = None
  firstb p (x ∷ xs) = cond (p x) (Some x) (firstb p xs)

  -- the elements in front of the first that fails the test
  abbrev pub take_while : (A → Bool) → List A → List A
  take_while p [] = []
  take_while p (x ∷ xs) = cond (p x) (x ∷ take_while p xs) []

  -- P of each element
  abbrev pub All : (A → Type 0) → List A → Type 0
  All P [] = Unit {0}
  All P (x ∷ xs) = P x × All P xs

  -- a list, and b after it up to n elements
  abbrev pub padded : A → ℕ → List A → List A
  padded b n l = l ++ replicate (n - length l) b

module _ {A B : Type 0} where
  -- f of the elements that pass the test, in order
  abbrev pub gather : (A → Bool) → (A → B) → List A → List B
  gather p f [] = []
  gather p f (x ∷ xs) = cond (p x) (f x ∷ gather p f xs) (gather p f xs)

  abbrev pub concat_map : (B → List A) → List B → List A
  concat_map g [] = []
  concat_map g (y ∷ ys) = g y ++ concat_map g ys

module _ {A S : Type 0} where
  -- the state after every element, from the left
  abbrev pub foldl : (S → A → S) → S → List A → S
  foldl f s [] = s
  foldl f s (x ∷ xs) = foldl f (f s x) xs

-- whether n is in the list
abbrev pub one_of : ℕ → List ℕ → Bool
one_of n [] = false
one_of n (m ∷ ms) = eqb n m || one_of n ms

-- the n numbers from a
abbrev pub span : ℕ → ℕ → List ℕ
span a zero = []
span a (suc n) = a ∷ span (suc a) n
