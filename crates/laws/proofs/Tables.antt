-- Tables: their elements, and a loop that fills an array place by place. Sorting and mapping.
use mathlib.Core.Path.{◌≡◌, refl, sym, ap, ◌∙◌}
use mathlib.Core.Logic.{◌≢◌}
use mathlib.Core.Bool.{Bool, true, false, cond}
use mathlib.Core.List.{List, [], ◌∷◌, map}
use Prim.Native.Nat.{ℕ, zero, suc, ◌+◌, ◌≤◌, ◌<◌}
use native.Mathlib.Omega.{arith}
use lib.ListN.{length, get_or, take, set, length-set}
use lib.Seq.{get_or-set_same, get_or-set_other, ext_get_or}
use borrow.Author.Count.{below_none, below_more}
use Rattle.laws.specs.Lists.{span}
use Rattle.laws.specs.Sort.{insert_by, sort}
use Rattle.laws.specs.Tables.{table}

module _ {A : Type 0} (f : ℕ → A) where
  length-span-map : (a n : ℕ) → length (map f (span a n)) ≡ n
  length-span-map a zero = refl
  length-span-map a (suc n) = ap suc (length-span-map (suc a) n)

  get_d-span-map : (d : A) (a n k : ℕ) → k < n → get_or (map f (span a n)) k d ≡ f (a + k)
  get_d-span-map d a zero k h = absurd (omega arith)
  get_d-span-map d a (suc n) zero h = ap f (omega arith)
  get_d-span-map d a (suc n) (suc k) h = get_d-span-map d (suc a) n k (omega arith) ∙ ap f (omega arith)

  pub length-table : (n : ℕ) → length (table n f) ≡ n
  unfolding table
  length-table n = length-span-map 0 n

  pub get_d-table : (d : A) (n k : ℕ) → k < n → get_or (table n f) k d ≡ f k
  unfolding table
  get_d-table d n k h = get_d-span-map d 0 n k h ∙ ap f (omega arith)

  -- the first i places of `now` have f, the others what they had in `first`; n places in all
  pub record Filled (d : A) (n : ℕ) (first now : List A) (i : ℕ) : Type 0 where
    pub long : length now ≡ n
    pub done : (k : ℕ) → k < i → get_or now k d ≡ f k
    pub rest : (k : ℕ) → i ≤ k → get_or now k d ≡ get_or first k d

  module _ (d : A) (n : ℕ) (first : List A) where
    pub filled_none : length first ≡ n → Filled d n first first 0
    filled_none l = record { long = l; done = below_none _; rest = λ k h. refl }

    pub filled_more : (now : List A) (i : ℕ) (x : A) → Filled d n first now i → i < n → x ≡ f i → Filled d n first (set now i x) (i + 1)
    filled_more now i x g h e = record {
      long = length-set now i x ∙ g.long;
      done =
          below_more (λ (k : ℕ). get_or (set now i x) k d ≡ f k) i (λ k b. other k (omega arith) ∙ g.done k b)
          (get_or-set_same now i x d (omega (arith, g.long)) ∙ e);
      rest = λ k b. other k (omega arith) ∙ g.rest k (omega arith);
    }
      where
        other : (k : ℕ) → k ≢ i → get_or (set now i x) k d ≡ get_or now k d
        other k ne = get_or-set_other now i k x d ne

    pub filled-all : (now : List A) (i : ℕ) → Filled d n first now i → n ≤ i → now ≡ table n f
    filled-all now i g h =
        ext_get_or d now (table n f) (g.long ∙ sym (length-table n))
        (λ k b. g.done k (omega (arith, g.long)) ∙ sym (get_d-table d n k (omega (arith, g.long))))

-- the first n of a table
pub take-table : {A : Type 0} (f : ℕ → A) (n m : ℕ) → n ≤ m → take n (table m f) ≡ table n f
unfolding table
take-table {A} f n m h = go 0 n m h
  where
    go : (a n m : ℕ) → n ≤ m → take n (map f (span a m)) ≡ map f (span a n)
    go a zero m h = refl
    go a (suc n) zero h = absurd (omega arith)
    go a (suc n) (suc m) h = ap {B = List A} (λ r. f a ∷ r) (go (suc a) n m (omega arith))

-- sorting by f and then taking f is taking f and then sorting
module _ {A B : Type 0} (lt : B → B → Bool) (f : A → B) where
  insert_by-map : (x : A) (l : List A) → map f (insert_by (λ a b. lt (f a) (f b)) x l) ≡ insert_by lt (f x) (map f l)
  insert_by-map x [] = refl
  insert_by-map x (y ∷ l) = go (lt (f y) (f x)) (insert_by-map x l)
    where
      go : (b : Bool) → map f (insert_by (λ a b. lt (f a) (f b)) x l) ≡ insert_by lt (f x) (map f l)
          → map f (cond b (y ∷ insert_by (λ a b. lt (f a) (f b)) x l) (x ∷ y ∷ l)) ≡ cond b (f y ∷ insert_by lt (f x) (map f l))
          (f x ∷ f y ∷ map f l)
      go true e = ap {B = List B} (λ r. f y ∷ r) e
      go false e = refl

  pub sort-map : (l : List A) → map f (sort (λ a b. lt (f a) (f b)) l) ≡ sort lt (map f l)
  sort-map [] = refl
  sort-map (x ∷ l) = insert_by-map x (sort (λ a b. lt (f a) (f b)) l) ∙ ap (insert_by lt (f x)) (sort-map l)
