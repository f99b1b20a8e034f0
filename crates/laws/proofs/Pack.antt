-- Packing an array: f of the kept elements of the first i, and blanks after them, as a loop builds them. Over any element type.
use Prim.Native.Nat.{ℕ, suc, ◌+◌, ◌-◌, ◌<◌, ◌≤◌}
use mathlib.Core.Path.{◌≡◌, refl, sym, ap, ◌∙◌}
use mathlib.Core.List.{List, [], ◌∷◌, ◌++◌, append_assoc, append-nil}
use mathlib.Core.Bool.{Bool, true, false, cond}
use native.Mathlib.Numerals.{add-one}
use native.Mathlib.Omega.{arith}
use lib.ListN.{length, get_or, take, set, replicate, length-append}
use lib.Seq.{take-suc, set_at}
use Rattle.laws.specs.Lists.{gather, padded}

module _ {A B : Type 0} (p : A → Bool) (f : A → B) where
  pub gather_append : (l m : List A) → gather p f (l ++ m) ≡ gather p f l ++ gather p f m
  gather_append [] m = refl
  gather_append (x ∷ xs) m = go (gather_append xs m) (p x)
    where
      go : gather p f (xs ++ m) ≡ gather p f xs ++ gather p f m → (b : Bool)
          → cond b (f x ∷ gather p f (xs ++ m)) (gather p f (xs ++ m)) ≡ cond b (f x ∷ gather p f xs) (gather p f xs) ++ gather p f m
      go e true = ap (λ ys. f x ∷ ys) e
      go e false = e

  pub length-gather : (l : List A) → length (gather p f l) ≤ length l
  length-gather [] = omega arith
  length-gather (x ∷ xs) = go (length-gather xs) (p x)
    where
      go : length (gather p f xs) ≤ length xs → (b : Bool) → length (cond b (f x ∷ gather p f xs) (gather p f xs)) ≤ suc (length xs)
      go e true = omega arith
      go e false = omega arith

  module _ (d : A) (l : List A) (i : ℕ) (h : i < length l) where
    pub gather-more : p (get_or l i d) ≡ true → gather p f (take (i + 1) l) ≡ gather p f (take i l) ++ (f (get_or l i d) ∷ [])
    gather-more e = rw (add-one, take-suc l i d, gather_append, e) refl

    pub gather-less : p (get_or l i d) ≡ false → gather p f (take (i + 1) l) ≡ gather p f (take i l)
    gather-less e = rw (add-one, take-suc l i d, gather_append, e) (append-nil _)

-- a store at the first blank
module _ {A : Type 0} (b : A) where
  blanks : (n k : ℕ) → n < k → replicate (k - n) b ≡ b ∷ replicate (k - (n + 1)) b
  blanks n k h =
      let e : k - n ≡ suc (k - (n + 1)) = omega arith in
      rw e refl

  pub padded-more : (l : List A) (x : A) (n k : ℕ) → length l ≡ n → n < k → set (padded b k l) n x ≡ padded b k (l ++ (x ∷ []))
  padded-more l x n k e h =
      let more : k - length (l ++ (x ∷ [])) ≡ k - (n + 1) = rw (length-append, e) refl in
      let left : set (padded b k l) n x ≡ l ++ x ∷ replicate (k - (n + 1)) b =
      rw (e, blanks n k h) (set_at l b (replicate (k - (n + 1)) b) x n e) in
      let right : padded b k (l ++ (x ∷ [])) ≡ l ++ x ∷ replicate (k - (n + 1)) b =
      rw more (append_assoc l (x ∷ []) (replicate (k - (n + 1)) b)) in
      left ∙ sym right

-- out holds the kept elements of the first i of l, n in number, and blanks up to k
pub record Packs {A B : Type 0} (p : A → Bool) (f : A → B) (b : B) (k : ℕ) (l : List A) (i n : ℕ) (out : List B) : Type 0 where
  pub small : n ≤ i
  pub count : n ≡ length (gather p f (take i l))
  pub list : out ≡ padded b k (gather p f (take i l))

module _ {A B : Type 0} (p : A → Bool) (f : A → B) (b : B) (k : ℕ) (l : List A) where
  -- a turn at the element x, which is kept or passed over; n' and out' are what the turn leaves
  module _ (d : A) (i n n' : ℕ) (out out' : List B) (x : A) (h : i < length l) (at : get_or l i d ≡ x) (s : Packs p f b k l i n out) where
    pub packs-keep : i < k → p x ≡ true → n' ≡ n + 1 → out' ≡ set out n (f x) → Packs p f b k l (i + 1) n' out'
    packs-keep room e en eo =
        let m : gather p f (take (i + 1) l) ≡ gather p f (take i l) ++ (f x ∷ []) = rw at at (gather-more p f d l i h (rw at e)) in
        record {
          small = omega (arith, s.small);
          count = en ∙ rw (m, length-append, s.count) refl;
          list =
              eo ∙ ap (λ (ys : List B). set ys n (f x)) s.list
              ∙ padded-more b (gather p f (take i l)) (f x) n k (sym s.count) (omega (arith, s.small)) ∙ ap (padded b k) (sym m);
        }

    pub packs-drop : p x ≡ false → n' ≡ n → out' ≡ out → Packs p f b k l (i + 1) n' out'
    packs-drop e en eo =
        let m = gather-less p f d l i h (rw at e) in
        record { small = omega (arith, s.small); count = en ∙ s.count ∙ ap length (sym m); list = eo ∙ s.list ∙ ap (padded b k) (sym m) }
