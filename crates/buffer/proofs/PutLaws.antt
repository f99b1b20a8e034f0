-- Puts one after the other; what stands at the start of the buffer after a put from its start.
use mathlib.Core.Path.{◌≡◌, refl, sym, ap, ◌∙◌}
use mathlib.Core.Bool.{Bool, true, false}
use lib.Dec.{ltb}
use borrow.Author.Tests.{ltb-true, ltb-false}
use mathlib.Core.List.{List, [], ◌∷◌, ◌++◌, append-nil}
use Prim.Native.Nat.{ℕ, zero, suc, min, ◌+◌, ◌*◌, ◌≤◌, ◌<◌}
use native.Mathlib.Nat.{mul-suc}
use native.Mathlib.Numerals.{add-one}
use native.Mathlib.Omega.{arith}
use lib.ListN.{length, set, get_or, take, drop, length-append}
use lib.Seq.{sets, sets-eq, length-sets, take_at, take_all, take-suc}
use Rattle.laws.specs.Lists.{concat_map}
use Rattle.laws.proofs.Folds.{concat_map-append}
use Rattle.buffer.specs.declared.Buffer.{Buffer}
use Rattle.buffer.specs.Put.{Put}

sets-append : (xs ys l : List ℕ) (at : ℕ) → sets (sets l at xs) (at + length xs) ys ≡ sets l at (xs ++ ys)
sets-append [] ys l at = let e : at + 0 ≡ at = omega arith in rw e refl
sets-append (x ∷ xs) ys l at =
    let e : at + suc (length xs) ≡ suc at + length xs = omega arith in
    rw e (sets-append xs ys _ (suc at))

-- past the end nothing changes
set_past : (l : List ℕ) (i x : ℕ) → length l ≤ i → set l i x ≡ l
set_past [] i x h = refl
set_past (y ∷ l) zero x h = absurd (omega arith)
set_past (y ∷ l) (suc i) x h = ap (λ (r : List ℕ). y ∷ r) (set_past l i x (omega arith))

pub sets-past : (xs l : List ℕ) (i : ℕ) → length l ≤ i → sets l i xs ≡ l
sets-past [] l i h = refl
sets-past (x ∷ xs) l i h = rw (set_past l i x h) (sets-past xs l (suc i) (omega arith))

-- where the count stops, the end is behind it
sets-then : (xs ys l : List ℕ) (at most : ℕ) → length l ≤ most → sets (sets l at xs) (min (at + length xs) most) ys ≡ sets l at (xs ++ ys)
sets-then xs ys l at most h = go (ltb most (at + length xs)) refl
  where
    long : length (sets l at xs) ≡ length l
    long = length-sets l at xs

    go : (b : Bool) → ltb most (at + length xs) ≡ b → sets (sets l at xs) (min (at + length xs) most) ys ≡ sets l at (xs ++ ys)
    go false t =
        let k = ltb-false most (at + length xs) t in
        let e : min (at + length xs) most ≡ at + length xs = omega arith in
        rw e (sets-append xs ys l at)
    go true t =
        let k = ltb-true most (at + length xs) t in
        let e : min (at + length xs) most ≡ most = omega arith in
        rw e (sets-past ys (sets l at xs) most (omega (arith, long)))
        ∙ sym (sets-past ys (sets l at xs) (at + length xs) (omega (arith, long)))
        ∙ sets-append xs ys l at

pub put_then : {m k : ℕ} {xs ys : List ℕ} {a b c : Buffer} → Put m xs a b → Put k ys b c → Put (m + k) (xs ++ ys) a c
put_then {xs = xs} {ys} {a} {b} {c} p q =
    let n : length (xs ++ ys) ≡ length xs + length ys = length-append xs ys in
    record {
      same = q.same ∙ p.same;
      small = omega (arith, p.small, q.small);
      stored = q.stored ∙ rw (p.behind, p.stored) (sets-then xs ys a.out.now a.len _ (omega (arith, a.room)));
      behind = omega (arith, p.behind, q.behind);
    }

pub put-none : (a : Buffer) → Put 0 [] a a
put-none a = record { same = refl; small = omega arith; stored = refl; behind = omega (arith, a.count) }

-- the same bytes, written otherwise
pub put_as : {m : ℕ} {xs ys : List ℕ} {a b : Buffer} → xs ≡ ys → Put m xs a b → Put m ys a b
put_as e p = rw e at p

-- another bound
pub put-within : {m : ℕ} {xs : List ℕ} {a b : Buffer} (k : ℕ) → length xs ≤ k → Put m xs a b → Put k xs a b
put-within k h p = record { same = p.same; small = h; stored = p.stored; behind = p.behind }

module _ {A : Type 0} (f : A → List ℕ) (xs : List A) (i : ℕ) (d : A) (h : i < length xs) where
  pieces_more : concat_map f (take (suc i) xs) ≡ concat_map f (take i xs) ++ f (get_or xs i d)
  pieces_more =
      rw (take-suc xs i d h) (concat_map-append f (take i xs) (get_or xs i d ∷ [])
      ∙ ap (λ (r : List ℕ). concat_map f (take i xs) ++ r) (append-nil (f (get_or xs i d))))

  -- the pieces of one element more, at most k bytes each
  pub put-turn : {k : ℕ} {a b c : Buffer} → Put (k * i) (concat_map f (take i xs)) a b → Put k (f (get_or xs i d)) b c
      → Put (k * (i + 1)) (concat_map f (take (i + 1) xs)) a c
  put-turn {k} p q = rw (add-one i, mul-suc k i, pieces_more) (put_then p q)

  -- the element as a loop names it
  pub put_item : {k : ℕ} {a b c : Buffer} → d ≡ get_or xs i d → Put (k * i) (concat_map f (take i xs)) a b → Put k (f d) b c
      → Put (k * (i + 1)) (concat_map f (take (i + 1) xs)) a c
  put_item e p q = put-turn p (put_as (ap f e) q)

-- the pieces of all elements
pub put-each : {A : Type 0} (k : ℕ) (f : A → List ℕ) (xs : List A) (i : ℕ) {a b : Buffer} → i ≡ length xs
    → Put (k * i) (concat_map f (take i xs)) a b
    → Put (k * length xs) (concat_map f xs) a b
put-each k f xs i e p = rw (← e) (put_as (ap (concat_map f) (take_all i xs (omega arith))) p)

-- one byte more
pub byte-turn : {a b c : Buffer} (xs : List ℕ) (i : ℕ) → i < length xs → Put i (take i xs) a b → Put 1 (get_or xs i 0 ∷ []) b c
    → Put (i + 1) (take (i + 1) xs) a c
byte-turn xs i h p q =
    let e : take (i + 1) xs ≡ take i xs ++ get_or xs i 0 ∷ [] = rw (add-one i) (take-suc xs i 0 h) in
    put_as (sym e) (put_then p q)

module _ {m : ℕ} {xs : List ℕ} {a b : Buffer} (p : Put m xs a b) (start : a.len ≡ 0) where
  pub put-long : length b.out.now ≡ length a.out.now
  put-long = ap length p.stored ∙ length-sets a.out.now a.len xs

  -- the bytes are counted, and if they have room they stand at the start
  pub put-counts : m ≤ 18446744073709551615 → b.len ≡ length xs
  put-counts h = omega (arith, p.behind, p.small)

  pub put-all : length xs ≤ length a.out.now → b.out.now ≡ xs ++ drop (length xs) a.out.now
  put-all h =
      let n : 0 + length xs ≡ length xs = omega arith in
      p.stored ∙ rw start (sets-eq xs a.out.now 0 (omega arith) ∙ rw n refl)

  pub put-text : m ≤ length a.out.now → take b.len b.out.now ≡ xs
  put-text h =
      let k : length xs ≤ length a.out.now = omega (arith, p.small) in
      let n : m ≤ 18446744073709551615 = omega (arith, a.room) in
      rw (put-all k, put-counts n) (take_at xs _ (length xs) refl)

  pub put-within-room : m ≤ length a.out.now → b.len ≤ length b.out.now
  put-within-room h =
      let n : m ≤ 18446744073709551615 = omega (arith, a.room) in
      omega (arith, put-counts n, put-long, p.small)
