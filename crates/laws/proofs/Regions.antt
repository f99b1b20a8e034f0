-- A stretch of an array written number by number, or by stores one after the other; blocks written one after the other.
use mathlib.Core.Path.{◌≡◌, refl, ◌∙◌}
use mathlib.Core.Logic.{◌≢◌}
use mathlib.Core.List.{List, ◌∷◌}
use Prim.Native.Nat.{ℕ, zero, suc, ◌+◌, ◌*◌, ◌≤◌, ◌<◌}
use native.Mathlib.Nat.{mul-le-mul_right}
use native.Mathlib.Omega.{arith}
use borrow.Author.Count.{below_none, below_more}
use lib.ListN.{length, get_or, set, length-set}
use lib.Seq.{get_or-set_same, get_or-set_other}
use Rattle.laws.specs.Arrays.{puts}
use Rattle.laws.proofs.Arrays.{length-puts, puts_low, puts-high, puts-in}
use Rattle.laws.proofs.Slots.{below-cases}
use Rattle.laws.specs.Regions.{Region, Blocks}

module _ (f : ℕ → ℕ) (a : ℕ) (first : List ℕ) where
  pub region-none : Region f a 0 first first
  region-none = record { long = refl; here = below_none _; low = λ x h. refl; high = λ x h. refl }

  pub region-more : (l : List ℕ) (i x : ℕ) → Region f a i first l → a + i < length first → x ≡ f i
      → Region f a (i + 1) first (set l (a + i) x)
  region-more l i x r h e = record {
    long = length-set l (a + i) x ∙ r.long;
    here =
        below_more (λ (k : ℕ). get_or (set l (a + i) x) (a + k) 0 ≡ f k) i (λ k b. other (a + k) (omega arith) ∙ r.here k b)
        (get_or-set_same l (a + i) x 0 (omega (arith, r.long)) ∙ e);
    low = λ y b. other y (omega arith) ∙ r.low y b;
    high = λ y b. other y (omega arith) ∙ r.high y (omega arith);
  }
    where
      other : (y : ℕ) → y ≢ a + i → get_or (set l (a + i) x) y 0 ≡ get_or l y 0
      other y n = get_or-set_other l (a + i) y x 0 n

  -- a loop has come to its end
  pub region-all : (l : List ℕ) (b i n : ℕ) → Region f a i first l → i ≡ n → a ≡ b → Region f b n first l
  region-all l b i n r e q = rw (← e, ← q) r

-- another way to say what stands there
pub region-as : {f : ℕ → ℕ} {a n : ℕ} {first last : List ℕ} (g : ℕ → ℕ) → ((k : ℕ) → k < n → f k ≡ g k) → Region f a n first last
    → Region g a n first last
region-as g e r = record { long = r.long; here = λ k h. r.here k h ∙ e k h; low = r.low; high = r.high }

-- the first number at a, the others from a + 1 on
pub region-puts : (l : List ℕ) (a v : ℕ) (vs : List ℕ) → a + (1 + length vs) ≤ length l
    → Region (λ k. get_or (v ∷ vs) k 0) a (suc (length vs)) l (puts (set l a v) a 1 vs)
region-puts l a v vs h = record {
  long = length-puts vs (set l a v) a 1 ∙ length-set l a v;
  here = within;
  low = λ x b. puts_low vs (set l a v) a 1 x (omega arith) ∙ other x (omega arith);
  high = λ x b. puts-high vs (set l a v) a 1 x (omega arith) ∙ other x (omega arith);
}
  where
    other : (x : ℕ) → x ≢ a → get_or (set l a v) x 0 ≡ get_or l x 0
    other x n = get_or-set_other l a x v 0 n

    within : (k : ℕ) → k < suc (length vs) → get_or (puts (set l a v) a 1 vs) (a + k) 0 ≡ get_or (v ∷ vs) k 0
    within zero b =
        let e : a + 0 ≡ a = omega arith in
        rw e (puts_low vs (set l a v) a 1 a (omega arith) ∙ get_or-set_same l a v 0 (omega arith))
    within (suc k) b =
        let e : a + suc k ≡ a + (1 + k) = omega arith in
        rw e (puts-in vs (set l a v) a 1 k (omega arith) (omega (arith, length-set l a v)))

-- a place of a block is before the later blocks
pub block-below : (w i k n : ℕ) → i < n → k < w → i * w + k < n * w
block-below w i k n u b =
    let e : suc i * w ≤ n * w = mul-le-mul_right w u in
    let q : suc i * w ≡ i * w + w = omega arith in
    omega arith

module _ (w : ℕ) (f : ℕ → ℕ → ℕ) (first : List ℕ) where
  pub blocks-none : Blocks w f 0 first first
  blocks-none = record { long = refl; here = λ i k h b. absurd (omega arith); high = λ x h. refl }

  -- a loop has come to its end
  pub blocks-all : (l : List ℕ) (i n : ℕ) → Blocks w f i first l → i ≡ n → Blocks w f n first l
  blocks-all l i n r e = rw (← e) r

  -- one block more
  pub blocks_more : (l m : List ℕ) (n : ℕ) → Blocks w f n first l → Region (f n) (n * w) w l m → Blocks w f (n + 1) first m
  blocks_more l m n s r = record {
    long = r.long ∙ s.long;
    here =
        λ i k h b. below-cases (λ (j : ℕ). get_or m (j * w + k) 0 ≡ f j k) n i h (λ u. r.low (i * w + k) (block-below w i k n u b)
        ∙ s.here i k u b) (r.here k b);
    high = λ x h. r.high x (omega (arith, next)) ∙ s.high x (omega (arith, next));
  }
    where
      next : (n + 1) * w ≡ n * w + w
      next = omega arith
