-- Stops marked one by one, and the rows of those marked.
use mathlib.Core.Path.{◌≡◌, refl, sym, ap, ◌∙◌}
use mathlib.Core.Bool.{Bool, true, false}
use mathlib.Core.List.{List}
use Prim.Native.Nat.{ℕ, ◌+◌, ◌*◌, ◌≤◌, ◌<◌}
use native.Mathlib.Omega.{arith}
use borrow.Author.Tests.{eqb-true, eqb-false}
use lib.Dec.{eqb}
use lib.ListN.{length, get_or, set}
use lib.Seq.{get_or-set_same, get_or-set_other}
use Rattle.laws.proofs.Slots.{below-cases}
use Rattle.transfer_array.specs.Named.{stop_in, Marked}
use Rattle.laws.proofs.Regions.{block-below}

-- ---- marks

-- the stops of the first i calls are marked
abbrev pub MarkedTo : List Bool → List ℕ → ℕ → Type 0
MarkedTo m f i = (k : ℕ) → k < i → stop_in f k < 128 → get_or m (stop_in f k) false ≡ true

pub marks-more : (m : List Bool) (f : List ℕ) (i : ℕ) {m' : List Bool} → length m ≡ 128 → MarkedTo m f i
    → m' ≡ set m (stop_in f i) true → MarkedTo m' f (i + 1)
marks-more m f i {m'} long g e =
    λ k h. below-cases (λ (j : ℕ). stop_in f j < 128 → get_or m' (stop_in f j) false ≡ true) i k h
    (λ u b. stored (stop_in f k) ∙ go (stop_in f k) b (g k u b) (eqb (stop_in f k) (stop_in f i)) refl)
    (λ b. stored (stop_in f i) ∙ here (stop_in f i) b)
  where
    stored : (s : ℕ) → get_or m' s false ≡ get_or (set m (stop_in f i) true) s false
    stored s = ap (λ (x : List Bool). get_or x s false) e

    here : (s : ℕ) → s < 128 → get_or (set m s true) s false ≡ true
    here s b = get_or-set_same m s true false (omega arith)

    go : (s : ℕ) → s < 128 → get_or m s false ≡ true → (t : Bool) → eqb s (stop_in f i) ≡ t
        → get_or (set m (stop_in f i) true) s false ≡ true
    go s b old true q = ap (λ (x : ℕ). get_or (set m x true) s false) (sym (eqb-true s (stop_in f i) q)) ∙ here s b
    go s b old false q = get_or-set_other m (stop_in f i) s true false (eqb-false s (stop_in f i) q) ∙ old

-- ---- rows

-- of the first n rows of w numbers those that are marked are there, up to r of each
abbrev pub RowsTo : ℕ → ℕ → (ℕ → ℕ → ℕ) → List Bool → ℕ → List ℕ → Type 0
RowsTo w r f marks n l = (i k : ℕ) → i < n → get_or marks i false ≡ true → k < r → get_or l (i * w + k) 0 ≡ f i k

pub rows_more : (w r : ℕ) (f : ℕ → ℕ → ℕ) (marks : List Bool) (l m : List ℕ) (n : ℕ) → r ≤ w → RowsTo w r f marks n l
    → Marked (get_or marks n false) (f n) (n * w) r l m → RowsTo w r f marks (n + 1) m
rows_more w r f marks l m n few g p =
    λ i k h. below-cases (λ (j : ℕ). get_or marks j false ≡ true → k < r → get_or m (j * w + k) 0 ≡ f j k) n i h
    (λ u on b. p.low (i * w + k) (block-below w i k n u (omega (arith, few, b))) ∙ g i k u on b) (λ on b. p.here on k b)
