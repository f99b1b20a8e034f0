-- What a store in the array does to its rows.
use mathlib.Core.Path.{◌≡◌, sym, ◌∙◌}
use mathlib.Core.Bool.{true, false}
use mathlib.Core.Logic.{◌≢◌, ◌⊎◌, inl, inr}
use mathlib.Core.List.{List, [], ◌∷◌}
use Prim.Native.Nat.{ℕ, ◌+◌, ◌*◌, ◌≤◌, ◌<◌}
use native.Mathlib.Omega.{arith}
use lib.ListN.{length, get_or, set, length-set}
use lib.Seq.{get_or-set_same, get_or-set_other, ext_get_or, set-get_or}
use lib.Dec.{ltb}
use borrow.Author.Tests.{ltb-true, ltb-false}
use Rattle.laws.proofs.Bools.{test}
use Rattle.laws.proofs.Arrays.{length-puts, puts_low, puts-high, puts-in}
use Rattle.profile.specs.Found.{Row}
use Rattle.profile.specs.Journeys.{row, no_row}
use Rattle.search_state.specs.Layout.{slots, width, count_place, size}
use Rattle.search_state.specs.View.{row_at, rows}
use Rattle.search_state.proofs.RowLaws.{rows-length, rows_get}
use Rattle.candidate.specs.Pieces.{put_row, Tail}

-- ---- a row is seen by its numbers

pub seen : (l l' : List ℕ) (k : ℕ) → ((y : ℕ) → k * width ≤ y → y < k * width + width → get_or l' y 0 ≡ get_or l y 0)
    → row_at l' k ≡ row_at l k
unfolding row_at
seen l l' k f =
    λ t. row (f (k * width) (omega arith) (omega arith) t) (at 1 (omega arith) t) (at 2 (omega arith) t) (at 3 (omega arith) t)
    (at 4 (omega arith) t) (at 5 (omega arith) t)
    (at 6 (omega arith) t) (at 7 (omega arith) t) (at 8 (omega arith) t) (at 9 (omega arith) t) (at 10 (omega arith) t)
    (at 11 (omega arith) t)
  where
    at : (j : ℕ) → j < width → get_or l' (k * width + j) 0 ≡ get_or l (k * width + j) 0
    at j h = f (k * width + j) (omega arith) (omega arith)

-- ---- a row stored

module _ (l : List ℕ) (i : ℕ) (r : Row) where
  abbrev others : List ℕ
  others =
      r.arrival ∷ r.rides ∷ r.walk ∷ r.origin ∷ r.target ∷ r.board ∷ r.alight ∷ r.board2 ∷ r.alight2 ∷ r.middle_board ∷ r.middle_alight ∷ []

  pub put-long : length (put_row l i r) ≡ length l
  unfolding put_row
  put-long = length-puts others (set l (i * width) r.leave) (i * width) 1 ∙ length-set l (i * width) r.leave

  put_low : (x : ℕ) → x < i * width → get_or (put_row l i r) x 0 ≡ get_or l x 0
  unfolding put_row
  put_low x h =
      let n : x ≢ i * width = λ e. omega arith in
      puts_low others (set l (i * width) r.leave) (i * width) 1 x (omega arith) ∙ get_or-set_other l (i * width) x r.leave 0 n

  put-high : (x : ℕ) → i * width + width ≤ x → get_or (put_row l i r) x 0 ≡ get_or l x 0
  unfolding put_row
  put-high x h =
      let n : x ≢ i * width = λ e. omega arith in
      puts-high others (set l (i * width) r.leave) (i * width) 1 x (omega arith) ∙ get_or-set_other l (i * width) x r.leave 0 n

  pub put-below : (k : ℕ) → k < i → row_at (put_row l i r) k ≡ row_at l k
  put-below k h = seen l (put_row l i r) k (λ y a b. put_low y (omega arith))

  pub put-above : (k : ℕ) → i < k → row_at (put_row l i r) k ≡ row_at l k
  put-above k h = seen l (put_row l i r) k (λ y a b. put-high y (omega arith))

  module _ (long : length l ≡ size) (room : i < slots) where
    pub put-tail : Tail l (put_row l i r)
    put-tail x h = put-high x (omega arith)

    put_first : get_or (put_row l i r) (i * width) 0 ≡ r.leave
    unfolding put_row
    put_first =
        puts_low others (set l (i * width) r.leave) (i * width) 1 (i * width) (omega arith)
        ∙ get_or-set_same l (i * width) r.leave 0 (omega arith)

    put_in : (j : ℕ) → j < 11 → get_or (put_row l i r) (i * width + (1 + j)) 0 ≡ get_or others j 0
    unfolding put_row
    put_in j h = puts-in others (set l (i * width) r.leave) (i * width) 1 j (omega arith) (omega (arith, length-set l (i * width) r.leave))

    pub put-here : row_at (put_row l i r) i ≡ r
    unfolding row_at
    put-here =
        λ t. row (put_first t) (put_in 0 (omega arith) t) (put_in 1 (omega arith) t) (put_in 2 (omega arith) t) (put_in 3 (omega arith) t)
        (put_in 4 (omega arith) t)
        (put_in 5 (omega arith) t) (put_in 6 (omega arith) t) (put_in 7 (omega arith) t) (put_in 8 (omega arith) t)
        (put_in 9 (omega arith) t) (put_in 10 (omega arith) t)

-- a row stored where it stands
pub put_same : (l : List ℕ) (i : ℕ) → put_row l i (row_at l i) ≡ l
unfolding put_row row_at
put_same l i = simp set-get_or

pub put-there : (l : List ℕ) (i n : ℕ) (k : Row) → n ≡ i → k ≡ row_at l i → l ≡ put_row l n k
put-there l i n k en ek = sym (rw (en, ek) (put_same l i))

-- ---- the rows

pub rows_same : (l l' : List ℕ) → ((k : ℕ) → k < slots → row_at l' k ≡ row_at l k) → rows l' ≡ rows l
rows_same l l' f =
    ext_get_or no_row (rows l') (rows l) (rows-length l' ∙ sym (rows-length l))
    (λ k h. let h' : k < slots = omega (arith, rows-length l') in rows_get l' k h' ∙ f k h' ∙ sym (rows_get l k h'))

pub rows-put : (l : List ℕ) (i : ℕ) (r : Row) → length l ≡ size → i < slots → rows (put_row l i r) ≡ set (rows l) i r
rows-put l i r long room =
    ext_get_or no_row (rows (put_row l i r)) (set (rows l) i r)
    (rows-length (put_row l i r) ∙ sym (length-set (rows l) i r ∙ rows-length l))
    (λ k h. let h' : k < slots = omega (arith, rows-length (put_row l i r)) in rows_get (put_row l i r) k h'
    ∙ go k h' (test (ltb k i)) (test (ltb i k)))
  where
    go : (k : ℕ) → k < slots → (ltb k i ≡ true) ⊎ (ltb k i ≡ false) → (ltb i k ≡ true) ⊎ (ltb i k ≡ false)
        → row_at (put_row l i r) k ≡ get_or (set (rows l) i r) k no_row
    go k h (inl a) b =
        let n : k ≢ i = λ e. omega (arith, ltb-true k i a) in
        put-below l i r k (ltb-true k i a) ∙ sym (get_or-set_other (rows l) i k r no_row n ∙ rows_get l k h)
    go k h (inr a) (inl b) =
        let n : k ≢ i = λ e. omega (arith, ltb-true i k b) in
        put-above l i r k (ltb-true i k b) ∙ sym (get_or-set_other (rows l) i k r no_row n ∙ rows_get l k h)
    go k h (inr a) (inr b) =
        let e : k ≡ i = omega (arith, ltb-false k i a, ltb-false i k b) in
        rw e (put-here l i r long room ∙ sym (get_or-set_same (rows l) i r no_row (omega (arith, rows-length l))))

-- a number stored behind the rows
pub rows-set : (l : List ℕ) (x v : ℕ) → count_place ≤ x → rows (set l x v) ≡ rows l
rows-set l x v h = rows_same l (set l x v) (λ k b. same k b)
  where
    at : (y : ℕ) → y < count_place → get_or (set l x v) y 0 ≡ get_or l y 0
    at y b = let n : y ≢ x = λ e. omega arith in get_or-set_other l x y v 0 n

    same : (k : ℕ) → k < slots → row_at (set l x v) k ≡ row_at l k
    same k b = seen l (set l x v) k (λ y a c. at y (omega arith))
