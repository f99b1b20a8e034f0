-- What a stretch of an array holds after it is written, and that the rest stays.
use Rattle.std.specs.Prelude.{◌≡◌, List, ℕ, ◌+◌, ◌*◌, ◌≤◌, ◌<◌, length, get_or}

-- the n places from a have f of 0, 1, ..; the others what they had in `first`
pub record Region (f : ℕ → ℕ) (a n : ℕ) (first last : List ℕ) : Type 0 where
  pub long : length last ≡ length first
  pub here : (k : ℕ) → k < n → get_or last (a + k) 0 ≡ f k
  pub low : (x : ℕ) → x < a → get_or last x 0 ≡ get_or first x 0
  pub high : (x : ℕ) → a + n ≤ x → get_or last x 0 ≡ get_or first x 0

-- the first n blocks of w numbers have f of the block and of the place in it; the others what they had in `first`
pub record Blocks (w : ℕ) (f : ℕ → ℕ → ℕ) (n : ℕ) (first last : List ℕ) : Type 0 where
  pub long : length last ≡ length first
  pub here : (i k : ℕ) → i < n → k < w → get_or last (i * w + k) 0 ≡ f i k
  pub high : (x : ℕ) → n * w ≤ x → get_or last x 0 ≡ get_or first x 0
