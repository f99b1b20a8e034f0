-- Texts as they are held in fixed memory: bytes in an array, 0 past their length.
use Rattle.std.specs.Prelude.{ℕ, ◌≤◌, ◌≡◌, List, length, take, min}
use Rattle.laws.specs.Lists.{padded}
use Rattle.texts.specs.declared.Text.{Text}

-- a text in n bytes: its first n, and 0 after them; the length is at most 255
unfoldable pub held : (n : ℕ) → List ℕ → Text n
held n s = record { bytes = padded 0 n (take n s); len = min (length (take n s)) 255 }

-- the bytes of the text
abbrev pub bytes_of : {n : ℕ} → Text n → List ℕ
bytes_of t = take t.len t.bytes

-- a text that fits is read back whole
abbrev pub ReadWhole : Type 0
ReadWhole = (n : ℕ) (s : List ℕ) → length s ≤ n → n ≤ 255 → bytes_of (held n s) ≡ s
