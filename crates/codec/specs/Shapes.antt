-- Descriptions of fields: the bytes that are written of a value, and what is read from a place of a record.
use Rattle.std.specs.Prelude.{ℕ, ◌+◌, ◌/◌, ◌%◌, ◌≤◌, ◌≡◌, Bool, true, cond, ◌&&◌, List, [], ◌∷◌, ◌++◌, eqb, length, take, drop, None}
use Rattle.std.specs.Prelude.{Option, Some}
use Rattle.buffer.specs.Bytes.{two_bytes, four_bytes, eight_bytes}
use Rattle.fields.specs.Numbers.{byte_at, u16_at, u32_at, u64_at}
use Rattle.fields.specs.Layout.{text_end, text_at, has_at, mark_at}

-- how many bytes a number has
pub data Size : Type 0 where
  one : Size
  two : Size
  four : Size
  eight : Size

pub data Field : Type 0 where
  -- big-endian
  number : Size → Field
  -- so many bytes
  bytes : ℕ → Field
  -- a length byte, then as many bytes
  text : Field
  -- a byte 0 or 1, then the field if it is 1
  option : Field → Field
  -- one after the other
  both : Field → Field → Field

abbrev pub width : Size → ℕ
width one = 1
width two = 2
width four = 4
width eight = 8

abbrev pub Value : Field → Type 0
Value (number s) = ℕ
Value (bytes n) = List ℕ
Value text = List ℕ
Value (option f) = Option (Value f)
Value (both f g) = Value f × Value g

-- ---- writing

abbrev pub number_bytes : Size → ℕ → List ℕ
number_bytes one n = n ∷ []
number_bytes two n = two_bytes n
number_bytes four n = four_bytes n
number_bytes eight n = eight_bytes n

abbrev pub write : (f : Field) → Value f → List ℕ
write (number s) n = number_bytes s n
write (bytes n) xs = xs
write text xs = length xs ∷ xs
write (option f) None = 0 ∷ []
write (option f) (Some v) = 1 ∷ write f v
write (both f g) v = write f v.0 ++ write g v.1

-- the bytes of a counted field are as many as it counts; that numbers fit their bytes is asked only where bytes are stored
abbrev pub Fits : (f : Field) → Value f → Type 0
Fits (number s) n = Unit {0}
Fits (bytes n) xs = length xs ≡ n
Fits text xs = Unit {0}
Fits (option f) None = Unit {0}
Fits (option f) (Some v) = Fits f v
Fits (both f g) v = Fits f v.0 × Fits g v.1

-- ---- reading, from a place of a record

abbrev pub number_at : Size → List ℕ → ℕ → ℕ
number_at one b at = byte_at b at
number_at two b at = u16_at b at
number_at four b at = u32_at b at
number_at eight b at = u64_at b at

-- where the field ends
abbrev pub end : Field → List ℕ → ℕ → ℕ
end (number s) b at = at + width s
end (bytes n) b at = at + n
end text b at = text_end b at
end (option f) b at = cond (has_at b at) (end f b (at + 1)) (at + 1)
end (both f g) b at = end g b (end f b at)

abbrev pub read : (f : Field) → List ℕ → ℕ → Value f
read (number s) b at = number_at s b at
read (bytes n) b at = take n (drop at b)
read text b at = text_at b at
read (option f) b at = cond (has_at b at) (Some (read f b (at + 1))) None
read (both f g) b at = (read f b at, read g b (end f b at))

-- each optional byte is 0 or 1
abbrev pub marked : Field → List ℕ → ℕ → Bool
marked (number s) b at = true
marked (bytes n) b at = true
marked text b at = true
marked (option f) b at = mark_at b at && cond (has_at b at) (marked f b (at + 1)) true
marked (both f g) b at = marked f b at && marked g b (end f b at)

-- ---- records: a kind byte, then the fields

abbrev pub body : ℕ → (f : Field) → Value f → List ℕ
body kind f v = kind ∷ write f v

-- in a file it stands after its length of two bytes
unfoldable pub framed : List ℕ → List ℕ
framed b = two_bytes (length b) ++ b

-- the fields fill the record, and each optional byte is 0 or 1
abbrev pub fills : Field → List ℕ → Bool
fills f b = eqb (end f b 1) (length b) && marked f b 1

-- ---- the round trip

-- at a place of the bytes, these are left
pub record Left (b : List ℕ) (at : ℕ) (rest : List ℕ) : Type 0 where
  pub room : at ≤ length b
  pub is : drop at b ≡ rest

-- a value is read from a place, and these bytes are left behind it
pub record Reads (f : Field) (v : Value f) (b : List ℕ) (at : ℕ) (rest : List ℕ) : Type 0 where
  pub value : read f b at ≡ v
  pub left : Left b (end f b at) rest
  pub marks : marked f b at ≡ true

-- what was written of a value is read as the value
abbrev pub RoundTrip : Type 0
RoundTrip = (f : Field) (v : Value f) (b : List ℕ) (at : ℕ) (rest : List ℕ) → Fits f v → Left b at (write f v ++ rest) → Reads f v b at rest

-- and a record that was written is filled
abbrev pub RecordTrip : Type 0
RecordTrip = (kind : ℕ) (f : Field) (v : Value f) → Fits f v → (read f (body kind f v) 1 ≡ v) × (fills f (body kind f v) ≡ true)
