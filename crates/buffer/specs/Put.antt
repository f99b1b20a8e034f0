-- Bytes put into a buffer one after the other.
use Rattle.std.specs.Prelude.{ℕ, ◌+◌, ◌≤◌, ◌≡◌, List, length, min}
use Rattle.std.proofs.lemmas.List.Edits.{sets}
use Rattle.buffer.specs.declared.Buffer.{Buffer}

-- `bytes`, at most `most` of them, were put into the buffer that was lent: they stand where it was written up to, those past its end left
-- out, and all are counted, as far as a usize counts
pub record Put (most : ℕ) (bytes : List ℕ) (before after : Buffer) : Type 0 where
  pub same : after.out.ghost_name ≡ before.out.ghost_name
  pub small : length bytes ≤ most
  pub stored : after.out.now ≡ sets before.out.now before.len bytes
  pub behind : after.len ≡ min (before.len + length bytes) 18446744073709551615
