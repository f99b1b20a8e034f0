-- The answer's lines, once they are put at the start of the buffer.
use Rattle.refusal.specs.First.{Answer}
use mathlib.Core.Path.{◌≡◌, sym}
use lib.Seq.{length-take-le}
use mathlib.Core.Bool.{true, false}
use mathlib.Core.List.{List}
use Prim.Native.Nat.{ℕ, ◌≤◌}
use native.Mathlib.Omega.{arith}
use lib.ListN.{length, take}
use Rattle.load.specs.declared.Load.{Load}
use Rattle.lines.specs.Lines.{Counts, lines_of}
use Rattle.lines.specs.Rides.{ride_lines_of, lines_for, lines_most}
use Rattle.buffer.specs.declared.Buffer.{Buffer}
use Rattle.buffer.specs.Put.{Put}
use Rattle.buffer.proofs.PutLaws.{put-text, put-within-room}

module _ (o : Answer) (l : Load) {a b : Buffer} (start : a.len ≡ 0) where
  counts : {m : ℕ} {xs : List ℕ} → Put m xs a b → m ≤ length a.out.now → Counts b.len b.out.now
  counts p h = let n = put-within-room p start h in (n, sym (length-take-le b.len b.out.now n))

  pub plain_lines : length a.out.now ≡ 4096 → Put (lines_most false) (lines_for false o l) a b
      → (take b.len b.out.now ≡ lines_of o l) × Counts b.len b.out.now
  unfolding lines_for lines_most
  plain_lines n p = (put-text p start (omega arith), counts p (omega arith))

  pub rides-lines : length a.out.now ≡ 16384 → Put (lines_most true) (lines_for true o l) a b
      → (take b.len b.out.now ≡ ride_lines_of o l) × Counts b.len b.out.now
  unfolding lines_for lines_most
  rides-lines n p = (put-text p start (omega arith), counts p (omega arith))
