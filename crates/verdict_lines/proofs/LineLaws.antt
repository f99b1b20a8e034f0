-- The lines of connections, and what stands at the start of the buffer that they were put into.
use mathlib.Core.Path.{◌≡◌, ap}
use mathlib.Core.List.{List}
use Prim.Native.Nat.{ℕ, ◌*◌, ◌/◌, ◌≤◌, min}
use native.Mathlib.Omega.{arith}
use lib.ListN.{length, take}
use lib.Seq.{sets}
use Rattle.std.specs.Simd.{first_chunks}
use Rattle.laws.specs.Lists.{concat_map}
use Rattle.load.specs.declared.Load.{Load}
use Rattle.buffer.specs.declared.Buffer.{Buffer}
use Rattle.buffer.specs.Put.{Put}
use Rattle.buffer.proofs.PutLaws.{put_as, put-within, put-text, put-long}
use Rattle.verdict_lines.specs.Lines.{connection_line, verdict_lines}

pub lines-put : (l : Load) (b : List ℕ) {cs : List (List ℕ)} {x y : Buffer} → cs ≡ first_chunks 36 (length b / 36) b
    → length cs ≡ length b / 36 → Put (101 * length cs) (concat_map (connection_line l) cs) x y
    → Put (101 * (length b / 36)) (verdict_lines l b) x y
unfolding verdict_lines
lines-put l b e n p = put_as (ap (concat_map (connection_line l)) e) (rw n at p)

module _ {m : ℕ} {xs : List ℕ} {a b : Buffer} (p : Put m xs a b) (start : a.len ≡ 0) where
  pub put-short : b.out.now ≡ sets a.out.now 0 xs
  put-short = rw start at p.stored

  pub put-counted : b.len ≡ min (length xs) 18446744073709551615
  put-counted = omega (arith, p.behind)

  pub put-most : b.len ≤ m
  put-most = omega (arith, p.behind, p.small)

  -- a slice is no longer than an isize counts, so what it has room for is counted
  pub put-fits : {ys : List ℕ} → b.len ≤ length ys → ys ≡ b.out.now → take b.len ys ≡ xs
  put-fits h e =
      let n : length b.out.now ≡ length a.out.now = put-long p start in
      let k : length xs ≤ length a.out.now = omega (arith, put-counted, b.room, ap length e) in
      rw e (put-text (put-within (length xs) (omega arith) p) start k)
