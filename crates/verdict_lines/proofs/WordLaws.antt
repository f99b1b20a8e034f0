-- The words of causes and verdicts, once they are put: within the most bytes of any.
use mathlib.Core.Path.{◌≡◌}
use mathlib.Core.List.{List}
use Prim.Native.Nat.{ℕ, ◌≤◌}
use native.Mathlib.Omega.{arith}
use Rattle.buffer.specs.declared.Buffer.{Buffer}
use Rattle.buffer.specs.Put.{Put}
use Rattle.buffer.proofs.PutLaws.{put_as, put-within}
use Rattle.connection.specs.declared.Cause.{Cause}
use Rattle.listing.specs.declared.Verdict.{Verdict}
use Rattle.verdict_lines.specs.Words.{cause_text, verdict_text}

pub cause-put : {x y : Cause} {k : ℕ} {xs : List ℕ} {a b : Buffer} → x ≡ y → xs ≡ cause_text y → Put k xs a b → k ≤ 89
    → Put 89 (cause_text x) a b
cause-put e f p h = rw e (put_as f (put-within 89 (omega (arith, p.small)) p))

pub verdict-put : {x y : Verdict} {k : ℕ} {xs : List ℕ} {a b : Buffer} → x ≡ y → xs ≡ verdict_text y → Put k xs a b → k ≤ 100
    → Put 100 (verdict_text x) a b
verdict-put e f p h = rw e (put_as f (put-within 100 (omega (arith, p.small)) p))
