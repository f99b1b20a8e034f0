-- What a load says of connections: of each, which is 36 bytes, the line of its verdict. Bytes at the end that are fewer are left out.
use Rattle.std.specs.Prelude.{ℕ, ◌/◌, List, length}
use Rattle.std.specs.Simd.{first_chunks}
use Rattle.laws.specs.Lists.{concat_map}
use Rattle.load.specs.declared.Load.{Load}
use Rattle.verdict.specs.Verdicts.{verdict_of}
use Rattle.verdict_lines.specs.Bytes.{connection_of}
use Rattle.verdict_lines.specs.Words.{verdict_line}

unfoldable pub connection_line : Load → List ℕ → List ℕ
connection_line l b = verdict_line (verdict_of l (connection_of b))

unfoldable pub verdict_lines : Load → List ℕ → List ℕ
verdict_lines l b = concat_map (connection_line l) (first_chunks 36 (length b / 36) b)
