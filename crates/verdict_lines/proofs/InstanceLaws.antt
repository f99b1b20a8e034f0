-- By computation.
use mathlib.Core.Path.{refl}
use Rattle.fields.specs.Numbers.{u16_at, u32_at}
use Rattle.lines.specs.Decimal.{decimal_by, decimal, spaced}
use Rattle.verdict_lines.specs.Bytes.{leg_of, connection_of}
use Rattle.verdict_lines.specs.Words.{cause_text, verdict_text, verdict_line}
use Rattle.verdict_lines.specs.Instances.{Instances}

pub instances : Instances
unfolding u16_at u32_at decimal_by decimal spaced leg_of connection_of cause_text verdict_text verdict_line
instances = record { read = refl; listed = refl; short = refl; forbidden = refl }
