-- What a call is answered by the table, and the table after it.
use Rattle.std.specs.Prelude.{Result, Err, Ok}
use Rattle.refusal.specs.declared.Refusal.{Refusal}
use Rattle.refusal.specs.First.{Answer}
use Rattle.calls.specs.declared.Table.{Table}
use Rattle.calls.specs.declared.Fitted.{Fitted}

pub record Tried : Type 0 where
  pub answer : Answer
  pub table : Table

-- what is handed back of a call tried on a table: where it is sent back, the table is the one that was given
abbrev pub tried : Table → Result Fitted Refusal → Tried
tried t (Ok f) = record { answer = Ok f.accepted; table = f.table }
tried t (Err r) = record { answer = Err r; table = t }
