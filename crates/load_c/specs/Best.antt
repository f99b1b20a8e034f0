-- Best's answer as one number.
use Rattle.profile.specs.declared.Journey.{Journey}
use Rattle.refusal.specs.First.{is_refused}
use Rattle.best.specs.Best.{best_spec}
use Rattle.file.specs.declared.RecordResult.{RecordResult}
use Rattle.std.specs.Prelude.{cond, ℕ, ◌+◌, ◌*◌, pos, None, Option, Some}

-- leave × 2^16 + arrival; 2^32 for none
unfoldable pub times_of : Option Journey → ℕ
times_of (Some j) = j.leave * 65536 + j.arrival
times_of None = 4294967296

-- of a file at second 0; none where it is refused
unfoldable pub times_in : RecordResult → ℕ
times_in t = times_of (cond (is_refused t.answer) None (best_spec t.reader.load (pos 0)))
