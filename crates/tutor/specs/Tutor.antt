-- "If a candidate finds a connection that the display doesn't list, may I mark it wrong?" From the bytes that are read to those that are
-- written: which lines, in which order, up to which horizon. No definition of the program stands here but `printed`.
-- RULES 8.5 to 8.7, 13.
use Rattle.refusal.specs.First.{Answer}
use Rattle.std.specs.Prelude.{◌≡◌, true, false, ℕ, ◌≤◌, None, Err}
use mathlib.Core.List.{List, [], Memᴰ}
use Rattle.laws.specs.Lists.{All}
use Rattle.refusal.specs.declared.Refusal.{Refusal}
use Rattle.settings.specs.declared.Settings.{Settings}
use Rattle.profile.specs.declared.Journey.{Journey}
use Rattle.steps.specs.Steps.{Step}
use Rattle.file.specs.File.{read_spec_of}
use Rattle.lines.specs.Lines.{lines_of}
use Rattle.comparison.specs.Order.{EqualsOrBeats}
use Rattle.comparison.specs.Kept.{Holds}
use Rattle.comparison.specs.OfferOrder.{Offered}
use Rattle.comparison.specs.Falls.{Falls, at}
use Rattle.comparison.specs.Taken.{State, fresh}
use Rattle.comparison.specs.Admitted.{Admits}
use Rattle.comparison.specs.Feeds.{feed_of}
use Rattle.comparison.specs.Runs.{Runs}
use Rattle.tutor.specs.Paper.{Bytes, Paper}
use Rattle.tutor.specs.Printed.{RefusedLine, Lines}

-- what the program writes for the bytes that it reads: `reader: read()`, and of its answer and load `lines: lines()`
abbrev pub printed : List ℕ → List ℕ
printed xs = lines_of (read_spec_of xs).answer (read_spec_of xs).reader.load

abbrev pub NotRefused : Answer → Type 0
NotRefused a = (r : Refusal) → a ≡ Err r → ⊥

-- of what was typed in, the lines with a horizon
pub record Listed (s : Settings) (v : State) (lines : List ℕ) : Type 0 where
  pub journeys : List Journey
  pub horizon : ℕ
  pub limits : ℕ
  pub says : Lines journeys horizon limits lines
  -- a connection that is admitted and due by the horizon printed is equalled or beaten by one of the lines
  pub none_better : (j : Journey) → Admits (feed_of s v) j → j.arrival ≤ horizon → (k : Journey) × Memᴰ k journeys × EqualsOrBeats k j
  -- and each line is of one that is admitted and due by the horizon
  pub each_made : (k : Journey) → Memᴰ k journeys → Admits (feed_of s v) k × (k.arrival ≤ horizon)
  -- all that are admitted, in the order of offers
  pub offers : List Journey
  pub offered : Offered (feed_of s v) offers
  -- the lines are exactly those due by the horizon printed that none other beats, of equals the first offered, in order
  pub holds : Holds horizon offers journeys
  -- horizon and mark: from the table's, 21600 and 0 until a 513th call cuts it, they change only by a 65th journey as the offers come
  pub falls : Falls [] v.horizon v.limits offers (at horizon limits)

-- the bytes say settings and steps, none of which is refused; by what is taken of them, the lines
pub record Answers (xs lines : List ℕ) : Type 0 where
  pub settings : Settings
  pub steps : List Step
  pub answers : List Answer
  pub end : State
  pub said : Paper xs settings steps
  pub runs : Runs settings (fresh None) steps answers end
  pub none_refused : All NotRefused answers
  -- no load file holds a search that was stopped
  pub finished : end.stopped ≡ None
  pub searched : end.searched ≡ true → Listed settings end lines
  -- without a search: no line of a journey, horizon and mark of the table
  pub unsearched : end.searched ≡ false → Lines [] end.horizon end.limits lines

-- of every byte string that is not refused
abbrev pub TutorsAnswer : Type 0
TutorsAnswer = (xs : List ℕ) → Bytes xs → ((n : ℕ) → RefusedLine n (printed xs) → ⊥) → Answers xs (printed xs)
