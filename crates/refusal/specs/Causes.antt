-- The 26 causes for which a step is sent back, each with its number. RULES 16.1.
use Rattle.std.specs.Prelude.{ℕ}
use Rattle.refusal.specs.declared.Refusal.{Refusal}
use Rattle.refusal.specs.declared.Refusal.TheVariants.{SettingsRange, ClockRange, IdLength, StopsFull, IdTaken, LocationType}
use Rattle.refusal.specs.declared.Refusal.TheVariants.{ParentUnknown, NameUnusable, FieldRange, TimesReversed, NoRoom, RuleType}
use Rattle.refusal.specs.declared.Refusal.TheVariants.{PairTaken, Neighbours, AlreadySearched, TimeText, FileVersion, RecordLength}
use Rattle.refusal.specs.declared.Refusal.TheVariants.{RecordKind, DateWrong, ServiceUnknown, ServicesFull, DisplayGroups, CallUnknown}
use Rattle.refusal.specs.declared.Refusal.TheVariants.{LoadUnwritable, BufferShort}

abbrev pub number_of : Refusal → ℕ
number_of SettingsRange = 1
number_of ClockRange = 2
number_of IdLength = 3
number_of StopsFull = 4
number_of IdTaken = 5
number_of LocationType = 6
number_of ParentUnknown = 7
number_of NameUnusable = 8
number_of FieldRange = 9
number_of TimesReversed = 10
number_of NoRoom = 11
number_of RuleType = 12
number_of PairTaken = 13
number_of Neighbours = 14
number_of AlreadySearched = 15
number_of TimeText = 16
number_of FileVersion = 17
number_of RecordLength = 18
number_of RecordKind = 19
number_of DateWrong = 20
number_of ServiceUnknown = 21
number_of ServicesFull = 22
number_of DisplayGroups = 23
number_of CallUnknown = 24
number_of LoadUnwritable = 25
number_of BufferShort = 26
