-- The value of an answer tells it from every other.
use Rattle.refusal.specs.declared.Accepted.TheVariants.{Taken, Outside}
use Rattle.std.specs.Prelude.{Err, Ok}
use mathlib.Core.Path.{◌≡◌, refl, sym, ap, ◌∙◌}
use mathlib.Core.Logic.{◌⊎◌, inl, inr}
use mathlib.Core.Bool.{Bool, true, false}
use mathlib.Core.List.{List, [], ◌∷◌}
use Prim.Native.Nat.{ℕ}
use lib.ListN.{get_or}
use Rattle.refusal.specs.declared.Refusal.{Refusal}
use Rattle.refusal.specs.declared.Refusal.TheVariants.{SettingsRange, ClockRange, IdLength, StopsFull, IdTaken, LocationType, ParentUnknown}
use Rattle.refusal.specs.declared.Refusal.TheVariants.{NameUnusable, FieldRange, TimesReversed, NoRoom, RuleType, PairTaken, Neighbours}
use Rattle.refusal.specs.declared.Refusal.TheVariants.{AlreadySearched, TimeText, FileVersion, RecordLength, RecordKind, DateWrong}
use Rattle.refusal.specs.declared.Refusal.TheVariants.{ServiceUnknown, ServicesFull, DisplayGroups, CallUnknown, LoadUnwritable}
use Rattle.refusal.specs.declared.Refusal.TheVariants.{BufferShort}
use Rattle.refusal.specs.Causes.{number_of}
use Rattle.refusal.specs.First.{answer_value, ValueTells, Answer}

-- by their numbers, which begin at 1
abbrev by_number_of : List Refusal
by_number_of =
    SettingsRange
    ∷ SettingsRange
    ∷ ClockRange
    ∷ IdLength
    ∷ StopsFull
    ∷ IdTaken
    ∷ LocationType
    ∷ ParentUnknown
    ∷ NameUnusable
    ∷ FieldRange
    ∷ TimesReversed
    ∷ NoRoom
    ∷ RuleType
    ∷ PairTaken
    ∷ Neighbours
    ∷ AlreadySearched
    ∷ TimeText
    ∷ FileVersion
    ∷ RecordLength
    ∷ RecordKind
    ∷ DateWrong
    ∷ ServiceUnknown
    ∷ ServicesFull
    ∷ DisplayGroups
    ∷ CallUnknown
    ∷ LoadUnwritable
    ∷ BufferShort
    ∷ []

abbrev answer_back_of : Bool ⊎ ℕ → Answer
answer_back_of (inl true) = Ok Taken
answer_back_of (inl false) = Ok Outside
answer_back_of (inr n) = Err (get_or by_number_of n SettingsRange)

cause-back : (r : Refusal) → get_or by_number_of (number_of r) SettingsRange ≡ r
cause-back SettingsRange = refl
cause-back ClockRange = refl
cause-back IdLength = refl
cause-back StopsFull = refl
cause-back IdTaken = refl
cause-back LocationType = refl
cause-back ParentUnknown = refl
cause-back NameUnusable = refl
cause-back FieldRange = refl
cause-back TimesReversed = refl
cause-back NoRoom = refl
cause-back RuleType = refl
cause-back PairTaken = refl
cause-back Neighbours = refl
cause-back AlreadySearched = refl
cause-back TimeText = refl
cause-back FileVersion = refl
cause-back RecordLength = refl
cause-back RecordKind = refl
cause-back DateWrong = refl
cause-back ServiceUnknown = refl
cause-back ServicesFull = refl
cause-back DisplayGroups = refl
cause-back CallUnknown = refl
cause-back LoadUnwritable = refl
cause-back BufferShort = refl

answer_back : (a : Answer) → answer_back_of (answer_value a) ≡ a
answer_back (Ok Taken) = refl
answer_back (Ok Outside) = refl
answer_back (Err r) = ap Err (cause-back r)

pub value_tells : ValueTells
value_tells a b e = sym (answer_back a) ∙ ap answer_back_of e ∙ answer_back b
