-- A call taken out of the table: the last of its trip, day and sequence.
use Rattle.refusal.specs.declared.Accepted.TheVariants.{Taken}
use Rattle.std.specs.Prelude.{ℕ, suc, ◌-◌, ◌≡◌, Bool, true, false, cond, not, ◌&&◌, List, [], ◌∷◌, ◌++◌, eqb, ltb, leb, length, take}
use Rattle.std.specs.Prelude.{drop, None, Option, Some, Ok}
use Rattle.laws.specs.Lists.{anyb}
use Rattle.settings.specs.declared.Settings.{Settings}
use Rattle.calls.specs.declared.Call.{Call}
use Rattle.calls.specs.declared.CallInput.{CallInput}
use Rattle.calls.specs.declared.Table.{Table}
use Rattle.calls.specs.Tables.{blank_call}
use Rattle.calls.specs.Calls.{call_on, window}
use Rattle.calls.specs.Shown.{table_calls, Shows}
use Rattle.calls.specs.Sound.{TableSound, StopsKnown}
use Rattle.calls.specs.declared.CallKey.{CallKey}
use Rattle.calls.specs.Sizes.{no_trip}

module _ {A : Type 0} (p : A → Bool) where
  -- the place of the last element that passes the test, counted from 1; 0 where none does
  abbrev pub last_of : List A → ℕ
  last_of [] = 0
  last_of (x ∷ xs) = cond (anyb p xs) (suc (last_of xs)) (cond (p x) 1 0)

  -- the list without that element
  abbrev pub without_last : List A → List A
  without_last [] = []
  without_last (x ∷ xs) = cond (anyb p xs) (x ∷ without_last xs) (cond (p x) xs (x ∷ xs))

-- a place counted from 1; 0 for none
abbrev pub counted : Option ℕ → ℕ
counted None = 0
counted (Some n) = suc n

-- an array without the element at n: those behind it move down, and b stands last; past the end nothing goes
abbrev pub closed_up : {A : Type 0} → A → ℕ → List A → List A
closed_up b n l = cond (leb (length l) n) l (take n l ++ drop (suc n) l ++ (b ∷ []))

-- the key of a call, as it is handed in
abbrev pub key_of : CallInput → CallKey
key_of i = record { trip = i.trip; day = i.day; sequence = i.sequence }

unfoldable pub has_key : CallKey → Call → Bool
has_key k c = eqb c.trip k.trip && (eqb c.day k.day && eqb c.sequence k.sequence)

-- trip 65535 and days above 2 are no call's
unfoldable pub key_known : CallKey → Bool
key_known k = ltb k.trip no_trip && leb k.day 2

-- the table without the last call with the key, of a table that has one; horizon and limits stay: a withdrawal never widens
unfoldable pub withdrawn : Table → CallKey → Table
withdrawn t k = record {
  calls = closed_up blank_call (last_of (has_key k) (table_calls t) - 1) t.calls;
  count = t.count - 1;
  horizon = t.horizon;
  limits = t.limits;
}

-- ---- what is claimed

-- of several the last goes, and the others stay in order
pub record LastGoes {A : Type 0} (p : A → Bool) (xs : List A) : Type 0 where
  pub before : List A
  pub gone : A
  pub behind : List A
  pub whole : xs ≡ before ++ (gone ∷ behind)
  pub passes : p gone ≡ true
  pub last : anyb p behind ≡ false
  pub place : last_of p xs ≡ suc (length before)
  pub left : without_last p xs ≡ before ++ behind

abbrev pub WithoutLast : Type 0
WithoutLast = (p : Call → Bool) (xs : List Call) → anyb p xs ≡ true → LastGoes p xs

-- the place is 0 exactly where no element passes
abbrev pub PlaceTells : Type 0
PlaceTells = (p : Call → Bool) (xs : List Call) → eqb (last_of p xs) 0 ≡ not (anyb p xs)

-- a sound table stays sound, and its calls are the others, in order
pub record Leaves (t : Table) (k : CallKey) : Type 0 where
  pub calls : table_calls (withdrawn t k) ≡ without_last (has_key k) (table_calls t)
  pub sound : TableSound (withdrawn t k)
  pub known : (n : ℕ) → StopsKnown n t → StopsKnown n (withdrawn t k)

abbrev pub WithdrawnLeaves : Type 0
WithdrawnLeaves = (t : Table) (k : CallKey) → TableSound t → anyb (has_key k) (table_calls t) ≡ true → Leaves t k

-- withdrawing straight after a call was taken gives back the table, if taking it didn't shrink the horizon
abbrev pub TableTakenBack : Type 0
TableTakenBack = (s : Settings) (b : Bool) (n : ℕ) (t : Table) (i : CallInput) → TableSound t
    → (call_on s b n t i).answer ≡ Ok Taken → (call_on s b n t i).table.horizon ≡ t.horizon
    → withdrawn (call_on s b n t i).table (key_of i) ≡ t

-- a call handed in that the window shows, with the key: one that a cut dropped doesn't count
abbrev pub shown_key : CallKey → Option Call → Bool
shown_key k (Some c) = has_key k c
shown_key k None = false

abbrev pub named_in : Settings → ℕ → CallKey → CallInput → Bool
named_in s h k i = shown_key k (window s h i)

-- a table that shows these calls shows, after the withdrawal, those without the last that has the key in it
abbrev pub WithdrawnShows : Type 0
WithdrawnShows = (s : Settings) (t : Table) (k : CallKey) (is : List CallInput) → TableSound t → anyb (has_key k) (table_calls t) ≡ true
    → Shows s t is → Shows s (withdrawn t k) (without_last (named_in s t.horizon k) is)
