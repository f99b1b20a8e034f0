-- What a call is answered, in the order of RULES 16.2: 15, 9, outside for a lacking time, 10, outside, 11; and the table that it leaves.
use Rattle.std.specs.Option.{unwrap_or}
use Rattle.refusal.specs.declared.Accepted.TheVariants.{Taken, Outside}
use Rattle.calls.specs.declared.Call.{Call}
use Rattle.std.specs.Prelude.{ℕ, List, [], ◌∷◌, ◌++◌, Bool, not, cond, ◌&&◌, ◌||◌, get_or, ltb, leb, pos, None, Option, Err, Ok, is_none}
use Rattle.refusal.specs.declared.Refusal.TheVariants.{AlreadySearched, FieldRange, TimesReversed}
use Rattle.refusal.specs.First.{first_answer, is_refused, Answer}
use Rattle.settings.specs.declared.Settings.{Settings}
use Rattle.calls.specs.declared.CallInput.{CallInput}
use Rattle.calls.specs.declared.Table.{Table}
use Rattle.calls.specs.declared.window.Timed.{Timed}
use Rattle.calls.specs.Tried.{Tried}
use Rattle.calls.specs.Windows.{time_after, seen}
use Rattle.calls.specs.Tables.{fitted}
use Rattle.calls.specs.Sizes.{no_trip}

-- the stop is known, the trip not 65535, day at most 2, pickup and drop-off at most 3
unfoldable pub known : ℕ → CallInput → Bool
known stops i = ltb i.stop stops && ltb i.trip no_trip && leb i.day 2 && leb i.pickup 3 && leb i.drop_off 3

-- a time is absent
abbrev pub un_timed : CallInput → Bool
un_timed i = is_none i.arrival || is_none i.departure

-- arrival after departure
abbrev pub reversed : CallInput → Bool
reversed i = ltb (unwrap_or i.departure 0) (unwrap_or i.arrival 0)

-- what is asked of the fields, and of the times: 15, 9; absent time, 10
abbrev pub field_tests : Bool → ℕ → CallInput → List (Bool × Answer)
field_tests searched stops i = (searched, Err AlreadySearched) ∷ (not (known stops i), Err FieldRange) ∷ []

abbrev pub time_tests : CallInput → List (Bool × Answer)
time_tests i = (un_timed i, Ok Outside) ∷ (reversed i, Err TimesReversed) ∷ []

-- what is asked before the table: 15, 9, absent time, 10
unfoldable pub call_tests : Bool → ℕ → CallInput → List (Bool × Answer)
call_tests searched stops i = field_tests searched stops i ++ time_tests i

-- a time of the call, from the start
abbrev pub call_time : Settings → CallInput → Option ℕ → Option ℕ
call_time s i t = time_after (get_or s.epochs i.day (pos 0)) s.now (unwrap_or t 0)

-- a call beside its times from the start
abbrev pub timed_of : Settings → CallInput → Timed
timed_of s i = record { input = i; arrival = call_time s i i.arrival; departure = call_time s i i.departure }

-- a call with both times, as it is seen up to a horizon
abbrev pub call_seen : Settings → ℕ → CallInput → Option Call
call_seen s h i = seen h (call_time s i i.arrival) (call_time s i i.departure) i

-- outside if a time is absent
unfoldable pub window : Settings → ℕ → CallInput → Option Call
window s h i = cond (un_timed i) None (call_seen s h i)

-- outside, 11, or taken, with the table that the cuts leave
unfoldable pub call_fit : Settings → Table → CallInput → Tried
call_fit s t i = fitted t (call_time s i i.arrival) (call_time s i i.departure) i

-- a refusal leaves the table as it was given
abbrev pub ended : Table → Tried → Tried
ended t f = record { answer = f.answer; table = cond (is_refused f.answer) t f.table }

abbrev pub goes_on_of : Settings → Table → CallInput → Answer → Tried
goes_on_of s t i (Ok Taken) = ended t (call_fit s t i)
goes_on_of s t i (Ok Outside) = record { answer = Ok Outside; table = t }
goes_on_of s t i (Err r) = record { answer = Err r; table = t }

-- the whole call step, on the table: `searched` and `stops` are the load's
unfoldable pub call_on : Settings → Bool → ℕ → Table → CallInput → Tried
call_on s searched stops t i = goes_on_of s t i (first_answer (call_tests searched stops i))
