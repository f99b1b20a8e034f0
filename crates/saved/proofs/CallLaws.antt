-- Each call of a written load is taken again, in its place and with its marks.
use Rattle.refusal.specs.declared.Accepted.TheVariants.{Taken}
use Rattle.std.specs.Prelude.{Some, Ok}
use mathlib.Core.Path.{◌≡◌, refl, ap, ◌∙◌}
use mathlib.Core.Bool.{Bool, true, false, false≢true}
use mathlib.Core.List.{List, [], ◌∷◌}
use Prim.Native.Nat.{ℕ, zero, suc, ◌≤◌, ◌<◌}
use native.Mathlib.Omega.{arith}
use native.Mathlib.Numerals.{add-one}
use lib.Dec.{ltb, leb}
use lib.IntN.{ℤ, pos, ◌-ℤ◌, +ℤ_comm, +ℤ-neg_ℤ_cancel}
use lib.ListN.{length, get_or, take}
use borrow.Author.Tests.{lt-ltb, le-leb, le-ltb}
use Rattle.refusal.specs.First.{first_answer}
use Rattle.settings.specs.declared.Settings.{Settings}
use Rattle.settings.specs.Settings.{near}
use Rattle.stops.specs.declared.Stop.{Stop}
use Rattle.calls.specs.declared.Call.{Call}
use Rattle.calls.specs.declared.CallInput.{CallInput}
use Rattle.calls.specs.declared.Table.{Table}
use Rattle.calls.specs.declared.Uncut.{Uncut}
use Rattle.calls.specs.Windows.{time_of, time_after, allowed, asked, seen, seen_call}
use Rattle.calls.specs.Calls.{known, call_tests, call_seen, call_on}
use Rattle.calls.specs.Tables.{blank_call, put}
use Rattle.calls.specs.Sound.{All, CallSound, AtStop}
use Rattle.calls.specs.Uncut.{uncut_on}
use Rattle.calls.proofs.UncutLaws.{uncut-tells}
use Rattle.rules.specs.declared.Rule.{Rule}
use Rattle.week.specs.Weeks.{is_dated, undated_week}
use Rattle.load.specs.declared.Load.{Load}
use Rattle.load.specs.Load.{table_of, with_table}
use Rattle.load.specs.Steps.{plain_call, call_spec}
use Rattle.load.specs.FillStep.{call}
use Rattle.again.specs.Again.{add_spec_of}
use Rattle.steps.specs.Steps.{filling, stepped}
use Rattle.file.specs.Record.{kind_right, filled, step_in}
use Rattle.codec.specs.Kinds.{call_body}
use Rattle.codec.proofs.BackLaws.{back}
use Rattle.codec.specs.Parts.{at_start, type_of, call_input_of}
use Rattle.written.specs.Kept.{CallKept}
use Rattle.saved.specs.Saved.{Takes, call_record}
use Rattle.saved.proofs.FeedLaws.{takes}
use Rattle.saved.proofs.SlotLaws.{up_to, up_more, load_of}

-- ---- one of the first n

pub all-at : {A : Type 0} (P : A → Type 0) (xs : List A) (d : A) (n k : ℕ) → k < n → n ≤ length xs → All P (take n xs) → P (get_or xs k d)
all-at P [] d n k h g a = absurd (omega arith)
all-at P (x ∷ xs) d zero k h g a = absurd (omega arith)
all-at P (x ∷ xs) d (suc n) zero h g a = a.0
all-at P (x ∷ xs) d (suc n) (suc k) h g a = all-at P xs d n k (omega arith) (omega arith) a.1

-- ---- times: every epoch is the start

from_start : (z : ℤ) (n : ℕ) → near z ≡ true → time_after z z n ≡ Some n
unfolding time_after
from_start z n h = rw h (ap time_of (ap (λ (x : ℤ). x -ℤ z) (+ℤ_comm z (pos n)) ∙ +ℤ-neg_ℤ_cancel (pos n) z))

epoch-is : (s : Settings) (day : ℕ) → day ≤ 2 → get_or (at_start s).epochs day (pos 0) ≡ s.now
unfolding at_start
epoch-is s zero h = refl
epoch-is s (suc zero) h = refl
epoch-is s (suc (suc zero)) h = refl
epoch-is s (suc (suc (suc n))) h = absurd (omega arith)

starts : (s : Settings) (day m : ℕ) → day ≤ 2 → near s.now ≡ true
    → time_after (get_or (at_start s).epochs day (pos 0)) (at_start s).now m ≡ Some m
unfolding at_start
starts s day m h clock = ap (λ (e : ℤ). time_after e s.now m) (epoch-is s day h) ∙ from_start s.now m clock

-- ---- marks: by the type that is written

module _ (h : ℕ) (c : Call) (sound : CallSound h c) where
  -- the call as its own record shows it
  seen_self : seen_call h (Some c.arrival) (Some c.departure) (call_input_of c) ≡ c
  unfolding seen_call call_input_of type_of
  seen_self =
      let a : leb c.arrival h ≡ true = le-leb c.arrival h (omega (arith, sound.ordered, sound.due)) in
      let d : leb c.departure h ≡ true = le-leb _ _ sound.due in
      rw (a, d) (λ t. record {
        trip = c.trip;
        day = c.day;
        sequence = c.sequence;
        stop = c.stop;
        arrival = c.arrival;
        departure = c.departure;
        board = may c.board c.board_request t;
        alight = may c.alight c.alight_request t;
        board_request = ask c.board c.board_request sound.board_marked t;
        alight_request = ask c.alight c.alight_request sound.alight_marked t;
      })
    where
      may : (x y : Bool) → allowed true (type_of x y) ≡ x
      may true true = refl
      may true false = refl
      may false y = refl

      ask : (x y : Bool) → (y ≡ true → x ≡ true) → asked (allowed true (type_of x y)) (type_of x y) ≡ y
      ask true true m = refl
      ask true false m = refl
      ask false true m = absurd (false≢true (m refl))
      ask false false m = refl

  seen-in : seen h (Some c.arrival) (Some c.departure) (call_input_of c) ≡ Some c
  unfolding seen
  seen-in =
      let a : ltb h c.arrival ≡ false = le-ltb h c.arrival (omega (arith, sound.ordered, sound.due)) in
      rw a (ap Some seen_self)

types-known : (x y : Bool) → leb (type_of x y) 3 ≡ true
unfolding type_of
types-known true true = refl
types-known true false = refl
types-known false y = refl

-- ---- the call of number k

module _ (s : Settings) (n : ℕ) (c : Call) (sound : CallSound 21600 c) (told : CallKept c) (at_stop : c.stop < n)
    (clock : near s.now ≡ true) where
  no_test : first_answer (call_tests false n (call_input_of c)) ≡ Ok Taken
  unfolding call_tests first_answer call_input_of known
  no_test =
      let b : ltb c.stop n ≡ true = lt-ltb _ _ at_stop in
      let t : ltb c.trip 65535 ≡ true = lt-ltb _ _ told.trip_known in
      let d : leb c.day 2 ≡ true = le-leb _ _ told.day_known in
      let r : ltb c.departure c.arrival ≡ false = le-ltb c.departure c.arrival sound.ordered in
      rw (b, t, d, types-known c.board c.board_request, types-known c.alight c.alight_request, r) refl

  shown-in : call_seen (at_start s) 21600 (call_input_of c) ≡ Some c
  unfolding call_input_of
  shown-in =
      (λ t. seen 21600 (starts s c.day c.arrival told.day_known clock t) (starts s c.day c.departure told.day_known clock t)
      (call_input_of c)) ∙ seen-in 21600 c sound

  goes_in : (k : ℕ) → k < 512 → uncut_on (at_start s) false n k 21600 (call_input_of c) ≡ Uncut.In c
  unfolding uncut_on
  goes_in k h = rw (no_test, shown-in, lt-ltb k 512 h) refl

  on-table : (t : Table) → t.count < 512 → t.horizon ≡ 21600
      → call_on (at_start s) false n t (call_input_of c) ≡ record { answer = Ok Taken; table = put t c }
  on-table t h e =
      (uncut-tells (at_start s) false n t (call_input_of c)).goes_in c
      (ap (λ (x : ℕ). uncut_on (at_start s) false n t.count x (call_input_of c)) e ∙ goes_in t.count h)

call-taken : (l : Load) (i : CallInput) (c : Call) → is_dated l.week ≡ false
    → call_on l.settings l.searched l.stop_count (table_of l) i ≡ record { answer = Ok Taken; table = put (table_of l) c }
    → call_spec l [] i ≡ record { answer = Ok Taken; load = with_table l (put (table_of l) c) }
unfolding call_spec plain_call
call-taken l i c d e = rw (d, e) refl

step_is : (c : Call) → step_in (call_record c) ≡ filling (call [] (call_input_of c))
unfolding step_in call_record call_body
step_is c = ap (λ (i : CallInput). filling (call [] i)) (back.call (call_input_of c)).1

filled_is : (c : Call) → filled false (call_record c) ≡ true
unfolding filled call_record call_body
filled_is c = (back.call (call_input_of c)).0

module _ (s : Settings) (n : ℕ) (calls : List Call) (k : ℕ) (long : length calls ≡ 512) (room : k < 512)
    (sound : CallSound 21600 (get_or calls k blank_call))
    (told : CallKept (get_or calls k blank_call)) (at_stop : AtStop n (get_or calls k blank_call)) (clock : near s.now ≡ true)
    (stops : List Stop) (rules : List Rule) (ruleCount : ℕ) where
  abbrev at : ℕ → Load
  at m = load_of (at_start s) stops n rules ruleCount (up_to blank_call 512 calls m) m

  no-dates : is_dated (at k).week ≡ false
  unfolding undated_week
  no-dates = refl

  stepped-is : add_spec_of (at k) [] (call_input_of (get_or calls k blank_call)) ≡ record { answer = Ok Taken; load = at (suc k) }
  unfolding add_spec_of
  stepped-is =
      let e = up_more blank_call 512 calls long k blank_call room in
      call-taken (at k) (call_input_of (get_or calls k blank_call)) (get_or calls k blank_call) no-dates
      (on-table s n (get_or calls k blank_call) sound told at_stop clock (table_of (at k)) room refl)
      ∙ (λ t. record { answer = Ok Taken; load = load_of (at_start s) stops n rules ruleCount (e t) (add-one k t) })

  pub call-takes : Takes (at k) (call_record (get_or calls k blank_call)) (at (suc k))
  unfolding call_record call_body kind_right
  call-takes = takes (at k) (at (suc k)) 3 _ refl (filled_is (get_or calls k blank_call))
      (ap (stepped (at k)) (step_is (get_or calls k blank_call)) ∙ stepped-is) refl
