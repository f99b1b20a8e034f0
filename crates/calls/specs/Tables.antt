-- The table of calls, and what a 513th call does to it.
use Rattle.refusal.specs.declared.Accepted.TheVariants.{Taken, Outside}
use Rattle.std.specs.Prelude.{ℕ, zero, suc, ◌+◌, ◌-◌, ◌/◌, List, Bool, false, cond, take, length, set, ltb, leb, None, Option, Some, Err}
use Rattle.std.specs.Prelude.{Ok}
use Rattle.calls.specs.declared.Call.{Call}
use Rattle.calls.specs.declared.CallInput.{CallInput}
use Rattle.calls.specs.declared.CallKey.{CallKey}
use Rattle.calls.specs.declared.Table.{Table}
use Rattle.calls.specs.Tried.{Tried}
use Rattle.refusal.specs.declared.Refusal.TheVariants.{NoRoom}
use Rattle.laws.specs.Lists.{gather, padded}
use Rattle.calls.specs.Windows.{seen}
use Rattle.calls.specs.Sizes.{call_room}
use Rattle.profile.specs.Sizes.{least_horizon}

-- what an unused slot holds
abbrev pub blank_call : Call
blank_call = record {
  trip = 0;
  day = 0;
  sequence = 0;
  stop = 0;
  arrival = 0;
  departure = 0;
  board = false;
  alight = false;
  board_request = false;
  alight_request = false;
}

-- the key of a call
abbrev pub held_key : Call → CallKey
held_key c = record { trip = c.trip; day = c.day; sequence = c.sequence }

-- a call that arrives no later
abbrev pub due_by : ℕ → Call → Bool
due_by h c = leb c.arrival h

-- a departure after h is held to it, and bars boarding
unfoldable pub trim : ℕ → Call → Call
trim h c = cond (leb c.departure h) c (record {
  trip = c.trip;
  day = c.day;
  sequence = c.sequence;
  stop = c.stop;
  arrival = c.arrival;
  departure = h;
  board = false;
  alight = c.alight;
  board_request = false;
  alight_request = c.alight_request;
})

-- the calls of a list that a cut to h leaves
abbrev pub trim_all : ℕ → List Call → List Call
trim_all h l = gather (due_by h) (trim h) l

-- the horizon falls to h: limits is 1, calls arriving later go, later departures are held
unfoldable pub cut : ℕ → Table → Table
cut h t = record {
  calls = padded blank_call call_room (trim_all h (take t.count t.calls));
  count = length (trim_all h (take t.count t.calls));
  horizon = h;
  limits = 1;
}

-- the next smaller horizon
abbrev pub less : ℕ → ℕ
less h = h - h / 4

-- the table with one call more
abbrev pub put : Table → Call → Table
put t c = record { calls = set t.calls t.count c; count = t.count + 1; horizon = t.horizon; limits = t.limits }

-- a call that is seen so goes in where there is room; what else happens is handed in
abbrev pub entered : Table → Option Call → Tried → Tried
entered t None full = record { answer = Ok Outside; table = t }
entered t (Some c) full = cond (ltb t.count call_room) (record { answer = Ok Taken; table = put t c }) full

-- a call put in, after at most n cuts: a full table is cut and the call tried anew, unless the horizon would fall below 3600
abbrev pub fitted_in : ℕ → Table → Option ℕ → Option ℕ → CallInput → Tried
fitted_in zero t a d i = entered t (seen t.horizon a d i) (record { answer = Err NoRoom; table = t })
fitted_in (suc n) t a d i =
    entered t (seen t.horizon a d i)
    (cond (ltb (less t.horizon) least_horizon) (record { answer = Err NoRoom; table = t }) (fitted_in n (cut (less t.horizon) t) a d i))

-- each cut takes a second or more off the horizon, so there are no more than it has
unfoldable pub fitted : Table → Option ℕ → Option ℕ → CallInput → Tried
fitted t a d i = fitted_in t.horizon t a d i
