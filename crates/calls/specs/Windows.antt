-- `window`: a call's times from the start, and the call as it is seen up to a horizon h.
use Rattle.std.specs.Prelude.{ℕ, Bool, false, not, cond, ◌&&◌, ◌||◌, ltb, leb, eqb, ℤ, pos, negsuc, ◌+ℤ◌, ◌-ℤ◌, None, Option, Some, is_none}
use Rattle.settings.specs.Settings.{near}
use Rattle.calls.specs.declared.Call.{Call}
use Rattle.calls.specs.declared.CallInput.{CallInput}

-- a whole number as a time
abbrev pub time_of : ℤ → Option ℕ
time_of (pos n) = Some n
time_of (negsuc n) = None

-- a time is epoch + seconds − now; before the start, where the epoch or the start is beyond 2^40, which no opened load has
unfoldable pub time_after : ℤ → ℤ → ℕ → Option ℕ
time_after epoch now seconds = cond (near epoch && near now) (time_of (epoch +ℤ pos seconds -ℤ now)) None

-- a time after the horizon
abbrev pub after : ℕ → Option ℕ → Bool
after h None = false
after h (Some n) = ltb h n

-- a time in 0..horizon
abbrev pub within : ℕ → Option ℕ → Bool
within h None = false
within h (Some n) = leb n h

-- a time held to 0..horizon
abbrev pub held : ℕ → Option ℕ → ℕ
held h None = 0
held h (Some n) = cond (leb n h) n h

-- boardable (alightable) if the time lay there and the type is not 1
abbrev pub allowed : Bool → ℕ → Bool
allowed inside kind = inside && not (eqb kind 1)

-- on request if boardable (alightable) and of type 2 or 3
abbrev pub asked : Bool → ℕ → Bool
asked may kind = may && (eqb kind 2 || eqb kind 3)

-- a call with arrival a and departure d, held to 0..h
unfoldable pub seen_call : ℕ → Option ℕ → Option ℕ → CallInput → Call
seen_call h a d i = record {
  trip = i.trip;
  day = i.day;
  sequence = i.sequence;
  stop = i.stop;
  arrival = held h a;
  departure = held h d;
  board = allowed (within h d) i.pickup;
  alight = allowed (within h a) i.drop_off;
  board_request = asked (allowed (within h d) i.pickup) i.pickup;
  alight_request = asked (allowed (within h a) i.drop_off) i.drop_off;
}

-- outside: departure below 0, or arrival after the horizon
abbrev pub outside : ℕ → Option ℕ → Option ℕ → Bool
outside h a d = is_none d || after h a

unfoldable pub seen : ℕ → Option ℕ → Option ℕ → CallInput → Option Call
seen h a d i = cond (outside h a d) None (Some (seen_call h a d i))
