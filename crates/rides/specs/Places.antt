-- The lent arrays and the places of calls by their structs.
use Rattle.std.specs.Prelude.{◌≡◌, true, List, ℕ, ◌-◌, ◌<◌}
use Rattle.laws.specs.Lists.{take_while, span}
use Rattle.laws.specs.Bits.{bits_of}
use Rattle.search_input.specs.Feed.{call_at, same_run}
use Rattle.rides.specs.Rows.{Sheet, Joins}
use Rattle.rides.specs.Sheets.{sheet_of, joins_of}
use Rattle.rides.specs.declared.bits.Digits.{Digits}
use Rattle.rides.specs.declared.call_list.Ride.{Ride}
use Rattle.rides.specs.declared.later.Later.{Later}
use Rattle.rides.specs.declared.lent.Lent.{Lent}

abbrev pub sheet_in : Lent → Sheet
sheet_in l = sheet_of l.calls.feed.now

abbrev pub joins_in : Lent → Joins
joins_in l = joins_of l.calls.feed.now l.changes.now

-- what an iterator has left: the set digits
abbrev pub digits_left : Digits → List ℕ
digits_left d = bits_of d.left

-- the places up to n, n left out, as far as their calls are of the trip and day of its call
abbrev pub later_left : Later → List ℕ
later_left r = take_while (λ k. same_run r.call (call_at r.calls.feed.now k)) (span r.next (r.calls.n - r.next))

-- one can ride so: r alights at one of the first n calls, on the trip and day of the call where it boards, and one can alight there
pub record IsRun (feed : List ℕ) (n : ℕ) (r : Ride) : Type 0 where
  pub within : r.alight < n
  pub same : same_run (call_at feed r.board) (call_at feed r.alight) ≡ true

pub record IsRide (feed : List ℕ) (n : ℕ) (r : Ride) : Type 0 where
  pub run : IsRun feed n r
  pub alights : (call_at feed r.alight).alight ≡ true
