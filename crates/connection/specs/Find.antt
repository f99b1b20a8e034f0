-- The calls that a leg names: those of its trip and day with its two sequences.
use Rattle.std.specs.Prelude.{cond, List, ℕ, ◌-◌, eqb, get_or, None, Option, Some, unwrap_or}
use Rattle.calls.specs.declared.Call.{Call}
use Rattle.calls.specs.Tables.{blank_call}
use Rattle.calls.specs.declared.CallKey.{CallKey}
use Rattle.withdrawal.specs.Removal.{last_of, has_key}
use Rattle.connection.specs.declared.Leg.{Leg}
use Rattle.connection.specs.declared.FoundLeg.{FoundLeg}
use Rattle.connection.specs.declared.Way.{Way}

abbrev pub leg_at : List Leg → ℕ → Leg
leg_at legs i = get_or legs i (record { trip = 0; day = 0; board = 0; alight = 0 })

abbrev pub key_of : Leg → ℕ → CallKey
key_of g sequence = record { trip = g.trip; day = g.day; sequence = sequence }

abbrev pub board_key : Leg → CallKey
board_key g = key_of g g.board

abbrev pub alight_key : Leg → CallKey
alight_key g = key_of g g.alight

-- the call with the key; of several, which no searched load has, the last
unfoldable pub find_in : List Call → CallKey → Option Call
find_in cs k = cond (eqb (last_of (has_key k) cs) 0) None (Some (get_or cs (last_of (has_key k) cs - 1) blank_call))

-- where a leg boards and where it alights; the blank call where there is no such call
abbrev pub boards : FoundLeg → Call
boards f = unwrap_or f.board blank_call

abbrev pub alights : FoundLeg → Call
alights f = unwrap_or f.alight blank_call

unfoldable pub find_leg : List Call → Leg → FoundLeg
find_leg cs g = record { board = find_in cs (board_key g); alight = find_in cs (alight_key g) }

unfoldable pub way_of : List Call → List Leg → Way
way_of cs legs = record { first = find_leg cs (leg_at legs 0); second = find_leg cs (leg_at legs 1); third = find_leg cs (leg_at legs 2) }
