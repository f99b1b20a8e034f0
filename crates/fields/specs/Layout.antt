-- Where the fields of a record stand. Its kind byte is at 0, and the fields follow it in the order of RULES 13.1.
-- Each field begins where the one before it ends; a record is filled if the last one ends where the record does.
use Rattle.std.specs.Prelude.{ℕ, ◌+◌, Bool, cond, ◌&&◌, List, eqb, leb, length, take, drop, None, Option, Some}
use Rattle.fields.specs.Numbers.{byte_at}

-- ---- a text: its length byte, then its bytes

abbrev pub text_end : List ℕ → ℕ → ℕ
text_end b at = at + 1 + byte_at b at

abbrev pub text_at : List ℕ → ℕ → List ℕ
text_at b at = take (byte_at b at) (drop (at + 1) b)

-- ---- an optional field: a byte 0 or 1, then the field if it is 1

abbrev pub has_at : List ℕ → ℕ → Bool
has_at b at = eqb (byte_at b at) 1

-- the byte is 0 or 1
abbrev pub mark_at : List ℕ → ℕ → Bool
mark_at b at = leb (byte_at b at) 1

-- the end of an optional field of so many bytes
unfoldable pub option_end : List ℕ → ℕ → ℕ → ℕ
option_end b at size = cond (has_at b at) (at + 1 + size) (at + 1)

unfoldable pub option_text_end : List ℕ → ℕ → ℕ
option_text_end b at = cond (has_at b at) (text_end b (at + 1)) (at + 1)

unfoldable pub option_text_at : List ℕ → ℕ → Option (List ℕ)
option_text_at b at = cond (has_at b at) (Some (text_at b (at + 1))) None

-- ---- settings: origins, targets, their walks (origins first), transfer_minutes, max_transfers, now, three epochs

abbrev pub target_walks_at : List ℕ → ℕ
target_walks_at b = 3 + byte_at b 1

abbrev pub minutes_at : List ℕ → ℕ
minutes_at b = 3 + byte_at b 1 + byte_at b 2

unfoldable pub settings_filled_of : List ℕ → Bool
settings_filled_of b = eqb (minutes_at b + 34) (length b)

-- ---- stop: id, name, parent, location type, position, members

abbrev pub name_at : List ℕ → ℕ
name_at b = text_end b 1

abbrev pub parent_at : List ℕ → ℕ
parent_at b = option_text_end b (name_at b)

abbrev pub type_at : List ℕ → ℕ
type_at b = option_text_end b (parent_at b)

abbrev pub position_at : List ℕ → ℕ
position_at b = type_at b + 1

-- a position is two f64, with one byte 0 or 1 for both
abbrev pub members_at : List ℕ → ℕ
members_at b = option_end b (position_at b) 16

unfoldable pub stop_filled_of : List ℕ → Bool
stop_filled_of b = eqb (members_at b + 1) (length b) && (mark_at b (name_at b) && (mark_at b (parent_at b) && mark_at b (position_at b)))

-- ---- call: trip, day, sequence, stop, arrival, departure, pickup, drop-off

abbrev pub departure_at : List ℕ → ℕ
departure_at b = option_end b 10 4

abbrev pub pickup_at : List ℕ → ℕ
pickup_at b = option_end b (departure_at b) 4

unfoldable pub call_filled_of : List ℕ → Bool
call_filled_of b = eqb (pickup_at b + 2) (length b) && (mark_at b 10 && mark_at b (departure_at b))

-- ---- rule: from, to, transfer type, seconds

unfoldable pub rule_filled_of : List ℕ → Bool
rule_filled_of b = eqb (option_end b 6 2) (length b) && mark_at b 6

-- ---- search: no field

unfoldable pub search_filled_of : List ℕ → Bool
search_filled_of b = eqb 1 (length b)
