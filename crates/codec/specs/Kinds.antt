-- The fields of each kind of record, in the order of RULES 13.1, and the values that stand in them.
use Rattle.std.specs.Prelude.{ℕ, ◌*◌, ◌-◌, ◌≤◌, ◌≡◌, Bool, true, false, cond, List, [], ◌∷◌, T, ℤ, pos, negsuc, length, take, get_or}
use Rattle.std.specs.Prelude.{Float, None, Some, Option, option_map}
use Rattle.std.specs.Float.{binary64}
use Rattle.std.specs.Float.Ieee.{of_bits, to_bits, fits}
use Rattle.std.specs.Int.{w64}
use Rattle.std.proofs.Common.{SFits}
use Rattle.place.specs.declared.Degrees.{Degrees}
use Rattle.settings.specs.declared.Settings.{Settings}
use Rattle.settings.specs.Settings.{canonical_of}
use Rattle.stops.specs.declared.StopInput.{StopInput}
use Rattle.calls.specs.declared.CallInput.{CallInput}
use Rattle.rules.specs.declared.Rule.{Rule}
use Rattle.fields.specs.Numbers.{byte_at, signed_of}
use Rattle.fields.specs.Layout.{option_text_at, text_at, name_at, parent_at, settings_filled_of, stop_filled_of, call_filled_of}
use Rattle.fields.specs.Layout.{rule_filled_of, search_filled_of}
use Rattle.fields.specs.Records.{settings_in, stop_in, call_in, rule_in}
use Rattle.fields.specs.Second.{second_settings_in, second_settings_filled_of}
use Rattle.codec.specs.Shapes.{Size, one, two, four, eight, Field, number, bytes, text, option, both, Value, read, body, fills}

-- ---- numbers that are not written as they are

-- two's complement
abbrev pub unsigned_of : ℤ → ℕ
unsigned_of (pos n) = n
unsigned_of (negsuc n) = 18446744073709551615 - n

-- a float is its bits; the one NaN is 7ff8000000000000
abbrev pub bits_of : Float → ℕ
bits_of x = to_bits binary64 x

abbrev pub float_of : ℕ → Float
float_of n = of_bits binary64 n

-- ---- call: trip, day, sequence, stop, arrival, departure, pickup, drop-off

abbrev pub call_shape : Field
call_shape =
    both (number two) (both (number one) (both (number four)
    (both (number two) (both (option (number four)) (both (option (number four)) (both (number one) (number one)))))))

abbrev pub call_value : CallInput → Value call_shape
call_value i = (i.trip, (i.day, (i.sequence, (i.stop, (i.arrival, (i.departure, (i.pickup, i.drop_off)))))))

abbrev pub call_from : Value call_shape → CallInput
call_from v = record {
  trip = v.0;
  day = v.1.0;
  sequence = v.1.1.0;
  stop = v.1.1.1.0;
  arrival = v.1.1.1.1.0;
  departure = v.1.1.1.1.1.0;
  pickup = v.1.1.1.1.1.1.0;
  drop_off = v.1.1.1.1.1.1.1;
}

unfoldable pub call_body : CallInput → List ℕ
call_body i = body 3 call_shape (call_value i)

-- ---- rule: from, to, transfer type, seconds

abbrev pub rule_shape : Field
rule_shape = both (number two) (both (number two) (both (number one) (option (number two))))

abbrev pub rule_value : Rule → Value rule_shape
rule_value i = (i.from, (i.to, (i.transfer_type, i.seconds)))

abbrev pub rule_from : Value rule_shape → Rule
rule_from v = record { from = v.0; to = v.1.0; transfer_type = v.1.1.0; seconds = v.1.1.1 }

unfoldable pub rule_body : Rule → List ℕ
rule_body i = body 4 rule_shape (rule_value i)

-- ---- stop: id, name, parent, location type, position, members

abbrev pub stop_shape : Field
stop_shape =
    both text (both (option text) (both (option text)
    (both (number one) (both (option (both (number eight) (number eight))) (number one)))))

abbrev pub degrees_value : Degrees → ℕ × ℕ
degrees_value d = (bits_of d.latitude, bits_of d.longitude)

abbrev pub degrees_from : ℕ × ℕ → Degrees
degrees_from v = record { latitude = float_of v.0; longitude = float_of v.1 }

abbrev pub stop_value : List ℕ → Option (List ℕ) → Option (List ℕ) → StopInput → Value stop_shape
stop_value id name parent i = (id, (name, (parent, (i.location_type, (option_map degrees_value i.degrees, i.members)))))

abbrev pub stop_from : Value stop_shape → StopInput
stop_from v = record { location_type = v.1.1.1.0; degrees = option_map degrees_from v.1.1.1.1.0; members = v.1.1.1.1.1 }

unfoldable pub stop_body : List ℕ → Option (List ℕ) → Option (List ℕ) → StopInput → List ℕ
stop_body id name parent i = body 2 stop_shape (stop_value id name parent i)

-- both degrees are f64s, as every float of the program is
pub record DegreesFit (d : Degrees) : Type 0 where
  pub latitude : T (fits binary64 d.latitude)
  pub longitude : T (fits binary64 d.longitude)

-- if they are given
abbrev pub DegreesHeld : Option Degrees → Type 0
DegreesHeld (Some d) = DegreesFit d
DegreesHeld None = Unit {0}

-- ---- settings: origins, targets, their walks (origins first), transfer time, max_transfers, now, three epochs
-- the transfer time is a byte of minutes, or in the second version two bytes of seconds

abbrev pub transfer_size : Bool → Size
transfer_size true = two
transfer_size false = one

abbrev pub settings_shape : Bool → ℕ → ℕ → Field
settings_shape second o t =
    both (number one)
    (both (number one)
    (both (bytes o)
    (both (bytes t)
    (both (number (transfer_size second)) (both (number one)
    (both (number eight) (both (number eight) (both (number eight) (number eight)))))))))

-- by the number of origins and of targets in a body
abbrev pub settings_shape_of : Bool → List ℕ → Field
settings_shape_of second b = settings_shape second (byte_at b 1) (byte_at b 2)

abbrev pub epoch_value : Settings → ℕ → ℕ
epoch_value s k = unsigned_of (get_or s.epochs k (pos 0))

-- in seconds, as the second version has it
abbrev pub settings_value : (s : Settings) → Value (settings_shape true s.origins s.targets)
settings_value s = (
  s.origins,
  (
    s.targets,
    (
      take s.origins s.origin_walks,
      (
        take s.targets s.target_walks,
        (s.transfer_seconds, (s.max_transfers, (unsigned_of s.now, (epoch_value s 0, (epoch_value s 1, epoch_value s 2))))),
      ),
    ),
  ),
)

abbrev pub settings_from : (second : Bool) (o t : ℕ) → Value (settings_shape second o t) → Settings
settings_from second o t v = record {
  origins = v.0;
  targets = v.1.0;
  origin_walks = v.1.1.0;
  target_walks = v.1.1.1.0;
  transfer_seconds = cond second v.1.1.1.1.0 (v.1.1.1.1.0 * 60);
  max_transfers = v.1.1.1.1.1.0;
  now = signed_of v.1.1.1.1.1.1.0;
  epochs = signed_of v.1.1.1.1.1.1.1.0 ∷ signed_of v.1.1.1.1.1.1.1.1.0 ∷ signed_of v.1.1.1.1.1.1.1.1.1 ∷ [];
}

unfoldable pub settings_body : Settings → List ℕ
settings_body s = body 1 (settings_shape true s.origins s.targets) (settings_value s)

-- ---- search: no field

unfoldable pub search_body : List ℕ
search_body = body 5 (bytes 0) []

-- ---- the reader's definitions are the descriptions', for all bytes

pub record ByShape : Type 0 where
  pub call : (b : List ℕ) → call_in b ≡ call_from (read call_shape b 1)
  pub call_filled : (b : List ℕ) → call_filled_of b ≡ fills call_shape b
  pub rule : (b : List ℕ) → rule_in b ≡ rule_from (read rule_shape b 1)
  pub rule_filled : (b : List ℕ) → rule_filled_of b ≡ fills rule_shape b
  pub stop : (b : List ℕ) → stop_in b ≡ stop_from (read stop_shape b 1)
  pub stop_id : (b : List ℕ) → text_at b 1 ≡ (read stop_shape b 1).0
  pub stop_name : (b : List ℕ) → option_text_at b (name_at b) ≡ (read stop_shape b 1).1.0
  pub stop_parent : (b : List ℕ) → option_text_at b (parent_at b) ≡ (read stop_shape b 1).1.1.0
  pub stop_filled : (b : List ℕ) → stop_filled_of b ≡ fills stop_shape b
  -- up to the walks past the counts, which opening leaves out
  pub settings : (b : List ℕ) → canonical_of (settings_in b)
      ≡ canonical_of (settings_from false (byte_at b 1) (byte_at b 2) (read (settings_shape_of false b) b 1))
  pub settings_filled : (b : List ℕ) → settings_filled_of b ≡ fills (settings_shape_of false b) b
  pub second_settings : (b : List ℕ)
      → canonical_of (second_settings_in b) ≡ canonical_of
      (settings_from true (byte_at b 1) (byte_at b 2) (read (settings_shape_of true b) b 1))
  pub second_settings_filled : (b : List ℕ) → second_settings_filled_of b ≡ fills (settings_shape_of true b) b
  pub search_filled : (b : List ℕ) → search_filled_of b ≡ fills (bytes 0) b

-- ---- what was written comes back

-- the settings can be written: as many walks as are counted, three epochs, every clock time an i64
pub record SettingsHeld (s : Settings) : Type 0 where
  pub origin_walks : s.origins ≤ length s.origin_walks
  pub target_walks : s.targets ≤ length s.target_walks
  pub now_fits : SFits w64 s.now
  pub days : length s.epochs ≡ 3
  pub epochs_fit : (k : ℕ) → SFits w64 (get_or s.epochs k (pos 0))

pub record StopBack (id : List ℕ) (name parent : Option (List ℕ)) (i : StopInput) (b : List ℕ) : Type 0 where
  pub filled : stop_filled_of b ≡ true
  pub id_is : text_at b 1 ≡ id
  pub name_is : option_text_at b (name_at b) ≡ name
  pub parent_is : option_text_at b (parent_at b) ≡ parent
  pub rest_is : stop_in b ≡ i

pub record Back : Type 0 where
  pub call : (i : CallInput) → (call_filled_of (call_body i) ≡ true) × (call_in (call_body i) ≡ i)
  pub rule : (i : Rule) → (rule_filled_of (rule_body i) ≡ true) × (rule_in (rule_body i) ≡ i)
  pub stop : (id : List ℕ) (name parent : Option (List ℕ)) (i : StopInput) → DegreesHeld i.degrees
      → StopBack id name parent i (stop_body id name parent i)
  pub settings : (s : Settings) → SettingsHeld s
      → (second_settings_filled_of (settings_body s) ≡ true) × (canonical_of (second_settings_in (settings_body s)) ≡ canonical_of s)
  pub search : search_filled_of search_body ≡ true
