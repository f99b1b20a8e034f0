-- The reader's definitions are the descriptions', kind by kind.
use Rattle.std.specs.Prelude.{None, Some, option_map}
use mathlib.Core.Path.{◌≡◌, refl, sym, ap, ◌∙◌}
use mathlib.Core.Bool.{Bool, true, false, cond, ◌&&◌}
use mathlib.Core.List.{List, [], ◌∷◌}
use Prim.Native.Nat.{ℕ, ◌+◌, ◌*◌}
use native.Mathlib.Omega.{arith}
use lib.Dec.{eqb, ltb}
use lib.ListN.{length, get_or, take, drop}
use lib.Seq.{get_or-take, get_or-drop}
use borrow.Author.Tests.{ltb-true}
use Rattle.settings.specs.Settings.{kept_walk, walks_of, canonical_of}
use Rattle.fields.specs.Numbers.{byte_at, u16_at, u32_at, i64_at, f64_at}
use Rattle.fields.specs.Layout.{has_at, mark_at, option_text_at, option_end, option_text_end, name_at, parent_at, type_at, position_at}
use Rattle.fields.specs.Layout.{minutes_at, target_walks_at, settings_filled_of, stop_filled_of, call_filled_of, rule_filled_of}
use Rattle.fields.specs.Layout.{search_filled_of}
use Rattle.fields.specs.Records.{walks_at, settings_in, degrees_at, stop_in, seconds_at, call_in, min_time_at, rule_in}
use Rattle.fields.specs.Second.{seconds_place, second_settings_in, second_settings_filled_of}
use Rattle.codec.specs.Shapes.{two, four, eight, number, bytes, text, option, both, end, read, fills}
use Rattle.codec.specs.Kinds.{call_shape, call_from, rule_shape, rule_from, degrees_from, stop_shape, stop_from, settings_shape_of}
use Rattle.codec.specs.Kinds.{settings_from, ByShape}

-- ---- tests in another order

and_right : (x : Bool) → x && true ≡ x
and_right true = refl
and_right false = refl

cond_same : {A : Type 0} (x : Bool) (a : A) → cond x a a ≡ a
cond_same true a = refl
cond_same false a = refl

-- an optional field that has no optional field in it
plain-mark : (b : List ℕ) (at : ℕ) → mark_at b at && cond (has_at b at) true true ≡ mark_at b at
plain-mark b at = ap (λ (x : Bool). mark_at b at && x) (cond_same (has_at b at) true) ∙ and_right (mark_at b at)

-- the same, where numbers follow
last-mark : (b : List ℕ) (at : ℕ) → (mark_at b at && cond (has_at b at) true true) && true ≡ mark_at b at
last-mark b at = and_right (mark_at b at && cond (has_at b at) true true) ∙ plain-mark b at

-- ---- places, counted in one step or in several

plus-two : (n : ℕ) → n + 2 ≡ n + 1 + 1
plus-two n = omega arith

plus-nine : (n : ℕ) → n + 9 ≡ n + 1 + 8
plus-nine n = omega arith

plus-sixteen : (n : ℕ) → n + 1 + 16 ≡ n + 1 + 8 + 8
plus-sixteen n = omega arith

-- ---- optional fields

seconds-read : (b : List ℕ) (at : ℕ) → seconds_at b at ≡ read (option (number four)) b at
unfolding seconds_at
seconds-read b at = refl

min-time-read : (b : List ℕ) (at : ℕ) → min_time_at b at ≡ read (option (number two)) b at
unfolding min_time_at
min-time-read b at = refl

text-read : (b : List ℕ) (at : ℕ) → option_text_at b at ≡ read (option text) b at
unfolding option_text_at
text-read b at = refl

-- ---- the kinds

call-is : (b : List ℕ) → call_in b ≡ call_from (read call_shape b 1)
unfolding call_in option_end
call-is b = λ t. record {
  trip = u16_at b 1;
  day = byte_at b 3;
  sequence = u32_at b 4;
  stop = u16_at b 8;
  arrival = seconds-read b 10 t;
  departure = seconds-read b (option_end b 10 4) t;
  pickup = byte_at b (option_end b (option_end b 10 4) 4);
  drop_off = byte_at b (option_end b (option_end b 10 4) 4 + 1);
}

call-filled-is : (b : List ℕ) → call_filled_of b ≡ fills call_shape b
unfolding call_filled_of option_end
call-filled-is b =
    λ t. eqb (plus-two (option_end b (option_end b 10 4) 4) t) (length b) &&
    (sym (plain-mark b 10) t && sym (last-mark b (option_end b 10 4)) t)

rule-is : (b : List ℕ) → rule_in b ≡ rule_from (read rule_shape b 1)
unfolding rule_in
rule-is b = λ t. record { from = u16_at b 1; to = u16_at b 3; transfer_type = byte_at b 5; seconds = min-time-read b 6 t }

rule-filled-is : (b : List ℕ) → rule_filled_of b ≡ fills rule_shape b
unfolding rule_filled_of option_end
rule-filled-is b = ap (λ (m : Bool). eqb (option_end b 6 2) (length b) && m) (sym (plain-mark b 6))

degrees-read : (b : List ℕ) (at : ℕ) → degrees_at b at ≡ option_map degrees_from (read (option (both (number eight) (number eight))) b at)
unfolding degrees_at
degrees-read b at = go (has_at b at)
  where
    go : (x : Bool) → cond x (Some (record { latitude = f64_at b (at + 1); longitude = f64_at b (at + 9) })) None
        ≡ option_map degrees_from (cond x (Some (read (both (number eight) (number eight)) b (at + 1))) None)
    go true = λ t. Some (record { latitude = f64_at b (at + 1); longitude = f64_at b (plus-nine at t) })
    go false = refl

degrees-end : (b : List ℕ) (at : ℕ) → option_end b at 16 ≡ end (option (both (number eight) (number eight))) b at
unfolding option_end
degrees-end b at = λ t. cond (has_at b at) (plus-sixteen at t) (at + 1)

stop_is : (b : List ℕ) → stop_in b ≡ stop_from (read stop_shape b 1)
unfolding stop_in option_end option_text_end
stop_is b = λ t. record {
  location_type = byte_at b (type_at b);
  degrees = degrees-read b (position_at b) t;
  members = byte_at b (degrees-end b (position_at b) t);
}

stop-name-is : (b : List ℕ) → option_text_at b (name_at b) ≡ (read stop_shape b 1).1.0
stop-name-is b = text-read b (name_at b)

stop-parent-is : (b : List ℕ) → option_text_at b (parent_at b) ≡ (read stop_shape b 1).1.1.0
unfolding option_text_end
stop-parent-is b = text-read b (parent_at b)

stop-filled-is : (b : List ℕ) → stop_filled_of b ≡ fills stop_shape b
unfolding stop_filled_of option_text_end
stop-filled-is b =
    λ t. eqb (degrees-end b (position_at b) t + 1) (length b) &&
    (sym (plain-mark b (name_at b)) t && (sym (plain-mark b (parent_at b)) t && sym (last-mark b (position_at b)) t))

-- ---- settings

walk_kept : (b : List ℕ) (at n i : ℕ) → kept_walk n i (byte_at b (at + i)) ≡ kept_walk n i (get_or (take n (drop at b)) i 0)
walk_kept b at n i = go (ltb i n) refl
  where
    go : (x : Bool) → ltb i n ≡ x → cond x (byte_at b (at + i)) 0 ≡ cond x (get_or (take n (drop at b)) i 0) 0
    go true e = sym (get_or-take n (drop at b) i 0 (ltb-true i n e) ∙ get_or-drop at b i 0)
    go false e = refl

walks-kept : (b : List ℕ) (at n : ℕ) → walks_of n (walks_at b at) ≡ walks_of n (take n (drop at b))
unfolding walks_of walks_at
walks-kept b at n =
    let e : at + 0 ≡ at = omega arith in
    λ t. (sym (ap (λ (k : ℕ). kept_walk n 0 (byte_at b k)) e) ∙ walk_kept b at n 0) t ∷ walk_kept b at n 1 t ∷ walk_kept b at n 2 t
    ∷ walk_kept b at n 3 t ∷ []

-- the places of the last fields: from the minutes, and from the seconds
module _ (n : ℕ) where
  at-now : n + 2 ≡ n + 1 + 1
  at-now = omega arith

  at_first : n + 10 ≡ n + 1 + 1 + 8
  at_first = omega arith

  at_second : n + 18 ≡ n + 1 + 1 + 8 + 8
  at_second = omega arith

  at-third : n + 26 ≡ n + 1 + 1 + 8 + 8 + 8
  at-third = omega arith

  at-end : n + 34 ≡ n + 1 + 1 + 8 + 8 + 8 + 8
  at-end = omega arith

  second-now : n + 3 ≡ n + 2 + 1
  second-now = omega arith

  second-first : n + 11 ≡ n + 2 + 1 + 8
  second-first = omega arith

  second-second : n + 19 ≡ n + 2 + 1 + 8 + 8
  second-second = omega arith

  second-third : n + 27 ≡ n + 2 + 1 + 8 + 8 + 8
  second-third = omega arith

  second-end : n + 35 ≡ n + 2 + 1 + 8 + 8 + 8 + 8
  second-end = omega arith

settings-is : (b : List ℕ) → canonical_of (settings_in b)
    ≡ canonical_of (settings_from false (byte_at b 1) (byte_at b 2) (read (settings_shape_of false b) b 1))
unfolding canonical_of settings_in
settings-is b = λ t. record {
  origins = byte_at b 1;
  targets = byte_at b 2;
  origin_walks = walks-kept b 3 (byte_at b 1) t;
  target_walks = walks-kept b (target_walks_at b) (byte_at b 2) t;
  transfer_seconds = byte_at b (minutes_at b) * 60;
  max_transfers = byte_at b (minutes_at b + 1);
  now = i64_at b (at-now (minutes_at b) t);
  epochs = i64_at b (at_first (minutes_at b) t) ∷ i64_at b (at_second (minutes_at b) t) ∷ i64_at b (at-third (minutes_at b) t) ∷ [];
}

settings-filled-is : (b : List ℕ) → settings_filled_of b ≡ fills (settings_shape_of false b) b
unfolding settings_filled_of
settings-filled-is b = ap (λ (n : ℕ). eqb n (length b)) (at-end (minutes_at b)) ∙ sym (and_right _)

second-settings-is : (b : List ℕ)
    → canonical_of (second_settings_in b) ≡ canonical_of
    (settings_from true (byte_at b 1) (byte_at b 2) (read (settings_shape_of true b) b 1))
unfolding canonical_of second_settings_in
second-settings-is b = λ t. record {
  origins = byte_at b 1;
  targets = byte_at b 2;
  origin_walks = walks-kept b 3 (byte_at b 1) t;
  target_walks = walks-kept b (target_walks_at b) (byte_at b 2) t;
  transfer_seconds = u16_at b (seconds_place b);
  max_transfers = byte_at b (seconds_place b + 2);
  now = i64_at b (second-now (seconds_place b) t);
  epochs = i64_at b (second-first (seconds_place b) t) ∷ i64_at b (second-second (seconds_place b) t)
      ∷ i64_at b (second-third (seconds_place b) t) ∷ [];
}

second-settings-filled-is : (b : List ℕ) → second_settings_filled_of b ≡ fills (settings_shape_of true b) b
unfolding second_settings_filled_of
second-settings-filled-is b = ap (λ (n : ℕ). eqb n (length b)) (second-end (seconds_place b)) ∙ sym (and_right _)

search-filled-is : (b : List ℕ) → search_filled_of b ≡ fills (bytes 0) b
unfolding search_filled_of
search-filled-is b = sym (and_right (eqb 1 (length b)))

pub by_shape : ByShape
by_shape =
    record {
      call = call-is;
      call_filled = call-filled-is;
      rule = rule-is;
      rule_filled = rule-filled-is;
      stop = stop_is;
      stop_id = λ b. refl;
      stop_name = stop-name-is;
      stop_parent = stop-parent-is;
      stop_filled = stop-filled-is;
      settings = settings-is;
      settings_filled = settings-filled-is;
      second_settings = second-settings-is;
      second_settings_filled = second-settings-filled-is;
      search_filled = search-filled-is;
    }
