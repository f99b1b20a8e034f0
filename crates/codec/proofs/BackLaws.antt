-- Each kind of record comes back as it was written.
use Rattle.std.specs.Prelude.{None, Option, Some, option_map}
use mathlib.Core.Path.{◌≡◌, refl, ap, ◌∙◌}
use mathlib.Core.Bool.{Bool, true, false, cond}
use mathlib.Core.List.{List, [], ◌∷◌}
use Prim.Native.Nat.{ℕ, ◌-◌, ◌<◌}
use native.Mathlib.Omega.{arith}
use lib.Dec.{ltb}
use lib.IntN.{ℤ, pos, negsuc}
use lib.ListN.{length, get_or, take}
use lib.Seq.{get_or-take, length-take-le}
use lib.Ieee.{binary64}
use lib.Ieee.Bits.{of_bits-to_bits}
use mir.Syntax.{w64}
use mir.Val.{SFits}
use borrow.Author.Tests.{ltb-true, lt-ltb, le-ltb}
use Rattle.laws.proofs.Bools.{cond-by, cond-not}
use Rattle.place.specs.declared.Degrees.{Degrees}
use Rattle.settings.specs.declared.Settings.{Settings}
use Rattle.settings.specs.Settings.{kept_walk, walks_of, canonical_of}
use Rattle.stops.specs.declared.StopInput.{StopInput}
use Rattle.calls.specs.declared.CallInput.{CallInput}
use Rattle.rules.specs.declared.Rule.{Rule}
use Rattle.fields.specs.Numbers.{signed_of}
use Rattle.fields.specs.Second.{second_settings_in, second_settings_filled_of}
use Rattle.codec.specs.Shapes.{two, four, eight, number, bytes, text, option, both, Value, Fits}
use Rattle.codec.specs.Kinds.{unsigned_of, call_shape, call_value, call_from, call_body, rule_shape, rule_value, rule_from, rule_body}
use Rattle.codec.specs.Kinds.{degrees_value, degrees_from, stop_shape, stop_value, stop_from, stop_body, DegreesHeld, settings_shape}
use Rattle.codec.specs.Kinds.{settings_value, settings_from, settings_body, search_body, SettingsHeld, StopBack, Back}
use Rattle.codec.proofs.ShapeLaws.{record-trip}
use Rattle.codec.proofs.KindLaws.{by_shape}

-- ---- numbers that are not written as they are

pub signed_back : (z : ℤ) → SFits w64 z → signed_of (unsigned_of z) ≡ z
unfolding signed_of
signed_back (pos n) h = cond-by _ _ (lt-ltb n 9223372036854775808 h.sfits)
signed_back (negsuc n) h =
    let k : n < 9223372036854775808 = h.sfits in
    let e : 18446744073709551615 - (18446744073709551615 - n) ≡ n = omega (arith, k) in
    cond-not _ _ (le-ltb (18446744073709551615 - n) 9223372036854775808 (omega (arith, k))) ∙ ap negsuc e

degrees-back : (given : Option Degrees) → DegreesHeld given → option_map degrees_from (option_map degrees_value given) ≡ given
degrees-back (Some d) h = λ t. Some (record {
  latitude = of_bits-to_bits binary64 d.latitude h.latitude t;
  longitude = of_bits-to_bits binary64 d.longitude h.longitude t;
})
degrees-back None h = refl

-- ---- the kinds

call_back : (i : CallInput) → call_from (call_value i) ≡ i
call_back i = refl

rule-back : (i : Rule) → rule_from (rule_value i) ≡ i
rule-back i = refl

stop-back : (id : List ℕ) (name parent : Option (List ℕ)) (i : StopInput) → DegreesHeld i.degrees
    → stop_from (stop_value id name parent i) ≡ i
stop-back id name parent i h = λ t. record { location_type = i.location_type; degrees = degrees-back i.degrees h t; members = i.members }

-- ---- settings

walk-taken : (w : List ℕ) (n i : ℕ) → kept_walk n i (get_or (take n w) i 0) ≡ kept_walk n i (get_or w i 0)
walk-taken w n i = go (ltb i n) refl
  where
    go : (x : Bool) → ltb i n ≡ x → cond x (get_or (take n w) i 0) 0 ≡ cond x (get_or w i 0) 0
    go true e = get_or-take n w i 0 (ltb-true i n e)
    go false e = refl

walks-taken : (n : ℕ) (w : List ℕ) → walks_of n (take n w) ≡ walks_of n w
unfolding walks_of
walks-taken n w = λ t. walk-taken w n 0 t ∷ walk-taken w n 1 t ∷ walk-taken w n 2 t ∷ walk-taken w n 3 t ∷ []

three : (l : List ℤ) → length l ≡ 3 → get_or l 0 (pos 0) ∷ get_or l 1 (pos 0) ∷ get_or l 2 (pos 0) ∷ [] ≡ l
three [] e = absurd (omega arith)
three (a ∷ []) e = absurd (omega arith)
three (a ∷ b ∷ []) e = absurd (omega arith)
three (a ∷ b ∷ c ∷ []) e = refl
three (a ∷ b ∷ c ∷ d ∷ l) e = absurd (omega arith)

settings-back : (s : Settings) → SettingsHeld s → canonical_of (settings_from true s.origins s.targets (settings_value s)) ≡ canonical_of s
unfolding canonical_of
settings-back s h = λ t. record {
  origins = s.origins;
  targets = s.targets;
  origin_walks = walks-taken s.origins s.origin_walks t;
  target_walks = walks-taken s.targets s.target_walks t;
  transfer_seconds = s.transfer_seconds;
  max_transfers = s.max_transfers;
  now = signed_back s.now h.now_fits t;
  epochs = ((λ r. signed_back _ (h.epochs_fit 0) r ∷ signed_back _ (h.epochs_fit 1) r ∷ signed_back _ (h.epochs_fit 2) r ∷ [])
      ∙ three s.epochs h.days) t;
}

-- ---- records

call_fits : (i : CallInput) → Fits call_shape (call_value i)
call_fits i = (tt, (tt, (tt, (tt, (go i.arrival, (go i.departure, (tt, tt)))))))
  where
    go : (s : Option ℕ) → Fits (option (number four)) s
    go (Some n) = tt
    go None = tt

rule_fits : (i : Rule) → Fits rule_shape (rule_value i)
rule_fits i = (tt, (tt, (tt, go i.seconds)))
  where
    go : (m : Option ℕ) → Fits (option (number two)) m
    go (Some n) = tt
    go None = tt

stop-fits : (id : List ℕ) (name parent : Option (List ℕ)) (i : StopInput) → Fits stop_shape (stop_value id name parent i)
stop-fits id name parent i = (tt, (go name, (go parent, (tt, (at i.degrees, tt)))))
  where
    go : (s : Option (List ℕ)) → Fits (option text) s
    go (Some s) = tt
    go None = tt

    at : (d : Option Degrees) → Fits (option (both (number eight) (number eight))) (option_map degrees_value d)
    at (Some d) = (tt, tt)
    at None = tt

stop-record : (id : List ℕ) (name parent : Option (List ℕ)) (i : StopInput) → DegreesHeld i.degrees
    → StopBack id name parent i (stop_body id name parent i)
unfolding stop_body
stop-record id name parent i h =
    let r = record-trip 2 stop_shape (stop_value id name parent i) (stop-fits id name parent i) in
    record {
      filled = by_shape.stop_filled _ ∙ r.1;
      id_is = ap (λ (v : Value stop_shape). v.0) r.0;
      name_is = by_shape.stop_name _ ∙ ap (λ (v : Value stop_shape). v.1.0) r.0;
      parent_is = by_shape.stop_parent _ ∙ ap (λ (v : Value stop_shape). v.1.1.0) r.0;
      rest_is = by_shape.stop _ ∙ ap stop_from r.0 ∙ stop-back id name parent i h;
    }

settings-record : (s : Settings) → SettingsHeld s
    → (second_settings_filled_of (settings_body s) ≡ true) × (canonical_of (second_settings_in (settings_body s)) ≡ canonical_of s)
unfolding settings_body
settings-record s h =
    let shape = settings_shape true s.origins s.targets in
    let r = record-trip 1 shape (settings_value s) (
      tt,
      (
        tt,
        (
          length-take-le s.origins s.origin_walks h.origin_walks,
          (length-take-le s.targets s.target_walks h.target_walks, (tt, (tt, (tt, (tt, (tt, tt)))))),
        ),
      ),
    ) in (
      by_shape.second_settings_filled _ ∙ r.1,
      by_shape.second_settings _
          ∙ ap (λ (v : Value shape). canonical_of (settings_from true s.origins s.targets v)) r.0 ∙ settings-back s h,
    )

pub back : Back
unfolding call_body rule_body stop_body settings_body search_body
back =
    record {
      call = λ i. let r = record-trip 3 call_shape (call_value i) (call_fits i) in
          (by_shape.call_filled _ ∙ r.1, by_shape.call _ ∙ ap call_from r.0 ∙ call_back i);
      rule = λ i. let r = record-trip 4 rule_shape (rule_value i) (rule_fits i) in
          (by_shape.rule_filled _ ∙ r.1, by_shape.rule _ ∙ ap rule_from r.0 ∙ rule-back i);
      stop = stop-record;
      settings = settings-record;
      search = by_shape.search_filled search_body ∙ (record-trip 5 (bytes 0) [] refl).1;
    }
