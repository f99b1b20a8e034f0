-- What a stop that is taken has passed.
use Rattle.refusal.specs.declared.Accepted.TheVariants.{Taken}
use Rattle.std.specs.Option.{unwrap_or}
use Rattle.std.specs.Prelude.{None, Option, Some, Ok, is_some}
use Prim.Native.Nat.{ℕ, ◌≤◌, ◌<◌}
use mathlib.Core.Path.{◌≡◌, refl, sym, ap, ◌∙◌}
use mathlib.Core.List.{List}
use mathlib.Core.Bool.{Bool, true, false, not, ◌&&◌}
use native.Mathlib.Omega.{arith}
use borrow.Author.Tests.{leb-false, ltb-false}
use lib.Dec.{eqb, ltb}
use lib.ListN.{length}
use Rattle.laws.proofs.Bools.{or-false-left, or-false-right}
use Rattle.key.specs.Utf8.{points}
use Rattle.key.specs.Name.{usable}
use Rattle.refusal.specs.First.{first_answer}
use Rattle.refusal.proofs.FirstLaws.{taken-all-fail, never-taken}
use Rattle.stops.specs.declared.Stop.{Stop}
use Rattle.stops.specs.declared.StopInput.{StopInput}
use Rattle.stops.specs.Answer.{is_known, id_wrong, type_wrong, name_wrong, name_needed, unusable, stop_tests}

pub id-short : (id : List ℕ) → id_wrong id ≡ false → length id ≤ 32
unfolding id_wrong
id-short id e = ltb-false 32 (length id) (or-false-right (eqb (length id) 0) (ltb 32 (length id)) e)

type-small : (kind : ℕ) (parent : Bool) → type_wrong kind parent ≡ false → kind ≤ 1
unfolding type_wrong
type-small kind parent e = ltb-false 1 kind (or-false-left (ltb 1 kind) (eqb kind 1 && parent) e)

-- the name, where there is one, is short enough to be held whole
abbrev pub Short : Option (List ℕ) → Type 0
Short None = Unit {0}
Short (Some name) = length name ≤ 64

name-short : (name : Option (List ℕ)) (needed : Bool) (id : List ℕ) → name_wrong name needed id ≡ false → Short name
unfolding name_wrong
name-short (Some name) needed id e = ltb-false 64 (length name) (or-false-left (ltb 64 (length name)) (needed && unusable name) e)
name-short None needed id e = tt

usable-by : (b : Bool) → not b ≡ false → b ≡ true
usable-by true e = refl
usable-by false e = sym e

needed-used : (needed : Bool) (text : List ℕ) → (needed && unusable text) ≡ false → needed ≡ true → usable (points text) ≡ true
unfolding unusable
needed-used needed text e t = usable-by (usable (points text)) (sym (ap (λ (b : Bool). b && not (usable (points text))) t) ∙ e)

name-used : (name : Option (List ℕ)) (needed : Bool) (id : List ℕ) → name_wrong name needed id ≡ false → needed ≡ true
    → usable (points (unwrap_or name id)) ≡ true
unfolding name_wrong
name-used (Some name) needed id e t = needed-used needed name (or-false-right (ltb 64 (length name)) (needed && unusable name) e) t
name-used None needed id e t = needed-used needed id e t

-- what a taken stop has passed
pub record Passed (b : Bool) (stops : List Stop) (count : ℕ) (station : Option ℕ) (id : List ℕ) (name parent : Option (List ℕ))
    (i : StopInput) : Type 0 where
  pub unsearched : b ≡ false
  pub id-fits : length id ≤ 32
  pub new : is_known stops count id ≡ false
  pub type-fits : i.location_type ≤ 1
  pub name-fits : Short name
  pub name-used : name_needed parent i ≡ true → usable (points (unwrap_or name id)) ≡ true
  pub room : count < 128

pub passed : (b : Bool) (stops : List Stop) (count : ℕ) (station : Option ℕ) (id : List ℕ) (name parent : Option (List ℕ)) (i : StopInput)
    → first_answer (stop_tests b stops count station id name parent i) ≡ Ok Taken → Passed b stops count station id name parent i
unfolding stop_tests
passed b stops count station id name parent i e =
    let ts = stop_tests b stops count station id name parent i in
    let f = taken-all-fail ts (never-taken ts refl) e in
    record {
      unsearched = f.0;
      id-fits = id-short id f.1.0;
      new = f.1.1.0;
      type-fits = type-small i.location_type (is_some parent) f.1.1.1.0;
      name-fits = name-short name (name_needed parent i) id f.1.1.1.1.1.0;
      name-used = name-used name (name_needed parent i) id f.1.1.1.1.1.0;
      room = leb-false 128 count f.1.1.1.1.1.1.0;
    }
