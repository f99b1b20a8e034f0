-- A stop that is taken can be handed in again, and so can those before it.
use Rattle.refusal.specs.declared.Accepted.TheVariants.{Taken}
use Rattle.std.specs.Prelude.{None, Option, Some, Ok, is_some, option_map}
use Prim.Native.Nat.{ℕ, ◌+◌, ◌≤◌, ◌<◌}
use mathlib.Core.Path.{◌≡◌, refl, sym, ap, subst, ◌∙◌}
use mathlib.Core.List.{List}
use mathlib.Core.Bool.{Bool, false, not, ◌&&◌}
use native.Mathlib.Omega.{arith}
use lib.Dec.{eqb}
use lib.ListN.{length, set}
use borrow.Author.Tests.{not-false}
use lib.Seq.{get_or-set_same, get_or-set_other}
use Rattle.laws.proofs.Slots.{below-cases}
use Rattle.refusal.specs.First.{AllFail, first_answer}
use Rattle.refusal.proofs.FirstLaws.{first_taken, answer-is-first}
use Rattle.place.specs.Positions.{is_usable}
use Rattle.stops.specs.declared.Stop.{Stop}
use Rattle.stops.specs.declared.StopInput.{StopInput}
use Rattle.stops.specs.Stops.{id_of, name_of}
use Rattle.stops.specs.Answer.{station_of, id_wrong, type_wrong, name_needed, name_wrong, stop_tests}
use Rattle.stops.specs.Taken.{stop_of, blank_stop}
use Rattle.stops.specs.Sound.{stop_at, Parented, StopsSound}
use Rattle.stops.proofs.Laws.{passed}
use Rattle.stops.proofs.SoundLaws.{id-kept, name-kept, parent-kept}
use Rattle.codec.specs.Kinds.{DegreesHeld}
use Rattle.codec.specs.Parts.{parent_id_of, stop_input_of}
use Rattle.written.specs.Kept.{StopKept}

-- ---- what is asked of a parent is only whether there is one

needed_by_flag : (p q : Option (List ℕ)) (i : StopInput) → is_some p ≡ is_some q → name_needed p i ≡ name_needed q i
unfolding name_needed
needed_by_flag p q i e = ap (λ (b : Bool). eqb i.location_type 0 && not b && is_usable i.degrees) e

pub some-map : (f : ℕ → List ℕ) (p : Option ℕ) → is_some (option_map f p) ≡ is_some p
some-map f (Some p) = refl
some-map f None = refl

needed-by : (f g : ℕ → List ℕ) (p : Option ℕ) (i : StopInput) → name_needed (option_map f p) i ≡ name_needed (option_map g p) i
needed-by f g p i = needed_by_flag (option_map f p) (option_map g p) i (some-map f p ∙ sym (some-map g p))

-- where one is named it is found, or the stop is sent back
found-is : (ss : List Stop) (n : ℕ) (parent : Option (List ℕ)) → (is_some parent && not (is_some (station_of ss n parent))) ≡ false
    → is_some (station_of ss n parent) ≡ is_some parent
unfolding station_of
found-is ss n None t = refl
found-is ss n (Some p) t = not-false _ t

-- ---- one stop more

module _ (ss : List Stop) (n : ℕ) (s : Stop) (h : n < length ss) where
  at_new : stop_at (set ss n s) n ≡ s
  unfolding stop_at
  at_new = get_or-set_same ss n s blank_stop h

  at_old : (k : ℕ) → k < n → stop_at (set ss n s) k ≡ stop_at ss k
  unfolding stop_at
  at_old k g = get_or-set_other ss n k s blank_stop (λ e. omega arith)

  still : (k : ℕ) (t : Stop) → k ≤ n → StopKept ss k t → StopKept (set ss n s) k t
  still k t g w = record {
    id_right = w.id_right;
    type_right = w.type_right;
    parent_first = first t.parent w.parent_first;
    name_right = ap (λ (x : Bool). name_wrong (name_of t) x (id_of t))
        (needed-by (λ (p : ℕ). id_of (stop_at (set ss n s) p)) (λ (p : ℕ). id_of (stop_at ss p)) t.parent (stop_input_of t)) ∙ w.name_right;
    whole = w.whole;
    degrees = w.degrees;
  }
    where
      first : (p : Option ℕ) → Parented ss k p → Parented (set ss n s) k p
      first None q = tt
      first (Some p) q = (q.0, ap (λ (x : Stop). x.location_type) (at_old p (omega (arith, q.0))) ∙ q.1)

  stops-kept : StopKept ss n s → ((k : ℕ) → k < n → StopKept ss k (stop_at ss k)) → (k : ℕ) → k < n + 1
      → StopKept (set ss n s) k (stop_at (set ss n s) k)
  stops-kept new old k g =
      below-cases (λ m. StopKept (set ss n s) m (stop_at (set ss n s) m)) n k g
      (λ less. subst (StopKept (set ss n s) k) (sym (at_old k less)) (still k (stop_at ss k) (omega arith) (old k less)))
      (subst (StopKept (set ss n s) n) (sym at_new) (still n s (omega arith) new))

-- ---- the stop that is taken

module _ (searched : Bool) (ss : List Stop) (n : ℕ) (id : List ℕ) (name parent : Option (List ℕ)) (i : StopInput) (sound : StopsSound ss n)
    (taken : first_answer (stop_tests searched ss n (station_of ss n parent) id name parent i) ≡ Ok Taken)
    (deg : DegreesHeld i.degrees) where
  abbrev f : Option ℕ
  f = station_of ss n parent

  abbrev st : Stop
  st = stop_of id name f i

  tests : AllFail (stop_tests searched ss n f id name parent i)
  unfolding stop_tests
  tests = first_taken _ (stop_tests searched ss n f id name parent i) refl
      (answer-is-first (stop_tests searched ss n f id name parent i)) taken

  named_is : is_some f ≡ is_some parent
  unfolding stop_tests
  named_is = found-is ss n parent tests.1.1.1.1.0

  id_is : id_of st ≡ id
  id_is = id-kept searched ss n id name parent i taken

  name_is : name_of st ≡ name
  name_is = name-kept searched ss n id name parent i taken

  whole_is : stop_of (id_of st) (name_of st) st.parent (stop_input_of st) ≡ st
  unfolding stop_of stop_input_of
  whole_is = λ t. stop_of (id_is t) (name_is t) f i

  type-is : type_wrong st.location_type (is_some st.parent) ≡ false
  unfolding stop_of stop_tests
  type-is = ap (type_wrong i.location_type) named_is ∙ tests.1.1.1.0

  needed-is : name_needed (parent_id_of ss st) (stop_input_of st) ≡ name_needed parent i
  unfolding stop_of stop_input_of
  needed-is = needed_by_flag (parent_id_of ss st) parent i (some-map _ f ∙ named_is)

  name-right-is : name_wrong (name_of st) (name_needed (parent_id_of ss st) (stop_input_of st)) (id_of st) ≡ false
  unfolding stop_tests
  name-right-is = (λ t. name_wrong (name_is t) (needed-is t) (id_is t)) ∙ tests.1.1.1.1.1.0

  deg-is : DegreesHeld st.degrees
  unfolding stop_of
  deg-is = deg

  new-kept : StopKept ss n st
  unfolding stop_tests
  new-kept = record {
    id_right = ap id_wrong id_is ∙ tests.1.0;
    type_right = type-is;
    parent_first = parent-kept ss n id name parent i (omega (arith, sound.few, sound.long));
    name_right = name-right-is;
    whole = whole_is;
    degrees = deg-is;
  }

  pub stop-keeps : ((k : ℕ) → k < n → StopKept ss k (stop_at ss k)) → (k : ℕ) → k < n + 1
      → StopKept (set ss n st) k (stop_at (set ss n st) k)
  stop-keeps old =
      let room = (passed searched ss n f id name parent i taken).room in
      stops-kept ss n st (omega (arith, room, sound.long)) new-kept old
