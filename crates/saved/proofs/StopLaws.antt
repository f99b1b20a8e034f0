-- Each stop of a written load is taken again, with its number.
use Rattle.refusal.specs.declared.Accepted.TheVariants.{Taken}
use Rattle.std.specs.Prelude.{None, Option, Some, Ok, is_some, option_map}
use mathlib.Core.Path.{◌≡◌, refl, ap, ◌∙◌}
use mathlib.Core.Bool.{Bool, true, false, not, ◌&&◌}
use mathlib.Core.List.{List, [], ◌∷◌}
use Prim.Native.Nat.{ℕ, zero, suc, ◌+◌, ◌<◌}
use native.Mathlib.Omega.{arith}
use native.Mathlib.Numerals.{add-one}
use lib.Dec.{eqb, leb}
use lib.ListN.{length, get_or, take, set, length-take}
use lib.Seq.{get_or-take}
use borrow.Author.Tests.{eq-eqb, lt-leb}
use Rattle.laws.proofs.Bools.{and-true}
use Rattle.refusal.specs.First.{first_answer}
use Rattle.settings.specs.declared.Settings.{Settings}
use Rattle.stops.specs.declared.Stop.{Stop}
use Rattle.stops.specs.declared.StopInput.{StopInput}
use Rattle.stops.specs.Texts.{same_bytes_of}
use Rattle.stops.specs.Stops.{id_of, name_of, is_it, find_stop}
use Rattle.stops.specs.Answer.{station_of, id_wrong, is_known, type_wrong, name_needed, name_wrong, stop_tests}
use Rattle.stops.specs.Taken.{stop_of, blank_stop}
use Rattle.stops.specs.Sound.{stop_at, Parented, StopsSound}
use Rattle.calls.specs.declared.Call.{Call}
use Rattle.rules.specs.declared.Rule.{Rule}
use Rattle.load.specs.declared.Load.{Load}
use Rattle.load.specs.Load.{with_stops}
use Rattle.load.specs.Steps.{station_in, stop_spec}
use Rattle.load.specs.FillStep.{stop}
use Rattle.steps.specs.Steps.{filling, stepped}
use Rattle.file.specs.Record.{kind_right, filled, step_in}
use Rattle.codec.specs.Kinds.{stop_body}
use Rattle.codec.proofs.BackLaws.{back}
use Rattle.written.proofs.StopLaws.{some-map}
use Rattle.codec.specs.Parts.{parent_id_of, stop_input_of}
use Rattle.written.specs.Kept.{StopKept}
use Rattle.saved.specs.Saved.{Takes, stop_record}
use Rattle.saved.proofs.FeedLaws.{takes}
use Rattle.saved.proofs.SlotLaws.{up_to, up_more, up-taken, load_of}

-- ---- the stop with an id

same_self : (xs : List ℕ) → same_bytes_of xs xs ≡ true
same_self [] = refl
same_self (x ∷ xs) = and-true _ _ (eq-eqb x x refl) (same_self xs)

find_at : (p : Stop → Bool) (xs : List Stop) (m j : ℕ) → j < length xs → p (get_or xs j blank_stop) ≡ true
    → ((i : ℕ) → i < j → p (get_or xs i blank_stop) ≡ false) → find_stop p xs m ≡ Some (m + j)
find_at p [] m j h t n = absurd (omega arith)
find_at p (x ∷ xs) m zero h t n =
    let e : m ≡ m + 0 = omega arith in
    rw t (ap Some e)
find_at p (x ∷ xs) m (suc j) h t n =
    let e : m + 1 + j ≡ m + suc j = omega arith in
    rw (n 0 (omega arith)) (find_at p xs (m + 1) j (omega arith) t (λ i g. n (suc i) (omega arith)) ∙ ap Some e)

find_none : (p : Stop → Bool) (xs : List Stop) (m : ℕ) → ((i : ℕ) → i < length xs → p (get_or xs i blank_stop) ≡ false)
    → find_stop p xs m ≡ None
find_none p [] m n = refl
find_none p (x ∷ xs) m n = rw (n 0 (omega arith)) (find_none p xs (m + 1) (λ i g. n (suc i) (omega arith)))

-- ---- a stop that no test sends back

module _ (searched : Bool) (ss : List Stop) (k : ℕ) (f : Option ℕ) (id : List ℕ) (name parent : Option (List ℕ)) (i : StopInput) where
  no_test : searched ≡ false → id_wrong id ≡ false → is_known ss k id ≡ false → type_wrong i.location_type (is_some parent) ≡ false
      → (is_some parent && not (is_some f)) ≡ false → name_wrong name (name_needed parent i) id ≡ false → leb 128 k ≡ false
      → first_answer (stop_tests searched ss k f id name parent i) ≡ Ok Taken
  unfolding stop_tests first_answer
  no_test a b c d e g h = rw (a, b, c, d, e, g, h) refl

stop-taken : (l : Load) (id : List ℕ) (name parent : Option (List ℕ)) (i : StopInput) (f : Option ℕ) → station_in l parent ≡ f
    → first_answer (stop_tests l.searched l.stops l.stop_count f id name parent i) ≡ Ok Taken
    → stop_spec l id name parent i ≡ record {
      answer = Ok Taken;
      load = with_stops l (set l.stops l.stop_count (stop_of id name f i)) (l.stop_count + 1);
    }
unfolding stop_spec
stop-taken l id name parent i f e t = rw (e, t) refl

-- ---- the stop of number k

module _ (stops : List Stop) (count k : ℕ) (sound : StopsSound stops count) (below : k < count) where
  room : k < 128
  room = omega (arith, sound.few)

  first-long : length (take k stops) ≡ k
  first-long = simp length-take (omega (arith, sound.long, room))

  first-at : (j : ℕ) → j < k → get_or (take k stops) j blank_stop ≡ stop_at stops j
  unfolding stop_at
  first-at j h = get_or-take k stops j blank_stop h

  -- no stop before it has its id
  new-id : is_known (up_to blank_stop 128 stops k) k (id_of (stop_at stops k)) ≡ false
  unfolding is_known
  new-id =
      rw (up-taken blank_stop 128 stops sound.long k (omega (arith, room)))
      (ap is_some (find_none (is_it false (id_of (stop_at stops k))) (take k stops) 0
      (λ j h. let g : j < k = omega (arith, first-long) in
      ap (is_it false (id_of (stop_at stops k))) (first-at j g) ∙ sound.alone j k g below)))

  -- a station before it is found by its id
  station-at : (p : ℕ) → p < k → (stop_at stops p).location_type ≡ 1
      → station_of (up_to blank_stop 128 stops k) k (Some (id_of (stop_at stops p))) ≡ Some p
  unfolding station_of
  station-at p h e =
      let test = is_it true (id_of (stop_at stops p)) in
      let z : 0 + p ≡ p = omega arith in
      rw (up-taken blank_stop 128 stops sound.long k (omega (arith, room)))
      (find_at test (take k stops) 0 p (omega (arith, first-long))
      (ap test (first-at p h) ∙ and-true _ _ (eq-eqb _ 1 e) (same_self (id_of (stop_at stops p))))
      (λ j g. ap test (first-at j (omega arith)) ∙ and-off (eqb (stop_at stops j).location_type 1) _ (sound.alone j p g (omega arith)))
      ∙ ap Some z)
    where
      and-off : (x y : Bool) → y ≡ false → (x && y) ≡ false
      and-off true y e = e
      and-off false y e = refl

  module _ (told : StopKept stops k (stop_at stops k)) where
    abbrev here : Stop
    here = stop_at stops k

    abbrev parent : Option (List ℕ)
    parent = parent_id_of stops here

    station-is : station_of (up_to blank_stop 128 stops k) k parent ≡ here.parent
    unfolding station_of
    station-is = go here.parent told.parent_first
      where
        go : (p : Option ℕ) → Parented stops k p → station_of (up_to blank_stop 128 stops k) k
            (option_map (λ (q : ℕ). id_of (stop_at stops q)) p) ≡ p
        go (Some p) w = station-at p w.0 w.1
        go None w = refl

    found : (is_some parent && not (is_some here.parent)) ≡ false
    found = go here.parent
      where
        go : (p : Option ℕ) → (is_some (option_map (λ (q : ℕ). id_of (stop_at stops q)) p) && not (is_some p)) ≡ false
        go (Some p) = refl
        go None = refl

    type-right : type_wrong here.location_type (is_some parent) ≡ false
    type-right = ap (type_wrong here.location_type) (some-map (λ (q : ℕ). id_of (stop_at stops q)) here.parent) ∙ told.type_right

    -- what its record hands in
    step_is : step_in (stop_record stops here) ≡ filling (stop (id_of here) (name_of here) parent (stop_input_of here))
    unfolding step_in stop_record stop_body stop_input_of
    step_is =
        let b = back.stop (id_of here) (name_of here) parent (stop_input_of here) told.degrees in
        λ t. filling (stop (b.id_is t) (b.name_is t) (b.parent_is t) (b.rest_is t))

    filled_is : filled false (stop_record stops here) ≡ true
    unfolding filled stop_record stop_body stop_input_of
    filled_is = (back.stop (id_of here) (name_of here) parent (stop_input_of here) told.degrees).filled

    module _ (s : Settings) (rules : List Rule) (ruleCount : ℕ) (calls : List Call) (callCount : ℕ) where
      abbrev at : ℕ → Load
      at n = load_of s (up_to blank_stop 128 stops n) n rules ruleCount calls callCount

      stepped-is : stop_spec (at k) (id_of here) (name_of here) parent (stop_input_of here)
          ≡ record { answer = Ok Taken; load = at (suc k) }
      unfolding stop_input_of stop_at
      stepped-is =
          let t : Stop = here in
          let e = up_more blank_stop 128 stops sound.long k blank_stop room in
          stop-taken (at k) (id_of t) (name_of t) parent (stop_input_of t) t.parent station-is
          (no_test false (up_to blank_stop 128 stops k) k t.parent (id_of t) (name_of t) parent
          (stop_input_of t) refl told.id_right new-id type-right found told.name_right (lt-leb 128 k room))
          ∙ (λ r. record {
            answer = Ok Taken;
            load = load_of s (set (up_to blank_stop 128 stops k) k (told.whole r))
                (add-one k r) rules ruleCount calls callCount;
          })
          ∙ (λ r. record { answer = Ok Taken; load = load_of s (e r) (suc k) rules ruleCount calls callCount })

      pub stop-takes : Takes (at k) (stop_record stops here) (at (suc k))
      unfolding stop_record stop_body kind_right
      stop-takes = takes (at k) (at (suc k)) 2 _ refl filled_is (ap (stepped (at k)) step_is ∙ stepped-is) refl
