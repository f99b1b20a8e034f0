-- The place key of a stop handed in: it has one only, and a taken stop is held with it.
use Rattle.std.specs.Option.{unwrap_or}
use Rattle.key.specs.declared.NameError.{NameError}
use Rattle.std.specs.Prelude.{None, Some, Option, is_some, Ok, Result}
use Prim.Native.Nat.{ℕ}
use mathlib.Core.Path.{◌≡◌, refl, sym, ap, subst, ◌∙◌}
use mathlib.Core.Logic.{inl, inr}
use mathlib.Core.Bool.{Bool, true, false, not, true≢false}
use mathlib.Core.List.{List}
use borrow.Author.Tests.{eq-eqb}
use Rattle.laws.proofs.Bools.{cond-by, and-true}
use Rattle.laws.proofs.Options.{some-injective, none-ne-some, some-ne-none}
use Rattle.key.specs.Hash.{key_of}
use Rattle.key.specs.Utf8.{utf8, points}
use Rattle.key.specs.Name.{normalized, usable, name_key}
use Rattle.key.proofs.Names as names
use Rattle.place.specs.declared.Degrees.{Degrees}
use Rattle.place.specs.declared.PlaceKey.{PlaceKey}
use Rattle.place.specs.Keys.{parent_key, id_key, named_key, located_key, shown_key, place_key, text_of}
use Rattle.place.specs.Positions.{is_usable, at_if, micro, micro_of, usable_degrees}
use Rattle.stops.specs.declared.Stop.{Stop}
use Rattle.stops.specs.Stops.{id_of, name_of}
use Rattle.stops.specs.Answer.{name_needed}
use Rattle.places.specs.Keys.{stop_key}
use Rattle.comparison.specs.Taken.{StopGiven}
use Rattle.comparison.specs.Places.{Located, Called, Key, by_parent, by_name, by_id}

-- ---- a stop has one key

called-one : (g : StopGiven) (t u : List ℕ) → Called g t → Called g u → t ≡ u
called-one g t u (inl e) (inl f) = some-injective t u (sym e ∙ f)
called-one g t u (inl e) (inr (b, f)) = absurd (some-ne-none t (sym e ∙ b))
called-one g t u (inr (a, e)) (inl f) = absurd (some-ne-none u (sym f ∙ a))
called-one g t u (inr (a, e)) (inr (b, f)) = e ∙ sym f

pub key_one : (g : StopGiven) (a b : PlaceKey) → Key g a → Key g b → a ≡ b
unfolding parent_key
key_one g _ _ (by_parent {p = p} e) (by_parent {p = q} f) = ap parent_key (some-injective p q (sym e ∙ f))
key_one g _ _ (by_parent {p = p} e) (by_name f v c) = absurd (some-ne-none p (sym e ∙ f))
key_one g _ _ (by_parent {p = p} e) (by_id f n) = absurd (some-ne-none p (sym e ∙ f))
key_one g _ _ (by_name e v c) (by_parent {p = p} f) = absurd (some-ne-none p (sym f ∙ e))
key_one g _ _ (by_name {t = t} {d = d} e v c) (by_name {t = u} {d = d'} f w c') =
    let same : d ≡ d' = some-injective d d' (sym v.given ∙ w.given) in
    λ i. named_key (Ok (key_of (utf8 (normalized (points (called-one g t u c c' i)))))) (micro (same i).latitude)
    (micro (same i).longitude) g.id
key_one g _ _ (by_name {d = d} e v c) (by_id f n) = absurd (n d v)
key_one g _ _ (by_id e n) (by_parent {p = p} f) = absurd (some-ne-none p (sym f ∙ e))
key_one g _ _ (by_id e n) (by_name {d = d} f v c) = absurd (n d v)
key_one g _ _ (by_id e n) (by_id f m) = refl

-- ---- what a load holds of a stop for its key, and that a needed name can be used

pub record KeyHeld (st : Stop) (g : StopGiven) : Type 0 where
  pub name : name_of st ≡ g.name
  pub position : st.degrees ≡ g.input.degrees
  pub needed : name_needed g.parent g.input ≡ true → usable (points (unwrap_or g.name g.id)) ≡ true

-- the key of the texts handed in
abbrev pub given_key : StopGiven → PlaceKey
given_key g = place_key (is_some g.parent) (text_of g.parent) g.input.degrees (is_some g.name) (text_of g.name) g.id

module _ (g : StopGiven) (zero : g.input.location_type ≡ 0)
    (ok : name_needed g.parent g.input ≡ true → usable (points (unwrap_or g.name g.id)) ≡ true) where
  fit : g.parent ≡ None → (d : Degrees) → Located g d → usable (points (unwrap_or g.name g.id)) ≡ true
  unfolding name_needed
  fit e d v =
      ok (and-true _ _ (and-true _ _ (eq-eqb g.input.location_type 0 zero) (ap (λ (o : Option (List ℕ)). not (is_some o)) e))
      (ap is_usable v.given ∙ v.usable))

  -- of texts that can be used the fallback of `named_key` is never reached
  by-texts : (n : Option (List ℕ)) → g.name ≡ n → g.parent ≡ None → (d : Degrees) → Located g d
      → Key g (named_key (shown_key (is_some n) (text_of n) g.id) (micro d.latitude) (micro d.longitude) g.id)
  unfolding name_key
  by-texts (Some t) q e d v =
      let u : usable (points t) ≡ true = subst (λ (n : Option (List ℕ)). usable (points (unwrap_or n g.id)) ≡ true) q (fit e d v) in
      subst (λ (k : Result ℕ NameError). Key g (named_key k (micro d.latitude) (micro d.longitude) g.id)) (sym (names.keyed (points t) u))
      (by_name e v (inl q))
  by-texts None q e d v =
      let u : usable (points g.id) ≡ true = subst (λ (n : Option (List ℕ)). usable (points (unwrap_or n g.id)) ≡ true) q (fit e d v) in
      subst (λ (k : Result ℕ NameError). Key g (named_key k (micro d.latitude) (micro d.longitude) g.id))
      (sym (names.keyed (points g.id) u)) (by_name e v (inr (q, refl)))

  abbrev called : Result ℕ NameError
  called = shown_key (is_some g.name) (text_of g.name) g.id

  by-position : (l : Option Degrees) → g.input.degrees ≡ l → g.parent ≡ None → Key g (located_key (micro_of l) called g.id)
  unfolding micro_of id_key
  by-position None q e = by_id e (λ d v. none-ne-some d (sym q ∙ v.given))
  by-position (Some d) q e = go (usable_degrees d.latitude d.longitude) refl
    where
      go : (u : Bool) → usable_degrees d.latitude d.longitude ≡ u
          → Key g (located_key (at_if u (micro d.latitude) (micro d.longitude)) called g.id)
      go true r = by-texts g.name refl e d (record { given = q; usable = r })
      go false r = by_id e (λ c v.
          let same : c ≡ d = some-injective c d (sym v.given ∙ q) in
          true≢false (sym v.usable ∙ ap (λ (x : Degrees). usable_degrees x.latitude x.longitude) same ∙ r))

  pub given-key : Key g (given_key g)
  unfolding parent_key
  given-key = go g.parent refl
    where
      go : (p : Option (List ℕ)) → g.parent ≡ p → Key g
          (place_key (is_some p) (text_of p) g.input.degrees (is_some g.name) (text_of g.name) g.id)
      go (Some t) e = by_parent e
      go None e = by-position g.input.degrees refl e

-- the key of the stop that is held is that of the texts handed in
pub held-key : (st : Stop) (parent : Option (List ℕ)) (g : StopGiven) → KeyHeld st g → id_of st ≡ g.id
    → st.location_type ≡ g.input.location_type
    → g.input.location_type ≡ 0 → parent ≡ g.parent → stop_key st parent ≡ given_key g
unfolding stop_key
held-key st parent g v id kind zero same =
    cond-by _ _ (eq-eqb st.location_type 0 (kind ∙ zero))
    ∙ (λ k. place_key (is_some (same k)) (text_of (same k)) (v.position k) (is_some (v.name k)) (text_of (v.name k)) (id k))
