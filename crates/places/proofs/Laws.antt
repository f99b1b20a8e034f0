-- What the proofs of this crate share: the order of ids by std's words, the key of a stop, the first match.
use Rattle.std.specs.Prelude.{None, Option, Some, option_map, option_copied, is_some}
use Rattle.std.specs.Option.{unwrap_or, MatchOption, IsSomeAnd}
use Rattle.std.specs.List.{find}
use Rattle.std.specs.Ordering.{nat_cmp, is_lt}
use Rattle.std.specs.Cmp.Lexicographic.{slice_cmp}
use Rattle.std.proofs.Common.{Bor, Ordering}
use Rattle.std.proofs.lemmas.Bool.Decides.{nat_tests}
use Rattle.std.proofs.lemmas.Cmp.{same_from_slice_cmp}
use Prim.Native.Nat.{ℕ}
use mathlib.Core.Path.{◌≡◌, refl, sym, ap, ◌∙◌}
use mathlib.Core.Bool.{Bool, true, false, cond}
use mathlib.Core.List.{List, [], ◌∷◌}
use native.Mathlib.Omega.{arith}
use lib.Dec.{eqb}
use Rattle.laws.specs.Order.{less_bytes}
use Rattle.laws.proofs.Bools.{cond-by, cond-not}
use Rattle.place.specs.declared.PlaceKey.{PlaceKey}
use Rattle.place.specs.Keys.{place_key, no_place, text_of}
use Rattle.place.specs.Near.{same_keys}
use Rattle.stops.specs.declared.Stop.{Stop}
use Rattle.stops.specs.Stops.{id_of, name_of}
use Rattle.places.specs.declared.Entry.{Entry}
use Rattle.places.specs.Keys.{stop_key}
use Rattle.places.specs.Entries.{first_entry}

-- ---- the order of ids

pub less-is : (xs ys : List ℕ) (r : Ordering) → r ≡ slice_cmp nat_cmp xs ys → is_lt r ≡ less_bytes xs ys
less-is = same_from_slice_cmp nat_cmp is_lt less_bytes refl (λ _ _. refl) (λ _ _. refl) (λ x y xs ys o h. grind (arith, nat_tests))

-- ---- what is read of an option of a reference

pub now-or : {A : Type 0} (r : Option (Bor A)) (b : Bor A) → (unwrap_or r b).now ≡ unwrap_or (option_map (λ x. x.now) r) b.now
now-or (Some x) b = refl
now-or None b = refl

-- ---- what a closure makes of an option

pub mapped : {A B : Type 0} (h : A → B) (o : Option A) (r : Option B) (P : A → B → Type 0)
    → MatchOption o (r ≡ None) (λ x. IsSomeAnd r (P x))
    → ((x : A) (y : B) → P x y → y ≡ h x) → r ≡ option_map h o
mapped h None r P m w = m
mapped h (Some x) (Some y) P m w = ap Some (w x y m)
mapped h (Some x) None P m w = absurd m

pub option_map-map : {A B C : Type 0} (f : A → B) (g : B → C) (o : Option A) → option_map (λ x. g (f x)) o ≡ option_map g (option_map f o)
option_map-map f g None = refl
option_map-map f g (Some x) = refl

-- ---- the first match

pub found-is : (key : PlaceKey) (l : List Entry) → option_map (λ e. e.stop) (find (λ e. same_keys key e.key) l) ≡ first_entry key l
found-is key [] = refl
found-is key (x ∷ l) = go (same_keys key x.key) (found-is key l)
  where
    go : (b : Bool) → option_map (λ e. e.stop) (find (λ e. same_keys key e.key) l) ≡ first_entry key l
        → option_map (λ e. e.stop) (cond b (Some x) (find (λ e. same_keys key e.key) l)) ≡ cond b (Some x.stop) (first_entry key l)
    go true e = refl
    go false e = e

-- ---- the key of texts that may be absent

some-copied : (r : Option (Bor (List ℕ))) → is_some r ≡ is_some (option_copied r)
some-copied (Some t) = refl
some-copied None = refl

pub key-parts : (s : Stop) (parent name : Option (Bor (List ℕ))) {id : List ℕ} {k : PlaceKey} → eqb s.location_type 0 ≡ true
    → option_copied name ≡ name_of s → id ≡ id_of s
    → k ≡ place_key (is_some parent) (text_of (option_copied parent)) s.degrees (is_some name) (text_of (option_copied name)) id
    → k ≡ stop_key s (option_copied parent)
unfolding stop_key
key-parts s parent name t n i q = q ∙ rw (some-copied parent, some-copied name, n, i) (sym (cond-by _ _ t))

pub key-none : (parent : Option (List ℕ)) (s : Stop) {k : PlaceKey} → eqb s.location_type 0 ≡ false → k ≡ no_place → k ≡ stop_key s parent
unfolding stop_key
key-none parent s t e = e ∙ sym (cond-not _ _ t)
