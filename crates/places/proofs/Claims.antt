-- Every stop with a key has the right place, a stop without one has none, and places are not merged through a chain.
use Rattle.std.specs.Prelude.{Option, is_some}
use Prim.Native.Nat.{ℕ, ◌^◌, ◌≤◌, ◌<◌}
use mathlib.Core.Path.{◌≡◌, refl, sym, ap, ◌∙◌, subst}
use mathlib.Core.Logic.{◌⊎◌, inl, inr}
use mathlib.Core.Bool.{Bool, true, false, cond, true≢false}
use mathlib.Core.List.{List, [], ◌∷◌, Memᴰ}
use native.Mathlib.Nat.{le_trans}
use native.Mathlib.Omega.{arith}
use lib.Dec.{eqb, lit≤}
use lib.IntN.{nat_abs}
use lib.ListN.{length, take}
use Rattle.laws.specs.Lists.{span, foldl}
use Rattle.laws.specs.Sort.{sort, Strict}
use Rattle.laws.proofs.Folds.{mem-span}
use Rattle.laws.proofs.Order.{strict-bytes}
use Rattle.laws.proofs.Sort.{sort-ordered, mem-sort}
use Rattle.place.specs.declared.PlaceKey.{PlaceKey}
use Rattle.place.specs.Keys.{place_key, no_place, text_of}
use Rattle.place.specs.Promises.{LatFits}
use Rattle.place.proofs.Placed.{key-in-range}
use Rattle.place.proofs.SameKeys.{reflexive}
use Rattle.stops.specs.declared.Stop.{Stop}
use Rattle.stops.specs.Stops.{id_of, name_of}
use Rattle.stops.specs.Sound.{stop_at}
use Rattle.places.specs.Keys.{parent_id, stop_key, key_at}
use Rattle.places.specs.Places.{has_key, same_place, id_less, place, no_groups, id_order, groups_of, places_of}
use Rattle.places.specs.Promises.{place_at, PlaceRight, PlacesRight, EveryPlace, NoKeyNoPlace, ChainNotMerged}
use Rattle.places.proofs.Orders.{order-apart}
use Rattle.places.proofs.Numbers.{order_below}
use Rattle.places.proofs.Invariant.{Good, good-all}

pub strict-ids : (ss : List Stop) → Strict (id_less ss)
unfolding id_less
strict-ids ss = strict-bytes (λ (k : ℕ). id_of (stop_at ss k))

-- a key is one place with itself
key_fits : (ss : List Stop) (k : ℕ) → LatFits (key_at ss k)
unfolding key_at stop_key
key_fits ss k = go (eqb s.location_type 0)
  where
    s : Stop
    s = stop_at ss k

    parent : Option (List ℕ)
    parent = parent_id ss s.parent

    key : PlaceKey
    key = place_key (is_some parent) (text_of parent) s.degrees (is_some (name_of s)) (text_of (name_of s)) (id_of s)

    small : 90000000 ≤ 2 ^ 31
    small = lit≤ tt

    go : (b : Bool) → nat_abs (cond b key no_place).lat ≤ 2 ^ 31
    go true =
        le_trans (key-in-range (is_some parent) (text_of parent) s.degrees (is_some (name_of s)) (text_of (name_of s)) (id_of s)).0 small
    go false = lit≤ tt

pub same_self : (ss : List Stop) (k : ℕ) → same_place ss k k ≡ true
unfolding same_place
same_self ss k = reflexive (key_at ss k) (key_fits ss k)

module _ (ss : List Stop) (few : length ss ≤ 128) where
  abbrev Done : Type 0
  Done = Good (same_place ss) (has_key ss) (id_less ss) (strict-ids ss) (id_order ss) (groups_of ss)

  done : Done
  unfolding groups_of id_order
  done =
      good-all (same_place ss) (has_key ss) (id_less ss) (strict-ids ss) (id_order ss)
      (sort-ordered (id_less ss) (strict-ids ss) (span 0 (length ss))) (order-apart (id_less ss) (length ss))
      (λ k m. omega (arith, order_below ss m))

  pub in_order : (k : ℕ) → k < length ss → Memᴰ k (id_order ss)
  unfolding id_order
  in_order k h = mem-sort (id_less ss) (span 0 (length ss)) (mem-span 0 (length ss) k (omega arith) (omega arith))

  -- a stop that is its own place is a representative
  is-rep : (q : ℕ) → q < length ss → place_at ss q ≡ q → Memᴰ q (groups_of ss).reps
  unfolding places_of
  is-rep q h e = go (has_key ss q) refl
    where
      go : (b : Bool) → has_key ss q ≡ b → Memᴰ q (groups_of ss).reps
      go true t = let w = done.each q (in_order q h) t in subst (λ (r : ℕ). Memᴰ r (groups_of ss).reps) (sym w.1.at ∙ e) w.1.rep
      go false t = absurd (omega (arith, e, done.others q (λ m u. true≢false (sym u ∙ t))))

  right : PlacesRight ss (place_at ss)
  unfolding places_of
  right k h t =
      let w = done.each k (in_order k h) t in
      subst (λ (r : ℕ). PlaceRight ss (place_at ss) k r) (sym w.1.at)
      (record {
        known = order_below ss (done.from w.0 w.1.rep).0;
        keyed = (done.from w.0 w.1.rep).1;
        own = done.own w.0 w.1.rep;
        matches = fits w.0 w.1.fits;
        before = w.1.before;
        least = λ q b t' e s. w.1.least q (is-rep q b e) s;
      })
    where
      fits : (r : ℕ) → (r ≡ k) ⊎ (same_place ss k r ≡ true) → same_place ss k r ≡ true
      fits r (inl e) = ap (same_place ss k) e ∙ same_self ss k
      fits r (inr s) = s

  bare : (k : ℕ) → k < length ss → has_key ss k ≡ false → place_at ss k ≡ 65535
  unfolding places_of
  bare k h t = done.others k (λ m u. true≢false (sym u ∙ t))

pub every-place : EveryPlace
every-place ss few = right ss few

pub no-key-no-place : NoKeyNoPlace
no-key-no-place ss few k h t = bare ss few k h t

-- ---- three stops

module _ (same : ℕ → ℕ → Bool) (keyed : ℕ → Bool) (lt : ℕ → ℕ → Bool) where
  three-order : lt 1 0 ≡ false → lt 2 1 ≡ false → sort lt (0 ∷ 1 ∷ 2 ∷ []) ≡ 0 ∷ 1 ∷ 2 ∷ []
  three-order p q = rw (q, p)

  three-places : keyed 0 ≡ true → keyed 1 ≡ true → keyed 2 ≡ true → same 1 0 ≡ true → same 2 0 ≡ false
      → take 3 (foldl (place same keyed) no_groups (0 ∷ 1 ∷ 2 ∷ [])).places ≡ 0 ∷ 0 ∷ 2 ∷ []
  three-places k0 k1 k2 s10 s20 = rw (k0, k1, s10, k2, s20)

pub chain-not-merged : ChainNotMerged
unfolding places_of groups_of id_order
chain-not-merged a b c k ab bc s10 s21 s20 =
    let ss = a ∷ b ∷ c ∷ [] in
    ap (λ (l : List ℕ). take 3 (foldl (place (same_place ss) (has_key ss)) no_groups l).places)
    (three-order (same_place ss) (has_key ss) (id_less ss) ab bc)
    ∙ three-places (same_place ss) (has_key ss) (id_less ss) (k 0 (omega arith)) (k 1 (omega arith)) (k 2 (omega arith)) s10 s20
