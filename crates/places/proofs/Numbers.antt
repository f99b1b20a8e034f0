-- Grouping the entries of stops is grouping their numbers.
use Rattle.std.specs.Prelude.{None, Option, Some, is_some}
use Prim.Native.Nat.{ℕ, zero, suc, ◌%◌, ◌≤◌, ◌<◌}
use mathlib.Core.Path.{◌≡◌, refl, sym, ap, ap₂, ◌∙◌}
use mathlib.Core.Bool.{Bool, true, false, cond, not}
use mathlib.Core.List.{List, [], ◌∷◌, ◌++◌, map, map-append, Memᴰ}
use native.Mathlib.Nat.{mod-eq_of_lt}
use native.Mathlib.Omega.{arith}
use lib.Dec.{eqb}
use lib.ListN.{length, get_or, take, set, replicate}
use lib.Seq.{length-take-le, get_or-take, ext_get_or}
use borrow.Author.Tests.{ne_eqb}
use Rattle.laws.specs.Lists.{foldl, span}
use Rattle.laws.specs.Sort.{sort}
use Rattle.laws.specs.Tables.{table}
use Rattle.laws.proofs.Folds.{span-mem}
use Rattle.laws.proofs.Sort.{sort-mem}
use Rattle.laws.proofs.Tables.{Filled, length-table, get_d-table, sort-map}
use Rattle.place.specs.declared.PlaceKey.{PlaceKey}
use Rattle.place.specs.Keys.{no_place, place_key, text_of}
use Rattle.place.specs.Near.{same_keys}
use Rattle.place.proofs.Placed.{placed}
use Rattle.stops.specs.declared.Stop.{Stop}
use Rattle.stops.specs.Stops.{id_of, name_of}
use Rattle.stops.specs.Sound.{stop_at}
use Rattle.places.specs.declared.Entry.{Entry}
use Rattle.places.specs.Keys.{parent_id, stop_key, key_at}
use Rattle.places.specs.Places.{has_key, same_place, id_less, Groups, first_match, place, no_groups, id_order, groups_of, places_of}
use Rattle.places.specs.Places as P
use Rattle.places.specs.Entries.{Numbered, blank_entry, entry_at, id_before, first_entry, EntryGroups, put, place_entry, no_entries, group_entries}

module _ (ss : List Stop) where
  -- a stop has a key if its key's tag is not 0
  keyed-tag : (i : ℕ) → eqb (key_at ss i).tag 0 ≡ not (has_key ss i)
  unfolding key_at stop_key has_key
  keyed-tag i = go (eqb s.location_type 0)
    where
      s : Stop
      s = stop_at ss i

      parent : Option (List ℕ)
      parent = parent_id ss s.parent

      k : PlaceKey
      k = place_key (is_some parent) (text_of parent) s.degrees (is_some (name_of s)) (text_of (name_of s)) (id_of s)

      go : (b : Bool) → eqb (cond b k no_place).tag 0 ≡ not b
      go true = ne_eqb k.tag 0 (placed (is_some parent) (text_of parent) s.degrees (is_some (name_of s)) (text_of (name_of s)) (id_of s))
      go false = refl

  first-map : (i : ℕ) (l : List ℕ) → first_entry (key_at ss i) (map (entry_at ss) l) ≡ first_match (same_place ss i) l
  unfolding entry_at same_place
  first-map i [] = refl
  first-map i (r ∷ l) = ap (cond (same_keys (key_at ss i) (key_at ss r)) (Some r)) (first-map i l)

  record Same (e : EntryGroups) (g : Groups) : Type 0 where
    pub reps : e.reps ≡ map (entry_at ss) g.reps
    pub places : e.places ≡ g.places

  module _ (e : EntryGroups) (g : Groups) (i : ℕ) (h : Same e g) (small : i < 128) where
    at : i % 128 ≡ i
    at = mod-eq_of_lt small

    by-case : (b : Bool) (f : Option ℕ) → Same (cond (not b) e (put e (entry_at ss i) f)) (cond b (P.placed g i f) g)
    unfolding entry_at
    by-case true (Some r) = record { reps = h.reps; places = ap₂ (λ (l : List ℕ) (k : ℕ). set l k r) h.places at }
    by-case true None = record {
      reps = ap (λ (l : List Entry). l ++ entry_at ss i ∷ []) h.reps ∙ sym (map-append (entry_at ss) g.reps (i ∷ []));
      places = ap₂ (λ (l : List ℕ) (k : ℕ). set l k i) h.places at;
    }
    by-case false f = h

    same_step : Same (place_entry e (entry_at ss i)) (place (same_place ss) (has_key ss) g i)
    unfolding entry_at
    same_step =
        let f : first_entry (key_at ss i) e.reps ≡ first_match (same_place ss i) g.reps =
        ap (first_entry (key_at ss i)) h.reps ∙ first-map i g.reps in
        rw (keyed-tag i, f) (by-case (has_key ss i) (first_match (same_place ss i) g.reps))

  same_fold : (l : List ℕ) (e : EntryGroups) (g : Groups) → Same e g → ((k : ℕ) → Memᴰ k l → k < 128)
      → Same (foldl place_entry e (map (entry_at ss) l)) (foldl (place (same_place ss) (has_key ss)) g l)
  same_fold [] e g h small = h
  same_fold (i ∷ l) e g h small =
      same_fold l (place_entry e (entry_at ss i)) (place (same_place ss) (has_key ss) g i) (same_step e g i h (small i (Memᴰ.head refl)))
      (λ k m. small k (Memᴰ.tail m))

  pub order_below : {k : ℕ} → Memᴰ k (id_order ss) → k < length ss
  unfolding id_order
  order_below m = omega (arith, (span-mem 0 (length ss) (sort-mem (id_less ss) (span 0 (length ss)) m)).1)

  -- the entries in the order of ids are those of the numbers in that order
  order-map : (n : ℕ) → length ss ≡ n → sort id_before (table n (entry_at ss)) ≡ map (entry_at ss) (id_order ss)
  unfolding table id_order id_less id_before entry_at
  order-map n e =
      ap (λ (k : ℕ). sort id_before (map (entry_at ss) (span 0 k))) (sym e) ∙ sym (sort-map id_before (entry_at ss) (span 0 (length ss)))

  groups-right : length ss ≤ 128 → (group_entries (map (entry_at ss) (id_order ss))).places ≡ places_of ss
  unfolding group_entries places_of groups_of
  groups-right h =
      (same_fold (id_order ss) no_entries no_groups (record { reps = refl; places = refl }) (λ k m. omega (arith, order_below m))).places

-- what a loop over the stops has put in
pub front : (ss : List Stop) (entries : List Entry) (i : ℕ) → length ss ≤ i → length ss ≤ 128
    → Filled (entry_at ss) blank_entry 128 (replicate 128 blank_entry) entries i → take (length ss) entries ≡ table (length ss) (entry_at ss)
front ss entries i h few g =
    ext_get_or blank_entry (take n entries) (table n (entry_at ss)) (long ∙ sym (length-table (entry_at ss) n))
    (λ k b. at k (omega (arith, long)))
  where
    n : ℕ
    n = length ss

    long : length (take n entries) ≡ n
    long = length-take-le n entries (omega (arith, g.long))

    at : (k : ℕ) → k < n → get_or (take n entries) k blank_entry ≡ get_or (table n (entry_at ss)) k blank_entry
    at k b = get_or-take n entries k blank_entry b ∙ g.done k (omega arith) ∙ sym (get_d-table (entry_at ss) blank_entry n k b)

-- the entries stand at the places of their numbers
pub numbered : (ss : List Stop) {entries : List Entry} → entries ≡ table (length ss) (entry_at ss) → Numbered entries
unfolding table entry_at
numbered ss e = rw e (go 0 (length ss) ∙ ap (span 0) (sym (length-table (entry_at ss) (length ss))))
  where
    go : (a n : ℕ) → map (λ x. x.stop) (map (entry_at ss) (span a n)) ≡ span a n
    go a zero = refl
    go a (suc n) = ap {B = List ℕ} (λ l. a ∷ l) (go (suc a) n)

-- the three steps of the code
pub group-parts : (ss : List Stop) (entries ordered : List Entry) {out : List ℕ} → length ss ≤ 128
    → entries ≡ table (length ss) (entry_at ss) → ordered ≡ sort id_before entries → out ≡ (group_entries ordered).places
    → out ≡ places_of ss
group-parts ss entries ordered few f g o =
    o ∙ ap (λ (x : List Entry). (group_entries x).places) (g ∙ ap (sort id_before) f ∙ order-map ss (length ss) refl) ∙ groups-right ss few
