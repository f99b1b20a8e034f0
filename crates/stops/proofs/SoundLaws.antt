-- A stop that is taken keeps the stops sound: its id is new, and its parent a station.
use Rattle.std.specs.Prelude.{None, Option, Some, is_some}
use Prim.Native.Nat.{ℕ, zero, suc, ◌+◌, ◌-◌, ◌≤◌, ◌<◌}
use mathlib.Core.Path.{◌≡◌, refl, sym, ap, ap₂, subst, ◌∙◌}
use mathlib.Core.List.{List, [], ◌∷◌}
use mathlib.Core.Bool.{Bool, true, false, cond}
use native.Mathlib.Omega.{arith}
use borrow.Author.Tests.{eqb-true}
use lib.Dec.{eqb}
use lib.ListN.{length, get_or, take, set, length-set, length-take}
use lib.Seq.{get_or-set_same, get_or-set_other, get_or-take}
use Rattle.stops.specs.declared.Stop.{Stop}
use Rattle.stops.specs.declared.StopInput.{StopInput}
use Rattle.stops.specs.Texts.{same_bytes_of}
use Rattle.stops.specs.Stops.{id_of, name_of, is_it, find_stop}
use Rattle.stops.specs.Answer.{station_of, is_known}
use Rattle.stops.specs.Taken.{stop_of, blank_stop}
use Rattle.laws.proofs.Bools.{and-true-left}
use Rattle.laws.proofs.Slots.{blank-set, below-cases}
use Rattle.stops.specs.Sound.{stop_at, Parented, StopsSound, NoStopsSound, StopKeepsSound, IdKept, NameKept, NeededUsable}
use Rattle.texts.proofs.Laws.{read-whole}
use Rattle.stops.proofs.Laws.{Short, passed}

-- where nothing was found, no stop has the property
nothing : (p : Stop → Bool) (l : List Stop) (k j : ℕ) → is_some (find_stop p l k) ≡ false → j < length l → p (get_or l j blank_stop) ≡ false
nothing p [] k j e h = absurd (omega arith)
nothing p (s ∷ ss) k j e h = go (λ i f g. nothing p ss (k + 1) i f g) (p s) refl e j h
  where
    go : ((i : ℕ) → is_some (find_stop p ss (k + 1)) ≡ false → i < length ss → p (get_or ss i blank_stop) ≡ false)
        → (b : Bool) → p s ≡ b → is_some (cond b (Some k) (find_stop p ss (k + 1))) ≡ false → (j : ℕ) → j < suc (length ss)
        → p (get_or (s ∷ ss) j blank_stop) ≡ false
    go r true q e j h = let z : ◌≡◌ {A = ℕ} 0 1 = cc in absurd (omega arith)
    go r false q e zero h = q
    go r false q e (suc j) h = r j e (omega arith)

-- what was found has it
pub found : (p : Stop → Bool) (l : List Stop) (k m : ℕ) → find_stop p l k ≡ Some m
    → (k ≤ m) × (m < k + length l) × (p (get_or l (m - k) blank_stop) ≡ true)
found p [] k m e = let z : ◌≡◌ {A = ℕ} 0 1 = cc in absurd (omega arith)
found p (s ∷ ss) k m e = go (λ f. found p ss (k + 1) m f) (p s) refl e
  where
    go : (find_stop p ss (k + 1) ≡ Some m → (k + 1 ≤ m) × (m < k + 1 + length ss) × (p (get_or ss (m - (k + 1)) blank_stop) ≡ true))
        → (b : Bool) → p s ≡ b → cond b (Some k) (find_stop p ss (k + 1)) ≡ Some m
        → (k ≤ m) × (m < k + suc (length ss)) × (p (get_or (s ∷ ss) (m - k) blank_stop) ≡ true)
    go r true q e =
        let z : k ≡ m = cc in
        let n : m - k ≡ 0 = omega arith in
        (omega arith, omega arith, ap (λ (j : ℕ). p (get_or (s ∷ ss) j blank_stop)) n ∙ q)
    go r false q e =
        let f = r e in
        let n : m - k ≡ suc (m - (k + 1)) = omega (arith, f.0) in
        (omega (arith, f.0), omega (arith, f.1), ap (λ (j : ℕ). p (get_or (s ∷ ss) j blank_stop)) n ∙ f.2)

-- the stops after one more, at n
module _ (ss : List Stop) (n : ℕ) (s : Stop) (h : n < length ss) where
  at_new : stop_at (set ss n s) n ≡ s
  unfolding stop_at
  at_new = get_or-set_same ss n s blank_stop h

  at_old : (k : ℕ) → k < n → stop_at (set ss n s) k ≡ stop_at ss k
  unfolding stop_at
  at_old k g = get_or-set_other ss n k s blank_stop (λ e. omega arith)

  still : (p : Option ℕ) → Parented ss n p → Parented (set ss n s) (n + 1) p
  still None w = tt
  still (Some p) w = (omega (arith, w.0), ap (λ (x : Stop). x.location_type) (at_old p w.0) ∙ w.1)

held-id : (id : List ℕ) (name : Option (List ℕ)) (f : Option ℕ) (i : StopInput) → length id ≤ 32 → id_of (stop_of id name f i) ≡ id
unfolding stop_of
held-id id name f i h = read-whole 32 id h (omega arith)

module _ (ss : List Stop) (n : ℕ) (long : n ≤ length ss) where
  count : length (take n ss) ≡ n
  count = simp length-take (omega arith)

  -- an id that is not known differs from each
  fresh : (id : List ℕ) (j : ℕ) → is_known ss n id ≡ false → j < n → same_bytes_of (id_of (stop_at ss j)) id ≡ false
  unfolding is_known stop_at
  fresh id j e h =
      let g : get_or (take n ss) j blank_stop ≡ get_or ss j blank_stop = get_or-take n ss j blank_stop h in
      sym (ap (λ (x : Stop). same_bytes_of (id_of x) id) g) ∙ nothing (is_it false id) (take n ss) 0 j e (omega (arith, count))

  -- a station that is found is one
  station : (parent : Option (List ℕ)) (f : Option ℕ) → station_of ss n parent ≡ f → Parented ss n f
  unfolding station_of stop_at
  station parent None e = tt
  station None (Some m) e = let z : ◌≡◌ {A = ℕ} 0 1 = cc in absurd (omega arith)
  station (Some parent) (Some m) e =
      let f = found (is_it true parent) (take n ss) 0 m e in
      let h : m < n = omega (arith, f.1, count) in
      let zero-off : m - 0 ≡ m = omega arith in
      let g : get_or (take n ss) (m - 0) blank_stop ≡ get_or ss m blank_stop =
      ap (λ (j : ℕ). get_or (take n ss) j blank_stop) zero-off ∙ get_or-take n ss m blank_stop h in (
        h,
        eqb-true _ 1
            (and-true-left (eqb (get_or ss m blank_stop).location_type 1) (same_bytes_of (id_of (get_or ss m blank_stop)) parent)
            (sym (ap (is_it true parent) g) ∙ f.2)),
      )

pub parent-kept : (ss : List Stop) (n : ℕ) (id : List ℕ) (name parent : Option (List ℕ)) (i : StopInput)
    → n ≤ length ss → Parented ss n (stop_of id name (station_of ss n parent) i).parent
unfolding stop_of
parent-kept ss n id name parent i h = station ss n h parent (station_of ss n parent) refl

-- one more stop, whose id is new and whose parent is a station
module _ (ss : List Stop) (n : ℕ) (s : Stop) (id : List ℕ) (w : StopsSound ss n) (h : n < 128) (own : id_of s ≡ id)
    (kind : s.location_type ≤ 1) (new : is_known ss n id ≡ false) (parent : Parented ss n s.parent) where
  here : n < length ss
  here = omega (arith, w.long)

  apart : (j k : ℕ) → j < k → k < n + 1 → same_bytes_of (id_of (stop_at (set ss n s) j)) (id_of (stop_at (set ss n s) k)) ≡ false
  apart j k g f = below-cases (λ m. j < m → same_bytes_of (id_of (stop_at (set ss n s) j)) (id_of (stop_at (set ss n s) m)) ≡ false) n k f
      (λ less g'. ap₂ (λ (x y : Stop). same_bytes_of (id_of x) (id_of y)) (at_old ss n s here j (omega arith)) (at_old ss n s here k less)
      ∙ w.alone j k g' less)
      (λ g'. ap₂ same_bytes_of (ap id_of (at_old ss n s here j g')) (ap id_of (at_new ss n s here) ∙ own)
      ∙ fresh ss n (omega (arith, here)) id j new g') g

  housed : (k : ℕ) → k < n + 1 → Parented (set ss n s) (n + 1) (stop_at (set ss n s) k).parent
  housed k f = below-cases (λ m. Parented (set ss n s) (n + 1) (stop_at (set ss n s) m).parent) n k f
      (λ less. subst (λ (x : Stop). Parented (set ss n s) (n + 1) x.parent) (sym (at_old ss n s here k less))
      (still ss n s here _ (w.parents k less)))
      (subst (λ (x : Stop). Parented (set ss n s) (n + 1) x.parent) (sym (at_new ss n s here)) (still ss n s here _ parent))

  typed : (k : ℕ) → k < n + 1 → (stop_at (set ss n s) k).location_type ≤ 1
  typed k f = below-cases (λ m. (stop_at (set ss n s) m).location_type ≤ 1) n k f
      (λ less. subst (λ (x : Stop). x.location_type ≤ 1) (sym (at_old ss n s here k less)) (w.types k less))
      (subst (λ (x : Stop). x.location_type ≤ 1) (sym (at_new ss n s here)) kind)

  one_more : StopsSound (set ss n s) (n + 1)
  one_more = record {
    few = omega arith;
    long = length-set ss n s ∙ w.long;
    blank = blank-set blank_stop 128 ss n s w.long h w.blank;
    types = typed;
    alone = apart;
    parents = housed;
  }

pub no-stops-sound : NoStopsSound
no-stops-sound = record {
  few = omega arith;
  long = refl;
  blank = refl;
  types = λ k f. absurd (omega arith);
  alone = λ j k g f. absurd (omega arith);
  parents = λ k f. absurd (omega arith);
}

pub id-kept : IdKept
id-kept b ss n id name parent i e = held-id id name _ i (passed b ss n _ id name parent i e).id-fits

held-name : (id : List ℕ) (name : Option (List ℕ)) (f : Option ℕ) (i : StopInput) → Short name → name_of (stop_of id name f i) ≡ name
unfolding stop_of
held-name id None f i h = refl
held-name id (Some name) f i h = ap Some (read-whole 64 name h (omega arith))

pub name-kept : NameKept
name-kept b ss n id name parent i e = held-name id name _ i (passed b ss n _ id name parent i e).name-fits

pub needed-usable : NeededUsable
needed-usable b ss n id name parent i e = (passed b ss n _ id name parent i e).name-used

kind-kept : (id : List ℕ) (name : Option (List ℕ)) (f : Option ℕ) (i : StopInput) → (stop_of id name f i).location_type ≡ i.location_type
unfolding stop_of
kind-kept id name f i = refl

pub stop-keeps-sound : StopKeepsSound
stop-keeps-sound b ss n id name parent i w e =
    let p = passed b ss n (station_of ss n parent) id name parent i e in
    one_more ss n (stop_of id name (station_of ss n parent) i) id w p.room (held-id id name _ i p.id-fits)
    (omega (arith, p.type-fits, kind-kept id name (station_of ss n parent) i)) p.new
    (parent-kept ss n id name parent i (omega (arith, w.few, w.long)))
