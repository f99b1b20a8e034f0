-- The window and the order: calls handed in, sorted by trip, day and sequence, are shown in order.
use Rattle.std.specs.Prelude.{None, Option, Some}
use Prim.Native.Nat.{ℕ}
use mathlib.Core.Path.{◌≡◌, refl, sym, ap, ◌∙◌}
use mathlib.Core.Logic.{◌⊎◌, inl, inr}
use mathlib.Core.Bool.{Bool, true, false, cond}
use mathlib.Core.List.Memᴰ
use mathlib.Core.List.{List, [], ◌∷◌, ◌++◌, append_assoc, Memᴰ}
use lib.Dec.{ltb}
use Rattle.laws.specs.Sort.{insert_by, sort, Ordered, Strict, merge}
use Rattle.laws.proofs.Sort.{sort-ordered, merge-sort}
use Rattle.profile.specs.Figures.{lexb}
use Rattle.settings.specs.declared.Settings.{Settings}
use Rattle.calls.specs.declared.Call.{Call}
use Rattle.calls.specs.declared.CallInput.{CallInput}
use Rattle.calls.specs.Windows.{seen_call}
use Rattle.calls.specs.Calls.{un_timed, call_time, call_seen, window}
use Rattle.calls.specs.Shown.{shown, windowed}
use Rattle.calls.proofs.SoundLaws.{seen-is}
use Rattle.offers.specs.Order.{earlier, in_order_of}
use Rattle.offers.proofs.OrderLaws.{strict_earlier}
use Rattle.again.proofs.SortLaws.{in-front, in-order-again}

-- a call with the key of what was handed in, and no more
abbrev bare : CallInput → Call
bare i = record {
  trip = i.trip;
  day = i.day;
  sequence = i.sequence;
  stop = 0;
  arrival = 0;
  departure = 0;
  board = false;
  alight = false;
  board_request = false;
  alight_request = false;
}

abbrev pub raw_earlier : CallInput → CallInput → Bool
raw_earlier i j = earlier (bare i) (bare j)

strict_raw : Strict raw_earlier
strict_raw = record { asym = λ a b. strict_earlier.asym (bare a) (bare b); pass = λ a b c. strict_earlier.pass (bare a) (bare b) (bare c) }

abbrev pub raw_order : List CallInput → List CallInput
raw_order is = sort raw_earlier is

record Keeps (i : CallInput) (c : Call) : Type 0 where
  trip : i.trip ≡ c.trip
  day : i.day ≡ c.day
  sequence : i.sequence ≡ c.sequence

module _ (s : Settings) (h : ℕ) where
  window-keeps : (i : CallInput) (c : Call) → window s h i ≡ Some c → Keeps i c
  unfolding window seen_call
  window-keeps i c e = go (un_timed i) e
    where
      go : (b : Bool) → cond b None (call_seen s h i) ≡ Some c → Keeps i c
      go true q = absurd (cc)
      go false q = let same = seen-is h (call_time s i i.arrival) (call_time s i i.departure) i c q in
          record { trip = λ j. (same j).trip; day = λ j. (same j).day; sequence = λ j. (same j).sequence }

  -- what is shown is before what is shown as what was handed in is
  shown-before : (i j : CallInput) (b c : Call) → window s h i ≡ Some b → window s h j ≡ Some c → raw_earlier i j ≡ earlier b c
  shown-before i j b c e f =
      let x = window-keeps i b e in
      let y = window-keeps j c f in
      λ t. lexb (x.trip t) (y.trip t) (lexb (x.day t) (y.day t) (ltb (x.sequence t) (y.sequence t)))

  -- what is shown was handed in
  shown-from : (is : List CallInput) (z : Call) → Memᴰ z (windowed s h is) → (i : CallInput) × Memᴰ i is × (window s h i ≡ Some z)
  shown-from [] z m = absurd (Memᴰ.not-nil m)
  shown-from (i ∷ is) z m = go (window s h i) refl m (shown-from is z)
    where
      go : (v : Option Call) → window s h i ≡ v → Memᴰ z (shown v ++ windowed s h is)
          → (Memᴰ z (windowed s h is) → (j : CallInput) × Memᴰ j is × (window s h j ≡ Some z))
          → (j : CallInput) × Memᴰ j (i ∷ is) × (window s h j ≡ Some z)
      go None e n ih = let (j, k, q) = ih n in (j, Memᴰ.tail k, q)
      go (Some c) e n ih = by (Memᴰ.cases_cons n)
        where
          by : (z ≡ c) ⊎ Memᴰ z (windowed s h is) → (j : CallInput) × Memᴰ j (i ∷ is) × (window s h j ≡ Some z)
          by (inl q) = (i, Memᴰ.head refl, e ∙ ap Some (sym q))
          by (inr k) = let (j, l, q) = ih k in (j, Memᴰ.tail l, q)

  out-insert : (x : CallInput) → window s h x ≡ None → (ys : List CallInput) → windowed s h (insert_by raw_earlier x ys) ≡ windowed s h ys
  out-insert x e [] = rw e refl
  out-insert x e (y ∷ ys) = go (raw_earlier y x) (out-insert x e ys)
    where
      go : (b : Bool) → windowed s h (insert_by raw_earlier x ys) ≡ windowed s h ys
          → windowed s h (cond b (y ∷ insert_by raw_earlier x ys) (x ∷ y ∷ ys)) ≡ windowed s h (y ∷ ys)
      go true ih = ap (λ (r : List Call). shown (window s h y) ++ r) ih
      go false ih = rw e refl

  in_insert : (x : CallInput) (c : Call) → window s h x ≡ Some c → (ys : List CallInput) → Ordered raw_earlier ys
      → windowed s h (insert_by raw_earlier x ys) ≡ insert_by earlier c (windowed s h ys)
  in_insert x c e [] o = rw e refl
  in_insert x c e (y ∷ ys) o = go (raw_earlier y x) refl (in_insert x c e ys o.1)
    where
      behind : raw_earlier y x ≡ false → (z : Call) → Memᴰ z (windowed s h (y ∷ ys)) → earlier z c ≡ false
      behind q z m =
          let (i, n, w) = shown-from (y ∷ ys) z m in
          sym (shown-before i x z c w e) ∙ by i (Memᴰ.cases_cons n)
        where
          by : (i : CallInput) → (i ≡ y) ⊎ Memᴰ i ys → raw_earlier i x ≡ false
          by i (inl f) = ap (λ (j : CallInput). raw_earlier j x) f ∙ q
          by i (inr k) = strict_raw.pass x y i q (o.0 i k)

      front : raw_earlier y x ≡ true → (v : Option Call) → window s h y ≡ v
          → windowed s h (insert_by raw_earlier x ys) ≡ insert_by earlier c (windowed s h ys)
          → shown v ++ windowed s h (insert_by raw_earlier x ys) ≡ insert_by earlier c (shown v ++ windowed s h ys)
      front q None f ih = ih
      front q (Some b) f ih = rw (sym (shown-before y x b c f e) ∙ q) (ap {B = List Call} (λ l. b ∷ l) ih)

      go : (b : Bool) → raw_earlier y x ≡ b → windowed s h (insert_by raw_earlier x ys) ≡ insert_by earlier c (windowed s h ys)
          → windowed s h (cond b (y ∷ insert_by raw_earlier x ys) (x ∷ y ∷ ys)) ≡ insert_by earlier c (windowed s h (y ∷ ys))
      go true q ih = front q (window s h y) refl ih
      go false q ih = ap (λ (v : Option Call). shown v ++ windowed s h (y ∷ ys)) e
          ∙ sym (in-front earlier c (windowed s h (y ∷ ys)) (behind q))

  -- sorted as handed in, shown in order
  pub shown-sorted : (is : List CallInput) → windowed s h (raw_order is) ≡ in_order_of (windowed s h is)
  shown-sorted [] = refl
  shown-sorted (x ∷ xs) = go (window s h x) refl (shown-sorted xs)
    where
      go : (v : Option Call) → window s h x ≡ v → windowed s h (raw_order xs) ≡ in_order_of (windowed s h xs)
          → windowed s h (insert_by raw_earlier x (raw_order xs)) ≡ in_order_of (shown v ++ windowed s h xs)
      go None e ih = out-insert x e (raw_order xs) ∙ ih
      go (Some c) e ih = in_insert x c e (raw_order xs) (sort-ordered raw_earlier strict_raw xs) ∙ ap (insert_by earlier c) ih

  shown-append : (xs ys : List CallInput) → windowed s h (xs ++ ys) ≡ windowed s h xs ++ windowed s h ys
  shown-append [] ys = refl
  shown-append (x ∷ xs) ys = ap (λ (r : List Call). shown (window s h x) ++ r) (shown-append xs ys)
      ∙ sym (append_assoc (shown (window s h x)) (windowed s h xs) (windowed s h ys))

  -- a call more, after a sort
  pub shown-more : (is js : List CallInput) → in_order_of (windowed s h (raw_order is ++ js)) ≡ in_order_of (windowed s h (is ++ js))
  shown-more is js =
      ap in_order_of (shown-append (raw_order is) js ∙ ap (λ (r : List Call). r ++ windowed s h js) (shown-sorted is))
      ∙ sym (merge-sort earlier strict_earlier (in_order_of (windowed s h is)) (windowed s h js))
      ∙ ap (λ (r : List Call). merge earlier r (in_order_of (windowed s h js))) (in-order-again (windowed s h is))
      ∙ merge-sort earlier strict_earlier (windowed s h is) (windowed s h js)
      ∙ ap in_order_of (sym (shown-append is js))
