-- What the loops of an offer do, turn by turn.
use mathlib.Core.Path.{◌≡◌, refl, sym, ap, ◌∙◌}
use mathlib.Core.Bool.{Bool, true, false, not, cond}
use mathlib.Core.Logic.{◌≢◌}
use mathlib.Core.List.{List, [], ◌∷◌, ◌++◌, append-nil}
use Prim.Native.Nat.{ℕ, suc, ◌+◌, ◌≤◌, ◌<◌, max}
use native.Mathlib.Omega.{arith}
use native.Mathlib.Numerals.{add-one}
use lib.ListN.{length, get_or, take, drop, length-take, drop_of_length-le}
use lib.Seq.{get_or-set_other, take-suc, take-suc-set, drop-cons, get_or-take, take-take}
use Rattle.laws.specs.Lists.{filterb}
use Rattle.laws.proofs.Bools.{or-false-right}
use Rattle.laws.proofs.Lists.{filterb-append}
use Rattle.profile.specs.Journeys.{cov, due, no_row}
use Rattle.profile.specs.Kept.{latest}
use Rattle.profile.specs.Walk.{place, near}
use Rattle.profile.proofs.WalkLaws.{place-le, place-before, passes-found, passes_none}
use Rattle.profile.specs.Found.{Row}
use Rattle.search_state.specs.Layout.{slots, size}
use Rattle.search_state.specs.View.{row_at, rows, count_of}
use Rattle.candidate.specs.Pieces.{put_row, near_to, near_at, Skipped, passing, uncovered, Packed, latest_due}
use Rattle.candidate.proofs.PutLaws.{put-long, put-tail, rows-put}
use Rattle.search_state.proofs.RowLaws.{rows-length, rows_get, row-got}
use Rattle.search_state.proofs.ViewLaws.{few}

-- ---- the first that is near

pub skip-none : (o : Row) (ks : List Row) (i : ℕ) → Skipped o ks i i
skip-none o ks i = record { same = refl; up = omega arith }

module _ (l : List ℕ) (n i : ℕ) (o : Row) (few : n ≤ slots) (lt : i < n) where
  next : drop i (take n (rows l)) ≡ get_or (rows l) i no_row ∷ drop (suc i) (take n (rows l))
  next =
      let b : i < length (take n (rows l)) = omega (arith, length-take n (rows l), rows-length l) in
      drop-cons (take n (rows l)) i no_row b ∙ ap (λ (x : Row). x ∷ drop (suc i) (take n (rows l))) (get_or-take n (rows l) i no_row lt)

  near_next : near_at o (drop i (take n (rows l))) ≡ cond (near_to o (get_or (rows l) i no_row)) 0
      (suc (near_at o (drop (suc i) (take n (rows l)))))
  unfolding near_at near_to
  near_next = ap (place (λ k. near cov k o)) next

  -- a row that is near is the first
  near-found : (k : Row) → k ≡ get_or (rows l) i no_row → near_to o k ≡ true → Skipped o (take n (rows l)) 0 i
      → i ≡ near_at o (take n (rows l))
  near-found k ek t s =
      let y : near_to o (get_or (rows l) i no_row) ≡ true = ap (near_to o) (sym ek) ∙ t in
      let z : near_at o (drop i (take n (rows l))) ≡ 0 = near_next ∙ rw y in
      omega (arith, s.same, z)

  -- one that is not is skipped
  pub skip-turn : (j : ℕ) (k : Row) → k ≡ get_or (rows l) i no_row → near_to o k ≡ false → Skipped o (take n (rows l)) j i
      → Skipped o (take n (rows l)) j (i + 1)
  skip-turn j k ek f s =
      let y : near_to o (get_or (rows l) i no_row) ≡ false = ap (near_to o) (sym ek) ∙ f in
      let z : near_at o (drop i (take n (rows l))) ≡ suc (near_at o (drop (suc i) (take n (rows l)))) = near_next ∙ rw y in
      let e : near_at o (drop (i + 1) (take n (rows l))) ≡ near_at o (drop (suc i) (take n (rows l))) =
      ap (λ (x : ℕ). near_at o (drop x (take n (rows l)))) (add-one i) in
      record { same = omega (arith, s.same, z, e); up = omega (arith, s.up) }

near_none : (l : List ℕ) (n i : ℕ) (o : Row) → n ≤ i → Skipped o (take n (rows l)) 0 i → i ≡ near_at o (take n (rows l))
unfolding near_at
near_none l n i o h s =
    let e : drop i (take n (rows l)) ≡ [] = drop_of_length-le (take n (rows l)) {i = i} (omega (arith, length-take n (rows l))) in
    let z : near_at o (drop i (take n (rows l))) ≡ 0 = ap (place (λ k. near cov k o)) e in
    omega (arith, s.same, z)

-- ---- what it decides

module _ (l : List ℕ) (n j : ℕ) (o : Row) (few : n ≤ slots) (ej : j ≡ near_at o (take n (rows l))) where
  all : length (take n (rows l)) ≡ n
  all = omega (arith, length-take n (rows l), rows-length l)

  near_le : j ≤ n
  unfolding near_at
  near_le = omega (arith, place-le (λ k. near cov k o) (take n (rows l)), all)

  passed-at : j < n → (k : Row) (b : Bool) → k ≡ get_or (rows l) j no_row → b ≡ cov k o → b ≡ passing o (take n (rows l))
  unfolding passing near_at
  passed-at lt k b ek eb =
      eb ∙ ap (λ (x : Row). cov x o) (ek ∙ sym (get_or-take n (rows l) j no_row lt) ∙ ap (λ (i : ℕ). get_or (take n (rows l)) i no_row) ej)
      ∙ sym (passes-found cov o no_row (take n (rows l)) (omega (arith, all)))

  passed_none : n ≤ j → false ≡ passing o (take n (rows l))
  unfolding passing near_at
  passed_none h = sym (passes_none cov o (take n (rows l)) (omega (arith, all)))

  -- all in front of it stay
  front-packed : length l ≡ size → Packed (uncovered o) l l j j
  unfolding near_at uncovered
  front-packed long =
      let f =
      place-before (λ k. near cov k o) (λ k. not (cov o k)) (λ k e. ap not (or-false-right (cov k o) (cov o k) e)) (take n (rows l)) in
      let g : take (near_at o (take n (rows l))) (take n (rows l)) ≡ take j (rows l) =
      ap (λ (i : ℕ). take i (take n (rows l))) (sym ej) ∙ take-take j n (rows l) near_le in
      record {
        long = long;
        list = sym g ∙ sym f ∙ ap (filterb (λ k. not (cov o k))) g;
        small = omega arith;
        tail = λ x h. refl;
        upper = λ k h. refl;
      }

-- what is packed from where the walk stops
pub packs-from : (l : List ℕ) (c j : ℕ) (o : Row) → c ≡ count_of l → j ≡ near_at o (take c (rows l)) → length l ≡ size
    → Packed (uncovered o) l l j j × (j ≤ c) × (c ≤ slots)
packs-from l c j o ec ej long =
    let m : c ≤ slots = omega (arith, few l c ec) in
    (front-packed l c j o m ej long, near_le l c j o m ej, m)

-- the walk ends at a row that is near, or behind the last
pub found_at : (l : List ℕ) (n i : ℕ) (o : Row) → n ≤ slots → i < n → (k : Row) (b : Bool) → k ≡ get_or (rows l) i no_row → b ≡ cov k o
    → near_to o k ≡ true
    → Skipped o (take n (rows l)) 0 i → (i ≡ near_at o (take n (rows l))) × (b ≡ passing o (take n (rows l)))
found_at l n i o few lt k b ek eb t s = let e = near-found l n i o few lt k ek t s in (e, passed-at l n i o few e lt k b ek eb)

pub found_none : (l : List ℕ) (n i : ℕ) (o : Row) → n ≤ slots → n ≤ i → Skipped o (take n (rows l)) 0 i
    → (i ≡ near_at o (take n (rows l))) × (false ≡ passing o (take n (rows l)))
found_none l n i o few h s = let e = near_none l n i o h s in (e, passed_none l n i o few e h)

-- ---- the latest arrival

pub latest-turn : (l : List ℕ) (m m' i : ℕ) (k : Row) → i < slots → k ≡ get_or (rows l) i no_row → m' ≡ max m k.arrival
    → max m (latest_due (drop i (rows l))) ≡ latest_due (rows l) → max m' (latest_due (drop (i + 1) (rows l))) ≡ latest_due (rows l)
unfolding latest_due due
latest-turn l m m' i k h ek em inv =
    let b : i < length (rows l) = omega (arith, rows-length l) in
    let e : drop i (rows l) ≡ get_or (rows l) i no_row ∷ drop (suc i) (rows l) = drop-cons (rows l) i no_row b in
    let f : latest due (drop i (rows l)) ≡ max (get_or (rows l) i no_row).arrival (latest due (drop (suc i) (rows l))) =
    ap (latest due) e in
    let g : k.arrival ≡ (get_or (rows l) i no_row).arrival = ap (λ (x : Row). x.arrival) ek in
    let s : latest due (drop (i + 1) (rows l)) ≡ latest due (drop (suc i) (rows l)) =
    ap (λ (j : ℕ). latest due (drop j (rows l))) (add-one i) in
    omega (arith, inv, f, g, s, em)

pub latest-done : (l : List ℕ) (m i : ℕ) → slots ≤ i → max m (latest_due (drop i (rows l))) ≡ latest_due (rows l) → m ≡ latest_due (rows l)
unfolding latest_due
latest-done l m i h inv =
    let e : drop i (rows l) ≡ [] = drop_of_length-le (rows l) {i = i} (omega (arith, rows-length l)) in
    let f : latest due (drop i (rows l)) ≡ 0 = ap (latest due) e in
    omega (arith, inv, f)

-- ---- packing in place

pub packed_none : (p : Row → Bool) (l : List ℕ) → length l ≡ size → Packed p l l 0 0
packed_none p l long = record { long = long; list = refl; small = omega arith; tail = λ x h. refl; upper = λ k h. refl }

module _ (p : Row → Bool) (l m : List ℕ) (i n : ℕ) (h : i < slots) (s : Packed p l m i n) where
  same_row : row_at m i ≡ get_or (rows l) i no_row
  same_row = sym (rows_get m i h) ∙ s.upper i (omega arith)

  more : filterb p (take (i + 1) (rows l)) ≡ filterb p (take i (rows l)) ++ filterb p (row_at m i ∷ [])
  more =
      ap (λ (j : ℕ). filterb p (take j (rows l))) (add-one i)
      ∙ ap (filterb p) (take-suc (rows l) i no_row (omega (arith, rows-length l)))
      ∙ filterb-append p (take i (rows l)) (get_or (rows l) i no_row ∷ [])
      ∙ ap (λ (x : Row). filterb p (take i (rows l)) ++ filterb p (x ∷ [])) (sym same_row)

  kept-turn : p (row_at m i) ≡ true → Packed p l (put_row m n (row_at m i)) (i + 1) (n + 1)
  kept-turn e =
      let room : n < slots = omega (arith, s.small) in
      let r = rows-put m n (row_at m i) s.long room in
      let one : filterb p (row_at m i ∷ []) ≡ row_at m i ∷ [] = rw e refl in
      record {
        long = put-long m n (row_at m i) ∙ s.long;
        list =
            ap (λ (j : ℕ). take j (rows (put_row m n (row_at m i)))) (add-one n)
            ∙ ap (take (suc n)) r
            ∙ take-suc-set (rows m) n (row_at m i) (omega (arith, rows-length m))
            ∙ ap (λ (ys : List Row). ys ++ row_at m i ∷ []) s.list
            ∙ ap (λ (ys : List Row). filterb p (take i (rows l)) ++ ys) (sym one)
            ∙ sym more;
        small = omega (arith, s.small);
        tail = λ x b. put-tail m n (row_at m i) s.long room x b ∙ s.tail x b;
        upper = λ k b.
            let d : k ≢ n = λ q. omega (arith, s.small) in
            ap (λ (ys : List Row). get_or ys k no_row) r ∙ get_or-set_other (rows m) n k (row_at m i) no_row d ∙ s.upper k (omega arith);
      }

  gone-turn : p (row_at m i) ≡ false → Packed p l m (i + 1) n
  gone-turn e =
      let none : filterb p (row_at m i ∷ []) ≡ [] = rw e refl in
      record {
        long = s.long;
        list =
            s.list ∙ sym (append-nil (filterb p (take i (rows l)))) ∙ ap (λ (ys : List Row). filterb p (take i (rows l)) ++ ys) (sym none)
            ∙ sym more;
        small = omega (arith, s.small);
        tail = s.tail;
        upper = λ k b. s.upper k (omega arith);
      }

-- by what a test answers of the row looked at
module _ (p : Row → Bool) (l m m' : List ℕ) (i n : ℕ) (h : i < slots) (k : Row) {b : Bool} (ek : k ≡ get_or (rows m) i no_row)
    (eb : b ≡ p k) (s : Packed p l m i n) where
  at_row : k ≡ row_at m i
  at_row = row-got m i k h ek

  pub pack-kept : b ≡ true → m' ≡ put_row m n k → Packed p l m' (i + 1) (n + 1)
  pack-kept t el = rw (el, at_row) (kept-turn p l m i n h s (ap p (sym at_row) ∙ sym eb ∙ t))

  pub pack-gone : b ≡ false → m' ≡ m → Packed p l m' (i + 1) n
  pack-gone t el = rw el (gone-turn p l m i n h s (ap p (sym at_row) ∙ sym eb ∙ t))

pub packed_all : (p : Row → Bool) (l m : List ℕ) (i c n : ℕ) → i ≤ c → c ≤ i → Packed p l m i n → Packed p l m c n
packed_all p l m i c n a b s = let e : c ≡ i = omega arith in rw e s
