-- A call more has no fewer joins: so a search that was stopped at a limit is stopped there with the call too.
use Prim.Native.Nat.{ℕ, ◌*◌, ◌≤◌}
use mathlib.Core.Path.{◌≡◌, refl, sym, ap, ◌∙◌}
use mathlib.Core.Bool.{Bool, true, false, cond, true≢false}
use mathlib.Core.List.{List, [], ◌∷◌, ◌++◌, map, Memᴰ}
use native.Mathlib.Omega.{arith}
use native.Mathlib.Nat.{mul-le-mul}
use lib.Dec.{eqb}
use lib.ListN.{length, length-append, length-map}
use Rattle.laws.specs.Lists.{filterb, take_while, concat_map}
use Rattle.laws.specs.Tails.{over_tails}
use Rattle.laws.specs.Sort.{insert_by}
use Rattle.laws.proofs.Bools.{not-true}
use Rattle.ways.specs.Rides.{leg, first_ride, rides, first_rides}
use Rattle.calls.specs.declared.Call.{Call}
use Rattle.offers.specs.Order.{earlier, in_order_of, clashes, Rising}
use Rattle.offers.specs.Offers.{Timetable, with_calls, same_run, origins_of, network_of}
use Rattle.offers.proofs.OrderLaws.{strict_earlier, between}
use Rattle.offers.proofs.RunLaws.{run-same, same-run}
use Rattle.limited.specs.Limited.{all_joins, finished_within}
use Rattle.limited.proofs.LimitLaws.{finished-within}
use Rattle.again.specs.Claims.{MoreJoins}
use Rattle.again.proofs.SortLaws.{put-sorted, rises}

-- where one alights that boarded at b
abbrev alights : Call → List Call → List Call
alights b later = filterb (λ (x : Call). x.alight) (take_while (same_run b) later)

-- ---- c put in where it stands in order

module _ (c : Call) where
  -- b stands before them all
  abbrev Behind : Call → List Call → Type 0
  Behind b ys = ((z : Call) → Memᴰ z (insert_by earlier c ys) → earlier b z ≡ true) × Rising (insert_by earlier c ys)

  -- as many at least are alighted at
  keeps : (b : Bool) (x : Call) (xs ys : List Call) → length xs ≤ length ys → length (cond b (x ∷ xs) xs) ≤ length (cond b (x ∷ ys) ys)
  keeps true x xs ys h = omega arith
  keeps false x xs ys h = h

  grows : (b : Bool) (x : Call) (xs : List Call) → length xs ≤ length (cond b (x ∷ xs) xs)
  grows true x xs = omega arith
  grows false x xs = omega arith

  -- what is behind c is of b's trip and day only if c is
  stops-before : (b y : Call) → earlier b c ≡ true → earlier c y ≡ true → same_run b c ≡ false → same_run b y ≡ false
  stops-before b y p q n =
      not-true (same_run b y) (λ e. true≢false (sym
      (run-same b c (between b c y (strict_earlier.asym b c p) (strict_earlier.asym c y q) (same-run b y e))) ∙ n))

  more-alights : (b : Call) (ys : List Call) → Behind b ys → length (alights b ys) ≤ length (alights b (insert_by earlier c ys))
  more-alights b [] w = omega arith
  more-alights b (y ∷ ys) w = by (earlier y c) refl w (more-alights b ys)
    where
      first : (s : Bool) → length (alights b ys) ≤ length (alights b (insert_by earlier c ys))
          → length (filterb (λ (x : Call). x.alight) (cond s (y ∷ take_while (same_run b) ys) []))
          ≤ length (filterb (λ (x : Call). x.alight) (cond s (y ∷ take_while (same_run b) (insert_by earlier c ys)) []))
      first true h = keeps y.alight y (alights b ys) (alights b (insert_by earlier c ys)) h
      first false h = omega arith

      front : (s : Bool) → same_run b c ≡ s → earlier b c ≡ true → earlier c y ≡ true
          → length (alights b (y ∷ ys)) ≤ length (filterb (λ (x : Call). x.alight) (cond s (c ∷ take_while (same_run b) (y ∷ ys)) []))
      front true e p q = grows c.alight c (alights b (y ∷ ys))
      front false e p q =
          let none : alights b (y ∷ ys) ≡ [] = ap (λ (t : Bool).
          filterb (λ (x : Call). x.alight) (cond t (y ∷ take_while (same_run b) ys) [])) (stops-before b y p q e) in
          omega (arith, ap length none)

      by : (t : Bool) → earlier y c ≡ t
          → (((z : Call) → Memᴰ z (cond t (y ∷ insert_by earlier c ys) (c ∷ y ∷ ys)) → earlier b z ≡ true)
          × Rising (cond t (y ∷ insert_by earlier c ys) (c ∷ y ∷ ys)))
          → (Behind b ys → length (alights b ys) ≤ length (alights b (insert_by earlier c ys)))
          → length (alights b (y ∷ ys)) ≤ length (alights b (cond t (y ∷ insert_by earlier c ys) (c ∷ y ∷ ys)))
      by true e w ih = first (same_run b y) (ih ((λ z m. w.0 z (Memᴰ.tail m)), w.1.1))
      by false e w ih = front (same_run b c) refl (w.0 c (Memᴰ.head refl)) (w.1.0 y (Memᴰ.head refl))

  -- of whatever is made of each call and of where one alights from it, by how many these are
  module _ {A : Type 0} (F : Call → List Call → List A)
      (more : (b : Call) (xs ys : List Call) → length (alights b xs) ≤ length (alights b ys) → length (F b xs) ≤ length (F b ys)) where
    more-tails : (ys : List Call) → Rising (insert_by earlier c ys)
        → length (over_tails F ys) ≤ length (over_tails F (insert_by earlier c ys))
    more-tails [] r = omega arith
    more-tails (y ∷ ys) r = by (earlier y c) r (more-tails ys)
      where
        by : (t : Bool) → Rising (cond t (y ∷ insert_by earlier c ys) (c ∷ y ∷ ys))
            → (Rising (insert_by earlier c ys) → length (over_tails F ys) ≤ length (over_tails F (insert_by earlier c ys)))
            → length (over_tails F (y ∷ ys)) ≤ length (over_tails F (cond t (y ∷ insert_by earlier c ys) (c ∷ y ∷ ys)))
        by true w ih =
            let here = more y ys (insert_by earlier c ys) (more-alights y ys w) in
            omega (
              arith,
              here,
              ih w.1,
              length-append (F y ys) (over_tails F ys),
              length-append (F y (insert_by earlier c ys)) (over_tails F (insert_by earlier c ys)),
            )
        by false w ih = omega (arith, length-append (F c (y ∷ ys)) (over_tails F (y ∷ ys)))

-- ---- rides and first rides

legs-long : (b : Bool) (x : Call) (xs ys : List Call) → length xs ≤ length ys
    → length (cond b (map (leg x) xs) []) ≤ length (cond b (map (leg x) ys) [])
legs-long true x xs ys h = omega (arith, length-map xs (leg x), length-map ys (leg x), h)
legs-long false x xs ys h = omega arith

firsts-long : (x : Call) (os : List ℕ) (xs ys : List Call) → length xs ≤ length ys
    → length (concat_map (λ o. map (first_ride o x) xs) os) ≤ length (concat_map (λ o. map (first_ride o x) ys) os)
firsts-long x [] xs ys h = omega arith
firsts-long x (o ∷ os) xs ys h =
    omega (
      arith,
      firsts-long x os xs ys h,
      h,
      length-map xs (first_ride o x),
      length-map ys (first_ride o x),
      length-append (map (first_ride o x) xs) (concat_map (λ o. map (first_ride o x) xs) os),
      length-append (map (first_ride o x) ys) (concat_map (λ o. map (first_ride o x) ys) os),
    )

either-long : (b : Bool) (x : Call) (os : List ℕ) (xs ys : List Call) → length xs ≤ length ys
    → length (cond b (concat_map (λ o. map (first_ride o x) xs) os) []) ≤ length (cond b (concat_map (λ o. map (first_ride o x) ys) os) [])
either-long true x os xs ys h = firsts-long x os xs ys h
either-long false x os xs ys h = omega arith

module _ (t : Timetable) (c : Call) (ys : List Call) (r : Rising (insert_by earlier c ys)) where
  more-rides : length (rides (network_of t) ys) ≤ length (rides (network_of t) (insert_by earlier c ys))
  unfolding rides network_of
  more-rides = more-tails c (λ b later. cond b.board (map (leg b) (alights b later)) [])
      (λ b xs zs h. legs-long b.board b (alights b xs) (alights b zs) h) ys r

  more-firsts : length (first_rides (network_of t) ys) ≤ length (first_rides (network_of t) (insert_by earlier c ys))
  unfolding first_rides network_of
  more-firsts =
      more-tails c (λ b later. cond b.board (concat_map (λ o. map (first_ride o b) (alights b later)) (origins_of t b)) [])
      (λ b xs zs h. either-long b.board b (origins_of t b) (alights b xs) (alights b zs) h) ys r

-- ---- joins

abbrev with_call : Timetable → Call → Timetable
with_call t c = with_calls t (t.calls ++ c ∷ [])

less-joins : (b : Bool) (m n p q : ℕ) → m ≤ p → n ≤ q → cond b (m * n) 0 ≤ cond b (p * q) 0
less-joins true m n p q h k = mul-le-mul h k
less-joins false m n p q h k = omega arith

pub more-joins : MoreJoins
unfolding all_joins network_of
more-joins t c clear =
    let up = rises t.calls c clear in
    let at = put-sorted t.calls c clear in
    rw at (less-joins (eqb t.max_transfers 1) (length (first_rides (network_of t) (in_order_of t.calls)))
    (length (rides (network_of t) (in_order_of t.calls)))
    (length (first_rides (network_of t) (insert_by earlier c (in_order_of t.calls))))
    (length (rides (network_of t) (insert_by earlier c (in_order_of t.calls))))
    (more-firsts t c (in_order_of t.calls) up) (more-rides t c (in_order_of t.calls) up))

pub stopped-with-more : (n : ℕ) (t : Timetable) (c : Call) → clashes (in_order_of (t.calls ++ c ∷ [])) ≡ false
    → finished_within n t ≡ false → finished_within n (with_call t c) ≡ false
stopped-with-more n t c clear e =
    not-true (finished_within n (with_call t c))
    (λ f. true≢false (sym ((finished-within n t).1 (omega (arith, (finished-within n (with_call t c)).0 f, more-joins t c clear))) ∙ e))
