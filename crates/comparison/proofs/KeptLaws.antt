-- `front` is the offers at the positions that stand; put in order, each goes before all after it.
use mathlib.Core.Path.{◌≡◌, refl, sym, ap, subst, ◌∙◌}
use mathlib.Core.Logic.{◌⊎◌, inl, inr, ◌↔◌, ⊎_elim}
use mathlib.Core.Bool.{Bool, true, false, not, cond, ◌&&◌, true≢false, false≢true}
use mathlib.Core.List.Memᴰ
use mathlib.Core.List.{List, [], ◌∷◌, ◌++◌, map, append_assoc, append-nil, Memᴰ}
use Prim.Native.Nat.{ℕ, zero, suc, ◌+◌, ◌≤◌, ◌<◌}
use native.Mathlib.Omega.{arith}
use lib.Dec.{leb}
use lib.ListN.{length, get_or, length-append, get_or-append}
use borrow.Author.Tests.{leb-true, leb-false, le-leb}
use Rattle.laws.specs.Lists.{anyb}
use Rattle.laws.specs.Sort.{insert_by, sort}
use Rattle.laws.proofs.Bools.{test, not-true as is_false}
use Rattle.laws.proofs.Lists.{anyb-not, anyb-none}
use Rattle.laws.proofs.Sort.{sort-mem, mem-sort}
use Rattle.laws.proofs.Lists.{mem-get_d}
use Rattle.profile.specs.declared.Journey.{Journey}
use Rattle.profile.specs.Figures.{covᶠ, dueᶠ}
use Rattle.profile.specs.Front.{beats, counts, after, front}
use Rattle.profile.specs.Best.{Ordered, sooner, ordered}
use Rattle.profile.specs.Journeys.{journey_figures, no_journey}
use Rattle.profile.proofs.ClaimLaws.{put-in-order}
use Rattle.comparison.specs.Order.{EqualsOrBeats, Same, Beats}
use Rattle.comparison.specs.Best.{AsGood}
use Rattle.comparison.specs.Kept.{offered, Stands, GoesBefore, InOrder, Holds}
use Rattle.comparison.proofs.OrderLaws.{cov, covers-in, covers_out, both-same, same_over, same-sym, beats-in, beats-out, prefer-in}

-- ---- a list by its positions

module _ {A : Type 0} (d : A) where
  pub get_d-mem : (l : List A) (n : ℕ) → n < length l → Memᴰ (get_or l n d) l
  get_d-mem [] n h = absurd (omega arith)
  get_d-mem (x ∷ l) zero h = Memᴰ.head refl
  get_d-mem (x ∷ l) (suc n) h = Memᴰ.tail (get_d-mem l n (omega arith))

  pub get_d-middle : (pre : List A) (x : A) (post : List A) → get_or (pre ++ x ∷ post) (length pre) d ≡ x
  get_d-middle [] x post = refl
  get_d-middle (y ∷ pre) x post = get_d-middle pre x post

-- ---- the test `counts` says that the offer stands

abbrev due : Journey → ℕ
due j = j.arrival

three-tests : (a b c : Bool) → (not a && (b && not c)) ≡ true → (a ≡ false) × (b ≡ true) × (c ≡ false)
three-tests true b c e = absurd (false≢true e)
three-tests false true true e = absurd (false≢true e)
three-tests false true false e = (refl, refl, refl)
three-tests false false c e = absurd (false≢true e)

three_back : (a b c : Bool) → a ≡ false → b ≡ true → c ≡ false → (not a && (b && not c)) ≡ true
three_back a b c p q r = rw (p, q, r)

module _ (h : ℕ) (pre : List Journey) (o : Journey) (post : List Journey) where
  abbrev whole : List Journey
  whole = pre ++ o ∷ post

  here : offered whole (length pre) ≡ o
  here = get_d-middle no_journey pre o post

  earlier : (k : ℕ) → k < length pre → Memᴰ (offered whole k) pre
  earlier k l = subst (λ (j : Journey). Memᴰ j pre) (sym (get_or-append pre (o ∷ post) no_journey k l)) (get_d-mem no_journey pre k l)

  counts-stands : counts cov due h pre o post ≡ true → Stands h whole (length pre)
  counts-stands e =
      let (p, q, r) = three-tests (anyb (λ x. beats cov x o) post) (leb (due o) h) (anyb (λ x. cov x o) pre) e in
      record {
        there = rw length-append (omega arith);
        due = rw here (leb-true (due o) h q);
        unbeaten = λ x m b. go p r x (Memᴰ.append_cases pre m) (subst (Beats x) here b);
        oldest = λ k l s. true≢false (sym (covers_out _ o (same_over _ o (subst (Same (offered whole k)) here s)))
            ∙ anyb-not (λ x. cov x o) r (earlier k l));
      }
    where
      later : anyb (λ x. beats cov x o) post ≡ false → (x : Journey) → (x ≡ o) ⊎ Memᴰ x post → Beats x o → ⊥
      later p x (inl s) b = b.apart (record {
        leave = ap (λ (j : Journey). j.leave) s;
        arrival = ap (λ (j : Journey). j.arrival) s;
        rides = ap (λ (j : Journey). j.rides) s;
        walk = ap (λ (j : Journey). j.walk) s;
      })
      later p x (inr m) b = true≢false (sym (beats-out x o b) ∙ anyb-not (λ x. beats cov x o) p m)

      go : anyb (λ x. beats cov x o) post ≡ false → anyb (λ x. cov x o) pre ≡ false → (x : Journey) → Memᴰ x pre ⊎ Memᴰ x (o ∷ post)
          → Beats x o → ⊥
      go p r x (inl m) b = true≢false (sym (covers_out x o b.over) ∙ anyb-not (λ x. cov x o) r m)
      go p r x (inr m) b = later p x (Memᴰ.cases_cons m) b

  stands-counts : Stands h whole (length pre) → counts cov due h pre o post ≡ true
  stands-counts w =
      three_back (anyb (λ x. beats cov x o) post) (leb (due o) h) (anyb (λ x. cov x o) pre)
      (anyb-none (λ x. beats cov x o) post (λ x m. is_false (beats cov x o)
      (λ b. w.unbeaten x (Memᴰ.append_right pre (Memᴰ.tail m)) (subst (Beats x) (sym here) (beats-in x o b)))))
      (le-leb (due o) h (rw here at w.due))
      (anyb-none (λ x. cov x o) pre (λ x m. is_false (cov x o) (λ c. older x m (covers-in x o c) (test (cov o x)))))
    where
      older : (x : Journey) → Memᴰ x pre → EqualsOrBeats x o → (cov o x ≡ true) ⊎ (cov o x ≡ false) → ⊥
      older x m v (inl c) =
          let (k, l, e) = mem-get_d no_journey m in
          let f : offered whole k ≡ x = get_or-append pre (o ∷ post) no_journey k l ∙ e in
          w.oldest k l (subst (λ (j : Journey). Same j (offered whole (length pre))) (sym f)
          (subst (Same x) (sym here) (both-same x o v (covers-in o x c))))
      older x m v (inr c) =
          w.unbeaten x (Memᴰ.append_left (o ∷ post) m)
          (subst (Beats x) (sym here) (record {
            over = v;
            apart = λ s. true≢false (sym (covers_out o x (same_over o x (same_back s))) ∙ c);
          }))
        where
          same_back : Same x o → Same o x
          same_back s = record { leave = sym s.leave; arrival = sym s.arrival; rides = sym s.rides; walk = sym s.walk }

-- ---- from a position on

-- each number is below those after it
abbrev Rising : List ℕ → Type 0
Rising [] = Unit {0}
Rising (i ∷ is) = ((k : ℕ) → Memᴰ k is → i < k) × Rising is

record Part (h : ℕ) (os : List Journey) (n : ℕ) (ks : List Journey) : Type 0 where
  places : List ℕ
  in_order : Rising places
  late : (i : ℕ) → Memᴰ i places → n ≤ i
  exactly : (i : ℕ) → n ≤ i → Memᴰ i places ↔ Stands h os i
  list : ks ≡ map (offered os) places

part_end : (h : ℕ) (os : List Journey) (n : ℕ) → length os ≤ n → Part h os n []
part_end h os n l = record {
  places = [];
  in_order = tt;
  late = λ i m. absurd (Memᴰ.not-nil m);
  exactly = λ i g. (λ m. absurd (Memᴰ.not-nil m), λ s. absurd (omega (arith, s.there)));
  list = refl;
}

-- the position n stands, and goes first
part-here : (h : ℕ) (os : List Journey) (n : ℕ) (o : Journey) (ks : List Journey) → offered os n ≡ o → Stands h os n
    → Part h os (n + 1) ks → Part h os n (o ∷ ks)
part-here h os n o ks e s p = record {
  places = n ∷ p.places;
  in_order = (λ k m. omega (arith, p.late k m), p.in_order);
  late = λ i m. lates i (Memᴰ.cases_cons m);
  exactly = λ i g. (λ m. fore i (Memᴰ.cases_cons m), λ w. back i w (test (leb (n + 1) i)) g);
  list = λ t. sym e t ∷ p.list t;
}
  where
    lates : (i : ℕ) → (i ≡ n) ⊎ Memᴰ i p.places → n ≤ i
    lates i (inl q) = omega arith
    lates i (inr m) = omega (arith, p.late i m)

    fore : (i : ℕ) → (i ≡ n) ⊎ Memᴰ i p.places → Stands h os i
    fore i (inl q) = subst (Stands h os) (sym q) s
    fore i (inr m) = (p.exactly i (p.late i m)).0 m

    back : (i : ℕ) → Stands h os i → (leb (n + 1) i ≡ true) ⊎ (leb (n + 1) i ≡ false) → n ≤ i → Memᴰ i (n ∷ p.places)
    back i w (inl l) g = Memᴰ.tail ((p.exactly i (leb-true (n + 1) i l)).1 w)
    back i w (inr l) g = Memᴰ.head (is-here (leb (n + 1) i) refl l)
      where
        is-here : (b : Bool) → leb (n + 1) i ≡ b → b ≡ false → i ≡ n
        is-here true x y = absurd (true≢false y)
        is-here false x y = omega (arith, borrow.Author.Tests.leb-false (n + 1) i x)

part-past : (h : ℕ) (os : List Journey) (n : ℕ) (ks : List Journey) → (Stands h os n → ⊥) → Part h os (n + 1) ks → Part h os n ks
part-past h os n ks f p = record {
  places = p.places;
  in_order = p.in_order;
  late = λ i m. omega (arith, p.late i m);
  exactly = λ i g. (λ m. (p.exactly i (p.late i m)).0 m, λ w. back i w (leb (n + 1) i) refl g);
  list = p.list;
}
  where
    back : (i : ℕ) → Stands h os i → (b : Bool) → leb (n + 1) i ≡ b → n ≤ i → Memᴰ i p.places
    back i w true l g = (p.exactly i (leb-true (n + 1) i l)).1 w
    back i w false l g = absurd (f (subst (Stands h os) (is-here (borrow.Author.Tests.leb-false (n + 1) i l)) w))
      where
        is-here : i < n + 1 → i ≡ n
        is-here q = omega arith

part : (h : ℕ) (pre os : List Journey) → Part h (pre ++ os) (length pre) (after cov due h pre os)
part h pre [] = part_end h (pre ++ []) (length pre) (rw append-nil (omega arith))
part h pre (o ∷ os) = go (counts cov due h pre o os) refl (part h (pre ++ o ∷ []) os)
  where
    moved : Part h ((pre ++ o ∷ []) ++ os) (length (pre ++ o ∷ [])) (after cov due h (pre ++ o ∷ []) os)
        → Part h (pre ++ o ∷ os) (length pre + 1) (after cov due h (pre ++ o ∷ []) os)
    moved p =
        subst (λ (n : ℕ). Part h (pre ++ o ∷ os) n (after cov due h (pre ++ o ∷ []) os)) (length-append pre (o ∷ []))
        (subst (λ (l : List Journey). Part h l (length (pre ++ o ∷ [])) (after cov due h (pre ++ o ∷ []) os))
        (append_assoc pre (o ∷ []) os) p)

    go : (b : Bool) → counts cov due h pre o os ≡ b
        → Part h ((pre ++ o ∷ []) ++ os) (length (pre ++ o ∷ [])) (after cov due h (pre ++ o ∷ []) os)
        → Part h (pre ++ o ∷ os) (length pre) (cond b (o ∷ after cov due h (pre ++ o ∷ []) os) (after cov due h (pre ++ o ∷ []) os))
    go true e p = part-here h (pre ++ o ∷ os) (length pre) o (after cov due h (pre ++ o ∷ []) os) (here h pre o os)
        (counts-stands h pre o os e) (moved p)
    go false e p = part-past h (pre ++ o ∷ os) (length pre) (after cov due h (pre ++ o ∷ []) os)
        (λ w. true≢false (sym (stands-counts h pre o os w) ∙ e)) (moved p)

-- ---- put in order

-- what holds of each and all after it
module _ {A : Type 0} (P : A → A → Type 0) where
  abbrev Pairs : List A → Type 0
  Pairs [] = Unit {0}
  Pairs (x ∷ xs) = ((y : A) → Memᴰ y xs → P x y) × Pairs xs

  -- holds of a list put in order, if it holds both ways
  module _ (lt : A → A → Bool) (back : (x y : A) → P x y → P y x) where
    insert-mem : (x : A) (ys : List A) (z : A) → Memᴰ z (insert_by lt x ys) → (z ≡ x) ⊎ Memᴰ z ys
    insert-mem x [] z m = Memᴰ.cases_cons m
    insert-mem x (y ∷ ys) z m = go (lt y x) m (insert-mem x ys z)
      where
        over : (z ≡ y) ⊎ Memᴰ z (insert_by lt x ys) → (Memᴰ z (insert_by lt x ys) → (z ≡ x) ⊎ Memᴰ z ys) → (z ≡ x) ⊎ Memᴰ z (y ∷ ys)
        over (inl e) ih = inr (Memᴰ.head e)
        over (inr k) ih = ⊎_elim (λ e. inl e) (λ n. inr (Memᴰ.tail n)) (ih k)

        go : (b : Bool) → Memᴰ z (cond b (y ∷ insert_by lt x ys) (x ∷ y ∷ ys)) → (Memᴰ z (insert_by lt x ys) → (z ≡ x) ⊎ Memᴰ z ys)
            → (z ≡ x) ⊎ Memᴰ z (y ∷ ys)
        go true k ih = over (Memᴰ.cases_cons k) ih
        go false k ih = Memᴰ.cases_cons k

    pairs-insert : (x : A) (ys : List A) → ((y : A) → Memᴰ y ys → P x y) → Pairs ys → Pairs (insert_by lt x ys)
    pairs-insert x [] f w = (f, tt)
    pairs-insert x (y ∷ ys) f (g, w) = go (lt y x) (pairs-insert x ys (λ z m. f z (Memᴰ.tail m)) w)
      where
        front : (z : A) → (z ≡ x) ⊎ Memᴰ z ys → P y z
        front z (inl e) = subst (P y) (sym e) (back x y (f y (Memᴰ.head refl)))
        front z (inr m) = g z m

        go : (b : Bool) → Pairs (insert_by lt x ys) → Pairs (cond b (y ∷ insert_by lt x ys) (x ∷ y ∷ ys))
        go true ih = (λ z m. front z (insert-mem x ys z m), ih)
        go false ih = (f, (g, w))

    pairs-sort : (xs : List A) → Pairs xs → Pairs (sort lt xs)
    pairs-sort [] w = tt
    pairs-sort (x ∷ xs) (f, w) = pairs-insert x (sort lt xs) (λ y m. f y (sort-mem lt xs m)) (pairs-sort xs w)

-- no two of the journeys at positions that stand are equal
abbrev Apart : Journey → Journey → Type 0
Apart p q = Same p q → ⊥

standing_apart : (h : ℕ) (os : List Journey) (is : List ℕ) → Rising is → ((i : ℕ) → Memᴰ i is → Stands h os i)
    → Pairs Apart (map (offered os) is)
standing_apart h os [] r s = tt
standing_apart h os (i ∷ is) (f, r) s = (
  λ q m e. let (k, n, here) = Memᴰ.of_map (offered os) is m in
      (s k (Memᴰ.tail n)).oldest i (f k n) (subst (Same (offered os i)) (sym here) e),
  standing_apart h os is r (λ k m. s k (Memᴰ.tail m)),
)

-- as good, and not equal
goes_before : (p q : Journey) → AsGood p q → Apart p q → GoesBefore p q
goes_before p q (inl a) n = inl a
goes_before p q (inr (a, inl b)) n = inr (a, inl b)
goes_before p q (inr (a, inr (b, inl c))) n = inr (a, inr (b, inl c))
goes_before p q (inr (a, inr (b, inr (c, d)))) n = go (leb p.leave q.leave) refl
  where
    go : (t : Bool) → leb p.leave q.leave ≡ t → GoesBefore p q
    go true e = absurd (n (record { leave = omega (arith, leb-true p.leave q.leave e); arrival = a; rides = b; walk = c }))
    go false e = inr (a, inr (b, inr (c, leb-false p.leave q.leave e)))

in_order : (ks : List Journey) → Ordered journey_figures ks → Pairs Apart ks → InOrder ks
in_order [] o w = tt
in_order (x ∷ ks) (f, o) (g, w) = (λ k m. goes_before x k (prefer-in x k (f k m)) (g k m), in_order ks o w)

pub front-holds : (h : ℕ) (os ks : List Journey) → ks ≡ ordered journey_figures (front (covᶠ journey_figures) (dueᶠ journey_figures) h os)
    → Holds h os ks
front-holds h os ks e = subst (Holds h os) (sym e)
    (record { exactly = λ j. (there j, back j); in_order = in_order listed (put-in-order journey_figures fs).0 apart })
  where
    fs : List Journey
    fs = front (covᶠ journey_figures) (dueᶠ journey_figures) h os

    listed : List Journey
    listed = ordered journey_figures fs

    p : Part h os 0 fs
    p = part h [] os

    there : (j : Journey) → Memᴰ j listed → (i : ℕ) × Stands h os i × (offered os i ≡ j)
    there j m =
        let (i, n, here) = Memᴰ.of_map (offered os) p.places (subst (Memᴰ j) p.list (sort-mem (sooner journey_figures) fs m)) in
        (i, (p.exactly i (omega arith)).0 n, here)

    back : (j : Journey) → (i : ℕ) × Stands h os i × (offered os i ≡ j) → Memᴰ j listed
    back j (i, s, here) =
        mem-sort (sooner journey_figures) fs (subst (Memᴰ j) (sym p.list)
        (subst (λ (q : Journey). Memᴰ q (map (offered os) p.places)) here (Memᴰ.map (offered os) ((p.exactly i (omega arith)).1 s))))

    apart : Pairs Apart listed
    apart =
        pairs-sort Apart (sooner journey_figures) (λ x y n s. n (same-sym y x s)) fs
        (subst (Pairs Apart) (sym p.list) (standing_apart h os p.places p.in_order (λ i m. (p.exactly i (omega arith)).0 m)))
