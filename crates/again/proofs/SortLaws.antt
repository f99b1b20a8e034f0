-- A list in order is its own sort; the call put in last is, once they are sorted and none clash, where its key is, and taking it out
-- gives the others sorted.
use Prim.Native.Nat.{ℕ, ◌≤◌}
use mathlib.Core.Path.{◌≡◌, refl, sym, ap, subst, ◌∙◌}
use mathlib.Core.Logic.{◌⊎◌, inl, inr}
use mathlib.Core.Bool.{Bool, true, false, cond, ◌&&◌, ◌||◌, true≢false}
use mathlib.Core.List.Memᴰ
use mathlib.Core.List.Permᴰ
use mathlib.Core.List.{List, [], ◌∷◌, ◌++◌, Memᴰ, Permᴰ}
use native.Mathlib.Omega.{arith}
use borrow.Author.Tests.{eqb-true}
use lib.Dec.{eqb, ltb}
use lib.ListN.{length, take, drop, length-take}
use lib.Seq.{drop_at}
use Rattle.laws.specs.Lists.{anyb}
use Rattle.laws.specs.Sort.{insert_by, sort, Ordered, Keyed}
use Rattle.laws.proofs.Lists.{anyb-mem, mem-anyb, anyb-none}
use Rattle.laws.proofs.Bools.{and-true-left, and-true-right, not-true}
use Rattle.laws.proofs.Sort.{length-sort, sort-ordered, sort-same, sort-mem}
use Rattle.profile.specs.Figures.{lexb}
use Rattle.calls.specs.declared.Call.{Call}
use Rattle.offers.specs.Order.{earlier, in_order_of, sort_first, clashes, Rising}
use Rattle.offers.proofs.OrderLaws.{strict_earlier, accepted-rising, accepted-keyed, sorted_front}
use Rattle.calls.specs.declared.CallKey.{CallKey}
use Rattle.withdrawal.specs.Removal.{without_last, has_key}
use Rattle.withdrawal.proofs.LeftLaws.{without-last}

module _ {A : Type 0} (lt : A → A → Bool) where
  pub in-front : (x : A) (ys : List A) → ((y : A) → Memᴰ y ys → lt y x ≡ false) → insert_by lt x ys ≡ x ∷ ys
  in-front x [] h = refl
  in-front x (y ∷ ys) h = rw (h y (Memᴰ.head refl)) refl

  pub ordered-sort : (xs : List A) → Ordered lt xs → sort lt xs ≡ xs
  ordered-sort [] h = refl
  ordered-sort (x ∷ xs) h = ap (insert_by lt x) (ordered-sort xs h.1) ∙ in-front x xs h.0

  -- what is put in is there
  put-there : (p : A → Bool) (x : A) (ys : List A) → p x ≡ true → anyb p (insert_by lt x ys) ≡ true
  put-there p x [] e = rw e refl
  put-there p x (y ∷ ys) e = by (lt y x) (p y) (put-there p x ys e)
    where
      by : (b c : Bool) → anyb p (insert_by lt x ys) ≡ true → anyb p (cond b (y ∷ insert_by lt x ys) (x ∷ y ∷ ys)) ≡ true
      by true c ih = go (p y) ih
        where
          go : (d : Bool) → anyb p (insert_by lt x ys) ≡ true → (d || anyb p (insert_by lt x ys)) ≡ true
          go true q = refl
          go false q = q
      by false c ih = rw e refl

  -- and goes again
  put-gone : (p : A → Bool) (x : A) (ys : List A) → p x ≡ true → anyb p ys ≡ false → without_last p (insert_by lt x ys) ≡ ys
  put-gone p x [] e n = rw e refl
  put-gone p x (y ∷ ys) e n = by (lt y x) (p y) refl (put-gone p x ys e) n
    where
      by : (b c : Bool) → p y ≡ c → (anyb p ys ≡ false → without_last p (insert_by lt x ys) ≡ ys) → (c || anyb p ys) ≡ false
          → without_last p (cond b (y ∷ insert_by lt x ys) (x ∷ y ∷ ys)) ≡ y ∷ ys
      by b true q ih m = absurd (true≢false m)
      by true false q ih m = rw (put-there p x ys e) (ap {B = List A} (λ l. y ∷ l) (ih m))
      by false false q ih m = rw (q, m, e) refl

snoc-perm : (xs : List Call) (c : Call) → Permᴰ (xs ++ (c ∷ [])) (c ∷ xs)
snoc-perm [] c = Permᴰ.refl (c ∷ [])
snoc-perm (x ∷ xs) c = Permᴰ.trans (Permᴰ.cons refl (snoc-perm xs c)) (Permᴰ.swap refl refl)

-- ---- keys

never-before-itself : (c : Call) → earlier c c ≡ false
never-before-itself c = go (earlier c c) refl
  where
    go : (b : Bool) → earlier c c ≡ b → b ≡ false
    go true e = sym e ∙ strict_earlier.asym c c e
    go false e = refl

-- of one key, neither is before the other
record SameKey (a b : Call) : Type 0 where
  trip : a.trip ≡ b.trip
  day : a.day ≡ b.day
  sequence : a.sequence ≡ b.sequence

-- a call of the key k
record OfKey (k : CallKey) (c : Call) : Type 0 where
  trip : c.trip ≡ k.trip
  day : c.day ≡ k.day
  sequence : c.sequence ≡ k.sequence

of-key : (k : CallKey) (c : Call) → has_key k c ≡ true → OfKey k c
unfolding has_key
of-key k c e =
    let two : (eqb c.day k.day && eqb c.sequence k.sequence) ≡ true =
    and-true-right (eqb c.trip k.trip) (eqb c.day k.day && eqb c.sequence k.sequence) e in
    record {
      trip = eqb-true _ _ (and-true-left (eqb c.trip k.trip) (eqb c.day k.day && eqb c.sequence k.sequence) e);
      day = eqb-true _ _ (and-true-left (eqb c.day k.day) (eqb c.sequence k.sequence) two);
      sequence = eqb-true _ _ (and-true-right (eqb c.day k.day) (eqb c.sequence k.sequence) two);
    }

same_key : (k : CallKey) (a b : Call) → has_key k a ≡ true → has_key k b ≡ true → SameKey a b
same_key k a b e f =
    let x = of-key k a e in
    let y = of-key k b f in
    record { trip = x.trip ∙ sym y.trip; day = x.day ∙ sym y.day; sequence = x.sequence ∙ sym y.sequence }

not-before : (a b : Call) → SameKey a b → earlier a b ≡ false
not-before a b s = (λ i. lexb (s.trip i) b.trip (lexb (s.day i) b.day (ltb (s.sequence i) b.sequence))) ∙ never-before-itself b

not_after : (a b : Call) → SameKey a b → earlier b a ≡ false
not_after a b s = (λ i. lexb b.trip (s.trip i) (lexb b.day (s.day i) (ltb b.sequence (s.sequence i)))) ∙ never-before-itself b

-- in a rising list with c, every other is before it or after it
apart : (c : Call) (ys : List Call) → Rising (insert_by earlier c ys) → (z : Call) → Memᴰ z ys → (earlier z c ≡ true) ⊎ (earlier c z ≡ true)
apart c [] r z m = absurd (Memᴰ.not-nil m)
apart c (y ∷ ys) r z m = by (earlier y c) refl r (λ q. apart c ys q z)
  where
    by : (b : Bool) → earlier y c ≡ b → Rising (cond b (y ∷ insert_by earlier c ys) (c ∷ y ∷ ys))
        → (Rising (insert_by earlier c ys) → Memᴰ z ys → (earlier z c ≡ true) ⊎ (earlier c z ≡ true))
        → (earlier z c ≡ true) ⊎ (earlier c z ≡ true)
    by false e q ih = inr (q.0 z m)
    by true e q ih = go (Memᴰ.cases_cons m)
      where
        go : (z ≡ y) ⊎ Memᴰ z ys → (earlier z c ≡ true) ⊎ (earlier c z ≡ true)
        go (inl f) = inl (ap (λ (x : Call). earlier x c) f ∙ e)
        go (inr n) = ih q.1 n

none_other : (k : CallKey) (c : Call) (ys : List Call) → has_key k c ≡ true → Rising (insert_by earlier c ys) → anyb (has_key k) ys ≡ false
none_other k c ys e r = anyb-none (has_key k) ys (λ z m. not-true (has_key k z) (λ h. no z h (apart c ys r z m)))
  where
    no : (z : Call) → has_key k z ≡ true → (earlier z c ≡ true) ⊎ (earlier c z ≡ true) → ⊥
    no z h (inl q) = true≢false (sym q ∙ not-before z c (same_key k z c h e))
    no z h (inr q) = true≢false (sym q ∙ not_after z c (same_key k z c h e))

-- ---- the calls of a search, with c put in last

module _ (xs : List Call) (c : Call) (clear : clashes (in_order_of (xs ++ (c ∷ []))) ≡ false) where
  pub put-sorted : in_order_of (xs ++ (c ∷ [])) ≡ insert_by earlier c (in_order_of xs)
  put-sorted = sort-same earlier strict_earlier (snoc-perm xs c) (accepted-keyed (xs ++ (c ∷ [])) clear)

  pub rises : Rising (insert_by earlier c (in_order_of xs))
  rises = rw (← put-sorted) (accepted-rising (xs ++ (c ∷ [])) clear)

  pub sorted-gone : (k : CallKey) → has_key k c ≡ true → without_last (has_key k) (in_order_of (xs ++ (c ∷ []))) ≡ in_order_of xs
  sorted-gone k e = ap (without_last (has_key k)) put-sorted
      ∙ put-gone earlier (has_key k) c (in_order_of xs) e (none_other k c (in_order_of xs) e rises)

  pub sorted-there : (k : CallKey) → has_key k c ≡ true → anyb (has_key k) (in_order_of (xs ++ (c ∷ []))) ≡ true
  sorted-there k e = ap (anyb (has_key k)) put-sorted ∙ put-there earlier (has_key k) c (in_order_of xs) e

-- ---- the last of a key, before the sort or after it

middle-perm : (bs cs : List Call) (g : Call) → Permᴰ (bs ++ (g ∷ cs)) (g ∷ (bs ++ cs))
middle-perm [] cs g = Permᴰ.refl (g ∷ cs)
middle-perm (b ∷ bs) cs g = Permᴰ.trans (Permᴰ.cons refl (middle-perm bs cs g)) (Permᴰ.swap refl refl)

pub sorted-without : (ws : List Call) (k : CallKey) → clashes (in_order_of ws) ≡ false → anyb (has_key k) ws ≡ true
    → without_last (has_key k) (in_order_of ws) ≡ in_order_of (without_last (has_key k) ws)
sorted-without ws k clear e =
    let w = without-last (has_key k) ws e in
    let rest : List Call = w.before ++ w.behind in
    let there : in_order_of ws ≡ insert_by earlier w.gone (in_order_of rest) =
    ap in_order_of w.whole ∙ sort-same earlier strict_earlier (middle-perm w.before w.behind w.gone)
    (subst (Keyed earlier) w.whole (accepted-keyed ws clear)) in
    let up : Rising (insert_by earlier w.gone (in_order_of rest)) = subst Rising there (accepted-rising ws clear) in
    ap (without_last (has_key k)) there
    ∙ put-gone earlier (has_key k) w.gone (in_order_of rest) w.passes (none_other k w.gone (in_order_of rest) w.passes up)
    ∙ ap in_order_of (sym w.left)

pub any-sorted : (p : Call → Bool) (ws : List Call) → anyb p (in_order_of ws) ≡ true → anyb p ws ≡ true
any-sorted p ws e = let (x, m, q) = anyb-mem p (in_order_of ws) e in mem-anyb p (sort-mem earlier ws m) q

-- ---- the array

pub in-order-again : (xs : List Call) → in_order_of (in_order_of xs) ≡ in_order_of xs
in-order-again xs = ordered-sort earlier (in_order_of xs) (sort-ordered earlier strict_earlier xs)

pub sorted-again : (n : ℕ) (l : List Call) → n ≤ 512 → length l ≡ 512 → sort_first n (sort_first n l) ≡ sort_first n l
sorted-again n l few long =
    let front_long : length (in_order_of (take n l)) ≡ n = length-sort earlier (take n l) ∙ simp length-take (omega arith) in
    ap (λ (f : List Call). in_order_of f ++ drop n (sort_first n l)) (sorted_front n l)
    ∙ ap (λ (f : List Call). f ++ drop n (sort_first n l)) (in-order-again (take n l))
    ∙ ap (λ (r : List Call). in_order_of (take n l) ++ r) (drop_at (in_order_of (take n l)) (drop n l) n front_long)
