-- Of unbeaten journeys of few kinds few arrive together; of more than 64 one arrives before the latest, so that the least arrival is never
-- cut.
use Rattle.std.specs.Prelude.{None, Option, Some}
use mathlib.Core.Path.{◌≡◌, refl, sym, ap, ◌∙◌}
use mathlib.Core.Logic.{◌⊎◌, inl, inr}
use mathlib.Core.Bool.{Bool, true, false, not, cond, true≢false, false≢true}
use mathlib.Core.List.{List, [], ◌∷◌, ◌++◌, append_assoc, append-nil, Memᴰ}
use Prim.Native.Nat.{ℕ, zero, suc, ◌-◌, ◌≤◌, ◌<◌}
use native.Mathlib.Omega.{arith}
use lib.Dec.{leb, eqb}
use lib.ListN.{length}
use borrow.Author.Tests.{leb-true, leb-false, le-leb, eqb-true, eqb-false, eq-eqb, le-ltb}
use Rattle.laws.specs.Lists.{filterb}
use Rattle.laws.proofs.Bools.{test, not-true, and-true, or-false-left, or-false-right}
use Rattle.laws.proofs.Lists.{filterb-mem, mem-filterb, filterb-all, snoc-ind}
use Rattle.laws.proofs.Folds.{foldl-append}
use Rattle.profile.specs.declared.figures.Figures.{Figures}
use Rattle.profile.specs.Figures.{covᶠ, dueᶠ, lexb}
use Rattle.profile.specs.Front.{front}
use Rattle.profile.specs.Walk.{Antichain}
use Rattle.profile.specs.Kept.{SearchState, going, refused, latest, settle, offer, run}
use Rattle.profile.specs.Best.{pick, best}
use Rattle.profile.proofs.FiguresLaws.{figures-order, covers-arrival, lexb-eq, prefer-arrival}
use Rattle.profile.proofs.FrontLaws.{after-mem, front-covers, front-antichain}
use Rattle.profile.proofs.KeptLaws.{settle-elim, Holds, offer-settles, run_holds, run-kept, run-covers}
use Rattle.profile.proofs.PickLaws.{Picked, pick-picked}
use Rattle.limited.specs.Growth.{Kinds, FewTogether, NeverLater, NeverEmptied, TogetherGo}

-- ---- elements whose numbers are below n and all differ are at most n

module _ {A : Type 0} (kind : A → ℕ) where
  abbrev Differ : List A → Type 0
  Differ [] = Unit {0}
  Differ (x ∷ xs) = ((y : A) → Memᴰ y xs → eqb (kind x) (kind y) ≡ false) × Differ xs

  abbrev others : ℕ → List A → List A
  others n xs = filterb (λ y. not (eqb (kind y) n)) xs

  others-all : (n : ℕ) (xs : List A) → ((y : A) → Memᴰ y xs → eqb n (kind y) ≡ false) → others n xs ≡ xs
  others-all n xs f =
      filterb-all (λ y. not (eqb (kind y) n)) xs
      (λ y m. ap not
      (not-true (eqb (kind y) n)
      (λ e. let q : n ≡ kind y = sym (eqb-true (kind y) n e) in false≢true (sym (f y m) ∙ eq-eqb n (kind y) q))))

  differ-others : (n : ℕ) (xs : List A) → Differ xs → Differ (others n xs)
  differ-others n [] d = tt
  differ-others n (x ∷ xs) d = go (not (eqb (kind x) n)) (differ-others n xs d.1)
    where
      go : (b : Bool) → Differ (others n xs) → Differ (cond b (x ∷ others n xs) (others n xs))
      go true ih = ((λ y m. d.0 y (filterb-mem (λ y. not (eqb (kind y) n)) xs m).0), ih)
      go false ih = ih

  one_less : (n : ℕ) (xs : List A) → Differ xs → length xs ≤ suc (length (others n xs))
  one_less n [] d = omega arith
  one_less n (x ∷ xs) d = go (eqb (kind x) n) refl (one_less n xs d.1)
    where
      go : (b : Bool) → eqb (kind x) n ≡ b → length xs ≤ suc (length (others n xs))
          → suc (length xs) ≤ suc (length (cond (not b) (x ∷ others n xs) (others n xs)))
      go true e ih =
          let q : kind x ≡ n = eqb-true (kind x) n e in
          let w : others n xs ≡ xs = others-all n xs (λ y m. rw q at (d.0 y m)) in
          rw w (omega arith)
      go false e ih = omega arith

  few-differ : (n : ℕ) (xs : List A) → Differ xs → ((y : A) → Memᴰ y xs → kind y < n) → length xs ≤ n
  few-differ zero [] d f = omega arith
  few-differ zero (x ∷ xs) d f = let h = f x (mathlib.Core.List.Memᴰ.head refl) in absurd (omega arith)
  few-differ (suc n) xs d f =
      let ih = few-differ n (others n xs) (differ-others n xs d) (λ y m. below y (filterb-mem (λ y. not (eqb (kind y) n)) xs m)) in
      omega (arith, one_less n xs d)
    where
      below : (y : A) → Memᴰ y xs × (not (eqb (kind y) n) ≡ true) → kind y < n
      below y (m, e) = go (test (eqb (kind y) n))
        where
          go : (eqb (kind y) n ≡ true) ⊎ (eqb (kind y) n ≡ false) → kind y < n
          go (inl q) = absurd (false≢true (ap not (sym q) ∙ e))
          go (inr q) = let h = f y m in let g = eqb-false (kind y) n q in omega (arith, g)

-- ---- lists: the latest is no earlier than any, and a part of an antichain is one

latest-over : {A : Type 0} (due : A → ℕ) (xs : List A) (x : A) → Memᴰ x xs → due x ≤ latest due xs
latest-over due [] x m = absurd (mathlib.Core.List.Memᴰ.not-nil m)
latest-over due (y ∷ ys) x m = go (mathlib.Core.List.Memᴰ.cases_cons m) (λ n. latest-over due ys x n)
  where
    go : (x ≡ y) ⊎ Memᴰ x ys → (Memᴰ x ys → due x ≤ latest due ys) → due x ≤ latest due (y ∷ ys)
    go (inl e) ih = rw e (omega arith)
    go (inr n) ih = let h = ih n in omega arith

antichain-part : {A : Type 0} (cov : A → A → Bool) (p : A → Bool) (xs : List A) → Antichain cov xs → Antichain cov (filterb p xs)
antichain-part cov p [] w = tt
antichain-part {A} cov p (x ∷ xs) (f, w) = go (p x) (antichain-part cov p xs w)
  where
    go : (b : Bool) → Antichain cov (filterb p xs) → Antichain cov (cond b (x ∷ filterb p xs) (filterb p xs))
    go true ih = ((λ y m. f y (filterb-mem p xs m).0), ih)
    go false ih = ih

-- ---- few kinds of journeys

module _ {A : Type 0} (fig : A → Figures) (kind : A → ℕ) where
  -- of two that arrive together, with as many rides and the same walk, the one that leaves later covers the other
  together-covers : (a b : A) → (fig a).arrival ≡ (fig b).arrival → (fig a).rides ≡ (fig b).rides → (fig a).walk ≡ (fig b).walk
      → (fig b).leave ≤ (fig a).leave → covᶠ fig a b ≡ true
  together-covers a b ea er ew l =
      and-true _ _ (le-leb (fig b).leave (fig a).leave l)
      (lexb-eq (fig a).arrival (fig b).arrival _ ea
      (lexb-eq (fig a).rides (fig b).rides _ er (le-leb (fig a).walk (fig b).walk (omega arith))))

  module _ (n : ℕ) (os : List A) (few : Kinds fig kind n os) where
    differ : (d : ℕ) (xs : List A) → Antichain (covᶠ fig) xs → ((x : A) → Memᴰ x xs → Memᴰ x os × ((fig x).arrival ≡ d)) → Differ kind xs
    differ d [] a f = tt
    differ d (x ∷ xs) a f = (
      (λ y m. not-true (eqb (kind x) (kind y)) (λ e. never y m (eqb-true (kind x) (kind y) e))),
      differ d xs a.1
          (λ y m. f y (mathlib.Core.List.Memᴰ.tail m)),
    )
      where
        never : (y : A) → Memᴰ y xs → kind x ≡ kind y → ⊥
        never y m e =
            let (i, p) = f x (mathlib.Core.List.Memᴰ.head refl) in
            let (j, q) = f y (mathlib.Core.List.Memᴰ.tail m) in
            let er = few.rides x y i j e in
            let ew = few.walk x y i j e in
            let u = or-false-left (covᶠ fig x y) (covᶠ fig y x) (a.0 y m) in
            let v = or-false-right (covᶠ fig x y) (covᶠ fig y x) (a.0 y m) in
            go er ew p q u v (test (leb (fig y).leave (fig x).leave))
          where
            go : (fig x).rides ≡ (fig y).rides → (fig x).walk ≡ (fig y).walk → (fig x).arrival ≡ d → (fig y).arrival ≡ d
                → covᶠ fig x y ≡ false → covᶠ fig y x ≡ false
                → (leb (fig y).leave (fig x).leave ≡ true) ⊎ (leb (fig y).leave (fig x).leave ≡ false) → ⊥
            go er ew p q u v (inl t) = true≢false (sym (together-covers x y (p ∙ sym q) er ew (leb-true (fig y).leave (fig x).leave t)) ∙ u)
            go er ew p q u v (inr t) =
                let h = leb-false (fig y).leave (fig x).leave t in
                true≢false (sym (together-covers y x (q ∙ sym p) (sym er) (sym ew) (omega arith)) ∙ v)

    at_most : (h a : ℕ) → length (filterb (λ o. eqb (fig o).arrival a) (front (covᶠ fig) (dueᶠ fig) h os)) ≤ n
    at_most h a =
        few-differ kind n (filterb (λ o. eqb (fig o).arrival a) fr)
        (differ a (filterb (λ o. eqb (fig o).arrival a) fr)
        (antichain-part (covᶠ fig) (λ o. eqb (fig o).arrival a) fr (front-antichain (covᶠ fig) (dueᶠ fig) h os)) here)
        (λ x m. few.small x (here x m).0)
      where
        fr : List A
        fr = front (covᶠ fig) (dueᶠ fig) h os

        here : (x : A) → Memᴰ x (filterb (λ o. eqb (fig o).arrival a) fr) → Memᴰ x os × ((fig x).arrival ≡ a)
        here x m =
            let (i, e) = filterb-mem (λ o. eqb (fig o).arrival a) fr m in
            ((after-mem (covᶠ fig) (dueᶠ fig) h [] os i).0, eqb-true (fig x).arrival a e)

    -- of more than n that count, one is due before the latest
    one-before : (h : ℕ) → n < length (front (covᶠ fig) (dueᶠ fig) h os)
        → (x : A) × Memᴰ x (front (covᶠ fig) (dueᶠ fig) h os) × ((fig x).arrival ≤ latest (dueᶠ fig) (front (covᶠ fig) (dueᶠ fig) h os) - 1)
    one-before h more = go (filterb (λ x. leb (fig x).arrival g) fr) refl
      where
        fr : List A
        fr = front (covᶠ fig) (dueᶠ fig) h os

        g : ℕ
        g = latest (dueᶠ fig) fr - 1

        all-late : filterb (λ x. leb (fig x).arrival g) fr ≡ [] → (x : A) → Memᴰ x fr → g < (fig x).arrival
        all-late e x m =
            leb-false (fig x).arrival g
            (not-true (leb (fig x).arrival g)
            (λ t. mathlib.Core.List.Memᴰ.not-nil (rw e at (mem-filterb (λ x. leb (fig x).arrival g) m t))))

        none-less : filterb (λ x. leb (fig x).arrival g) fr ≡ [] → length fr ≤ n
        none-less e =
            let all : filterb (λ o. eqb (fig o).arrival (suc g)) fr ≡ fr =
            filterb-all (λ o. eqb (fig o).arrival (suc g)) fr
            (λ x m. eq-eqb (fig x).arrival (suc g) (omega (arith, all-late e x m, latest-over (dueᶠ fig) fr x m))) in
            rw all at (at_most h (suc g))

        go : (ys : List A) → filterb (λ x. leb (fig x).arrival g) fr ≡ ys → (x : A) × Memᴰ x fr × ((fig x).arrival ≤ g)
        go [] e = let l = none-less e in absurd (omega arith)
        go (y ∷ ys) e =
            let m : Memᴰ y (filterb (λ x. leb (fig x).arrival g) fr) = rw e (mathlib.Core.List.Memᴰ.head refl) in
            let (i, t) = filterb-mem (λ x. leb (fig x).arrival g) fr m in
            (y, i, leb-true (fig y).arrival g t)

  -- a part of the offers is of no more kinds
  kinds-part : (n : ℕ) (xs ys : List A) → Kinds fig kind n (xs ++ ys) → Kinds fig kind n xs
  kinds-part n xs ys f = record {
    small = λ o m. f.small o (mathlib.Core.List.Memᴰ.append_left ys m);
    rides = λ a b m k e. f.rides a b (mathlib.Core.List.Memᴰ.append_left ys m) (mathlib.Core.List.Memᴰ.append_left ys k) e;
    walk = λ a b m k e. f.walk a b (mathlib.Core.List.Memᴰ.append_left ys m) (mathlib.Core.List.Memᴰ.append_left ys k) e;
  }

  -- ---- a search goes on: what it has for second 0 stays, or is replaced by what arrives no later

  -- something is kept that arrives by a
  abbrev Has : ℕ → SearchState A → Type 0
  Has a (going ks h l) = (k : A) × Memᴰ k ks × ((fig k).arrival ≤ a)
  Has a refused = Unit {0}

  -- the horizon is as it was at the start, or something is kept
  abbrev Left : ℕ → SearchState A → Type 0
  Left h₀ (going ks h l) = (h₀ ≤ h) ⊎ ((k : A) × Memᴰ k ks)
  Left h₀ refused = Unit {0}

  has_left : (h₀ a : ℕ) (s : SearchState A) → Has a s → Left h₀ s
  has_left h₀ a refused w = tt
  has_left h₀ a (going ks h l) (k, m, d) = inr (k, m)

  abbrev search : ℕ → ℕ → List A → SearchState A
  search h₀ l₀ os = run (covᶠ fig) (dueᶠ fig) 64 3600 h₀ l₀ os

  module _ (n : ℕ) (at64 : n ≤ 64) where
    settle-has : (a h l : ℕ) (os : List A) → Kinds fig kind n os → (k : A) → Memᴰ k (front (covᶠ fig) (dueᶠ fig) h os) → (fig k).arrival ≤ a
        → Has a (settle (dueᶠ fig) 64 3600 (front (covᶠ fig) (dueᶠ fig) h os) h l)
    settle-has a h l os few k m le =
        settle-elim (dueᶠ fig) 64 3600 (Has a) (front (covᶠ fig) (dueᶠ fig) h os) h l (λ fits. (k, m, le)) (λ more. tt)
        (λ more low. cut more (test (leb (fig k).arrival g)))
      where
        g : ℕ
        g = latest (dueᶠ fig) (front (covᶠ fig) (dueᶠ fig) h os) - 1

        cut : 64 < length (front (covᶠ fig) (dueᶠ fig) h os) → (leb (fig k).arrival g ≡ true) ⊎ (leb (fig k).arrival g ≡ false)
            → (x : A) × Memᴰ x (filterb (λ z. leb (dueᶠ fig z) g) (front (covᶠ fig) (dueᶠ fig) h os)) × ((fig x).arrival ≤ a)
        cut more (inl t) = (k, mem-filterb (λ z. leb (dueᶠ fig z) g) m t, le)
        cut more (inr t) =
            let (x, i, d) = one-before n os few h (omega (arith, at64)) in
            (x, mem-filterb (λ z. leb (dueᶠ fig z) g) i (le-leb (fig x).arrival g d), omega (arith, leb-false (fig k).arrival g t))

    offer-has : (a h₀ : ℕ) (os : List A) (o : A) (s : SearchState A) → Kinds fig kind n (os ++ o ∷ [])
        → Holds (covᶠ fig) (dueᶠ fig) 64 h₀ os s
        → Has a s → Has a (offer (covᶠ fig) (dueᶠ fig) 64 3600 s o)
    offer-has a h₀ os o refused few w has = tt
    offer-has a h₀ os o (going ks h l) few (e, len, le) (k, m, d) =
        let len' : length (front (covᶠ fig) (dueᶠ fig) h os) ≤ 64 = rw e at len in
        let m' : Memᴰ k (front (covᶠ fig) (dueᶠ fig) h os) = rw e at m in
        let (i, dh) = after-mem (covᶠ fig) (dueᶠ fig) h [] os m' in
        let (k', j, c) = front-covers (figures-order fig) h (os ++ o ∷ []) k (mathlib.Core.List.Memᴰ.append_left (o ∷ []) i) dh in
        rw (e, offer-settles (figures-order fig) 64 3600 (omega arith) h l os o len')
        (settle-has a h l (os ++ o ∷ []) few k' j (omega (arith, covers-arrival (fig k') (fig k) c)))

    goes-on-has : (a h₀ l₀ : ℕ) (xs ys : List A) → Kinds fig kind n (xs ++ ys) → Has a (search h₀ l₀ xs) → Has a (search h₀ l₀ (xs ++ ys))
    goes-on-has a h₀ l₀ xs [] few has = rw append-nil has
    goes-on-has a h₀ l₀ xs (y ∷ ys) few has =
        let q : xs ++ y ∷ ys ≡ (xs ++ y ∷ []) ++ ys = sym (append_assoc xs (y ∷ []) ys) in
        let few' : Kinds fig kind n ((xs ++ y ∷ []) ++ ys) = rw q at few in
        let one : Has a (search h₀ l₀ (xs ++ y ∷ [])) =
        rw (foldl-append (offer (covᶠ fig) (dueᶠ fig) 64 3600) (going [] h₀ l₀) xs (y ∷ []))
        (offer-has a h₀ xs y (search h₀ l₀ xs) (kinds-part n (xs ++ y ∷ []) ys few')
        (run_holds (figures-order fig) 64 3600 (omega arith) h₀ l₀ xs) has) in
        rw q (goes-on-has a h₀ l₀ (xs ++ y ∷ []) ys few' one)

    offer-left : (h₀ : ℕ) (os : List A) (o : A) (s : SearchState A) → Kinds fig kind n (os ++ o ∷ [])
        → Holds (covᶠ fig) (dueᶠ fig) 64 h₀ os s
        → Left h₀ s → Left h₀ (offer (covᶠ fig) (dueᶠ fig) 64 3600 s o)
    offer-left h₀ os o refused few w x = tt
    offer-left h₀ os o (going ks h l) few w (inr (k, m)) =
        has_left h₀ (fig k).arrival (offer (covᶠ fig) (dueᶠ fig) 64 3600 (going ks h l) o)
        (offer-has (fig k).arrival h₀ os o (going ks h l) few w (k, m, omega arith))
    offer-left h₀ os o (going ks h l) few (e, len, up) (inl le) =
        let len' : length (front (covᶠ fig) (dueᶠ fig) h os) ≤ 64 = rw e at len in
        rw (e, offer-settles (figures-order fig) 64 3600 (omega arith) h l os o len')
        (settle-elim (dueᶠ fig) 64 3600 (Left h₀) fr h l (λ fits. inl le) (λ more. tt) (λ more low. cut more))
      where
        fr : List A
        fr = front (covᶠ fig) (dueᶠ fig) h (os ++ o ∷ [])

        g : ℕ
        g = latest (dueᶠ fig) fr - 1

        cut : 64 < length fr → Left h₀ (going (filterb (λ z. leb (dueᶠ fig z) g) fr) g 1)
        cut more =
            let (x, i, d) = one-before n (os ++ o ∷ []) few h (omega (arith, at64)) in
            inr (x, mem-filterb (λ z. leb (dueᶠ fig z) g) i (le-leb (fig x).arrival g d))

    run-left : (h₀ l₀ : ℕ) (os : List A) → Kinds fig kind n os → Left h₀ (search h₀ l₀ os)
    run-left h₀ l₀ os = snoc-ind (λ xs. Kinds fig kind n xs → Left h₀ (search h₀ l₀ xs)) (λ few. inl (omega arith))
        (λ xs x ih few. rw (foldl-append (offer (covᶠ fig) (dueᶠ fig) 64 3600) (going [] h₀ l₀) xs (x ∷ []))
        (offer-left h₀ xs x (search h₀ l₀ xs) few (run_holds (figures-order fig) 64 3600 (omega arith) h₀ l₀ xs)
        (ih (kinds-part n xs (x ∷ []) few)))) os

-- ---- best at second 0

module _ {A : Type 0} (fig : A → Figures) where
  pub few-together : FewTogether fig
  few-together kind n os few h a = at_most fig kind n os few h a

  best-zero : (ks : List A) (h : ℕ) → best fig ks h 0 ≡ pick fig ks
  best-zero ks h =
      rw (le-ltb h 0 (omega arith))
      (ap (pick fig) (filterb-all (λ k. leb 0 (fig k).leave) ks (λ k m. le-leb 0 (fig k).leave (omega arith))))

  least : (ks : List A) (a : ℕ) (k : A) → Memᴰ k ks → (fig k).arrival ≤ a → (r : Option A) → Picked fig ks r
      → (j : A) × (r ≡ Some j) × ((fig j).arrival ≤ a)
  least ks a k m d None w = absurd (w k m)
  least ks a k m d (Some j) (i, w) = (j, refl, omega (arith, prefer-arrival (fig j) (fig k) (w k m)))

  one-of : (ks : List A) (j : A) (r : Option A) → r ≡ Some j → Picked fig ks r → Memᴰ j ks
  one-of ks j None e w = absurd (false≢true cc)
  one-of ks j (Some k) e (i, w) = let q : k ≡ j = cc in rw q at i

  -- an answer for second 0 is one of the list
  pub best-mem : (ks : List A) (h : ℕ) (j : A) → best fig ks h 0 ≡ Some j → Memᴰ j ks
  best-mem ks h j b = one-of ks j (pick fig ks) (sym (best-zero ks h) ∙ b) (pick-picked fig ks)

  pub never-later : NeverLater fig
  never-later kind n h₀ l₀ xs ys ks ks' h h' l l' at64 few e e' j b =
      let has : Has fig kind (fig j).arrival (going ks h l) = (j, best-mem ks h j b, omega arith) in
      let after : Has fig kind (fig j).arrival (going ks' h' l') =
      rw e' at (goes-on-has fig kind n at64 (fig j).arrival h₀ l₀ xs ys few (rw e has)) in
      let (k, m, d) = after in
      let (j', p, q) = least ks' (fig j).arrival k m d (pick fig ks') (pick-picked fig ks') in
      (j', best-zero ks' h' ∙ p, q)

  pub never-emptied : NeverEmptied fig
  never-emptied kind n h₀ l₀ os ks h l at64 few e o m d = go (test (leb (fig o).arrival h))
    where
      held : Left fig kind h₀ (going ks h l)
      held = rw e at (run-left fig kind n at64 h₀ l₀ os few)

      -- cut before the offer: what is kept is due by the horizon
      before : h < (fig o).arrival → Left fig kind h₀ (going ks h l) → (k : A) × Memᴰ k ks × ((fig k).arrival ≤ (fig o).arrival)
      before lt (inl le) = absurd (omega (arith, d))
      before lt (inr (k, i)) =
          let (j, due) = (run-kept (figures-order fig) 64 3600 (omega arith) h₀ l₀ os ks h l e).3 k i in (k, i, omega (arith, due))

      go : (leb (fig o).arrival h ≡ true) ⊎ (leb (fig o).arrival h ≡ false) → (k : A) × Memᴰ k ks × ((fig k).arrival ≤ (fig o).arrival)
      go (inl t) =
          let (k, i, c) = run-covers (figures-order fig) 64 3600 (omega arith) h₀ l₀ os ks h l e o m (leb-true (fig o).arrival h t) in
          (k, i, covers-arrival (fig k) (fig o) c)
      go (inr t) = before (leb-false (fig o).arrival h t) held

-- ---- the instance, by computation

pub together_go : TogetherGo
unfolding lexb
together_go = record { sixty_four = refl; sixty_five = refl }
