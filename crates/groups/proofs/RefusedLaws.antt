-- A display is turned away exactly by one of its four causes.
use Rattle.std.specs.Prelude.{None, Option, Some}
use mathlib.Core.Path.{◌≡◌, refl, sym, ap, subst, ◌∙◌}
use mathlib.Core.Logic.{◌⊎◌, inl, inr}
use mathlib.Core.Bool.{Bool, true, false, not, cond, true≢false, ◌||◌}
use mathlib.Core.List.Memᴰ
use mathlib.Core.List.{List, [], ◌∷◌, ◌++◌, Memᴰ}
use Prim.Native.Nat.{ℕ, suc, ◌≤◌}
use native.Mathlib.Omega.{arith}
use lib.Dec.{ltb, eqb}
use lib.IntN.{ℤ, pos, negsuc}
use lib.Signed.{lt_z}
use mir.Syntax.{w64}
use mir.Val.{to_z, of_z}
use borrow.Author.Tests.{ltb-true, ltb-false, le-ltb, eqb-true, eqb-false, eq-eqb, ne_eqb}
use Rattle.std.specs.List.{find}
use Rattle.laws.specs.Lists.{anyb}
use Rattle.laws.proofs.Bools.{or-true-cases, or-true-left, or_true_right, or-false-left, or-false-right, or-not, cond-by, cond-not}
use Rattle.laws.proofs.Lists.{anyb-mem, mem-anyb, anyb-not}
use Rattle.groups.specs.declared.Group.{Group}
use Rattle.groups.specs.Groups.{has_number, group_at, start_or, lowest_start}
use Rattle.groups.specs.Refused.{unlike, is_wrong, twice, turned_away, Above, Twice, Unsearched, Lowest, Unlike, TurnedAwayExactly}

-- ---- starts

same-lt_z : (a : ℤ) → lt_z a a ≡ false
same-lt_z (pos n) = le-ltb n n (omega arith)
same-lt_z (negsuc n) = le-ltb n n (omega arith)

lt_z_same : (a b : ℤ) → lt_z a b ≡ false → lt_z b a ≡ false → a ≡ b
lt_z_same (pos m) (pos n) e f = ap pos (let h = ltb-false m n e in let k = ltb-false n m f in omega arith)
lt_z_same (pos m) (negsuc n) e f = absurd (true≢false f)
lt_z_same (negsuc m) (pos n) e f = absurd (true≢false e)
lt_z_same (negsuc m) (negsuc n) e f = ap negsuc (let h = ltb-false n m e in let k = ltb-false m n f in omega arith)

like-same : (a b : ℤ) → unlike a b ≡ false → a ≡ b
unfolding unlike
like-same a b e = go (lt_z a b) refl (lt_z b a) refl e
  where
    go : (x : Bool) → lt_z a b ≡ x → (y : Bool) → lt_z b a ≡ y → (x || y) ≡ false → a ≡ b
    go false p false q r = lt_z_same a b p q
    go false p true q r = absurd (true≢false r)
    go true p y q r = absurd (true≢false r)

unlike-apart : (a b : ℤ) → unlike a b ≡ true → a ≡ b → ⊥
unfolding unlike
unlike-apart a b e q = true≢false (sym e ∙ ap (λ (z : ℤ). lt_z a z || lt_z z a) (sym q) ∙ or-not _ (same-lt_z a) ∙ same-lt_z a)

-- two starts in bits are one, or unlike
pub unlike-bits : (a b : ℤ) → to_z w64 (of_z w64 a) ≡ a → to_z w64 (of_z w64 b) ≡ b → not (eqb (of_z w64 a) (of_z w64 b)) ≡ unlike a b
unlike-bits a b p q = go (eqb (of_z w64 a) (of_z w64 b)) (unlike a b) refl refl
  where
    go : (s t : Bool) → eqb (of_z w64 a) (of_z w64 b) ≡ s → unlike a b ≡ t → not s ≡ t
    go true true e f = absurd (unlike-apart a b f (sym p ∙ ap (to_z w64) (eqb-true _ _ e) ∙ q))
    go true false e f = refl
    go false true e f = refl
    go false false e f = absurd (eqb-false _ _ e (ap (of_z w64) (like-same a b f)))

-- above 3 or unsearched, or else of another start
module _ (low : ℤ) (g : Group) {v : Bool} (is : v ≡ (ltb 3 g.number || not g.searched)) where
  pub wrong-first : v ≡ true → v ≡ is_wrong low g
  unfolding is_wrong
  wrong-first e = e ∙ go (ltb 3 g.number) (not g.searched) (sym is ∙ e)
    where
      go : (x y : Bool) → (x || y) ≡ true → true ≡ (x || (y || unlike g.now low))
      go true y p = refl
      go false true p = refl
      go false false p = absurd (true≢false (sym p))

  pub wrong-last : {r : Bool} → v ≡ false → r ≡ unlike g.now low → r ≡ is_wrong low g
  unfolding is_wrong
  wrong-last e f = f ∙ go (ltb 3 g.number) (not g.searched) (sym is ∙ e)
    where
      go : (x y : Bool) → (x || y) ≡ false → unlike g.now low ≡ (x || (y || unlike g.now low))
      go true y p = absurd (true≢false p)
      go false true p = absurd (true≢false p)
      go false false p = refl

-- ---- a number that stands twice

apart : (q : Group) (gs : List Group) → Memᴰ q gs → (xs ys : List Group) × (gs ≡ xs ++ q ∷ ys)
apart q [] m = absurd (Memᴰ.not-nil m)
apart q (x ∷ gs) m = by (λ n. apart q gs n) (Memᴰ.cases_cons m)
  where
    by : (Memᴰ q gs → (xs ys : List Group) × (gs ≡ xs ++ q ∷ ys)) → (q ≡ x) ⊎ Memᴰ q gs → (xs ys : List Group) × (x ∷ gs ≡ xs ++ q ∷ ys)
    by f (inl e) = ([], gs, ap {B = List Group} (λ y. y ∷ gs) (sym e))
    by f (inr n) = let (xs, ys, s) = f n in (x ∷ xs, ys, ap {B = List Group} (λ l. x ∷ l) s)

twice-out : (gs : List Group) → twice gs ≡ true → Twice gs
unfolding twice
twice-out [] e = absurd (true≢false (sym e))
twice-out (g ∷ gs) e = go (λ h. twice-out gs h) (or-true-cases (anyb (has_number g.number) gs) (twice gs) e)
  where
    go : (twice gs ≡ true → Twice gs) → (anyb (has_number g.number) gs ≡ true) ⊎ (twice gs ≡ true) → Twice (g ∷ gs)
    go f (inl h) =
        let (q, m, p) = anyb-mem (has_number g.number) gs h in
        let (xs, ys, s) = apart q gs m in
        record {
          before = [];
          one = g;
          between = xs;
          other = q;
          behind = ys;
          are = ap {B = List Group} (λ l. g ∷ l) s;
          same = eqb-true q.number g.number p;
        }
    go f (inr h) =
        let w = f h in
        record {
          before = g ∷ w.before;
          one = w.one;
          between = w.between;
          other = w.other;
          behind = w.behind;
          are = ap {B = List Group} (λ l. g ∷ l) w.are;
          same = w.same;
        }

mem-append : (q : Group) (xs ys : List Group) → Memᴰ q (xs ++ q ∷ ys)
mem-append q [] ys = Memᴰ.head refl
mem-append q (x ∷ xs) ys = Memᴰ.tail (mem-append q xs ys)

twice_in : (xs : List Group) (g q : Group) (ys zs : List Group) → q.number ≡ g.number → twice (xs ++ g ∷ ys ++ q ∷ zs) ≡ true
unfolding twice
twice_in [] g q ys zs e = or-true-left _ _ (mem-anyb (has_number g.number) (mem-append q ys zs) (eq-eqb q.number g.number e))
twice_in (x ∷ xs) g q ys zs e = or_true_right (anyb (has_number x.number) (xs ++ g ∷ ys ++ q ∷ zs)) _ (twice_in xs g q ys zs e)

-- ---- the lowest group

first_some : (p : Group → Bool) (gs : List Group) (g : Group) → find p gs ≡ Some g → Memᴰ g gs × (p g ≡ true)
first_some p [] g e = absurd (let z : ◌≡◌ {A = ℕ} 0 1 = cc in omega arith)
first_some p (x ∷ gs) g e = go (λ r. first_some p gs g r) (p x) refl e
  where
    go : (find p gs ≡ Some g → Memᴰ g gs × (p g ≡ true)) → (b : Bool) → p x ≡ b → cond b (Some x) (find p gs) ≡ Some g
        → Memᴰ g (x ∷ gs) × (p g ≡ true)
    go f true q r = let s : x ≡ g = cc in (Memᴰ.head (sym s), subst (λ (y : Group). p y ≡ true) s q)
    go f false q r = let (m, t) = f r in (Memᴰ.tail m, t)

first-none : (p : Group → Bool) (gs : List Group) → find p gs ≡ None → (g : Group) → Memᴰ g gs → p g ≡ false
first-none p [] e g m = absurd (Memᴰ.not-nil m)
first-none p (x ∷ gs) e g m = go (λ r n. first-none p gs r g n) (p x) refl e (Memᴰ.cases_cons m)
  where
    go : (find p gs ≡ None → Memᴰ g gs → p g ≡ false) → (b : Bool) → p x ≡ b → cond b (Some x) (find p gs) ≡ None → (g ≡ x) ⊎ Memᴰ g gs
        → p g ≡ false
    go f true q r s = absurd (let z : ◌≡◌ {A = ℕ} 0 1 = cc in omega arith)
    go f false q r (inl s) = subst (λ (y : Group). p y ≡ false) (sym s) q
    go f false q r (inr n) = f r n

module _ (gs : List Group) where
  -- every number is i or more
  abbrev From : ℕ → Type 0
  From i = (g : Group) → Memᴰ g gs → i ≤ g.number

  -- the group of the lowest number has the start z
  abbrev Starts : ℤ → Type 0
  Starts z = (l : Group) × Lowest gs l × (l.now ≡ z)

  -- number i is given, or all are higher
  start-at : (i : ℕ) (z : ℤ) → From i → (From (suc i) → Starts z) → Starts (start_or (group_at i gs) z)
  unfolding start_or group_at
  start-at i z f next = go (find (has_number i) gs) refl
    where
      go : (o : Option Group) → find (has_number i) gs ≡ o → Starts (start_or o z)
      go None e = next (λ g m. let n : ¬ (g.number ≡ i) = eqb-false g.number i (first-none (has_number i) gs e g m) in omega (arith, f g m))
      go (Some l) e =
          let (m, t) = first_some (has_number i) gs l e in
          (l, (m, λ g n. omega (arith, eqb-true l.number i t, f g n)), refl)

  -- where a group of 0 to 3 is given
  lowest-starts : (g : Group) → Memᴰ g gs → g.number ≤ 3 → Starts (lowest_start gs)
  unfolding lowest_start
  lowest-starts g m h =
      start-at 0 _ (λ q n. omega arith)
      (λ f₁. start-at 1 _ f₁ (λ f₂. start-at 2 _ f₂ (λ f₃. start-at 3 _ f₃ (λ f₄. absurd (omega (arith, f₄ g m))))))

-- ---- the four causes

wrong-cases : (gs : List Group) (g : Group) → Memᴰ g gs → is_wrong (lowest_start gs) g ≡ true
    → Above gs ⊎ (Twice gs ⊎ (Unsearched gs ⊎ Unlike gs))
unfolding is_wrong
wrong-cases gs g m e = go (ltb 3 g.number) refl g.searched refl e
  where
    go : (a : Bool) → ltb 3 g.number ≡ a → (b : Bool) → g.searched ≡ b → (a || (not b || unlike g.now (lowest_start gs))) ≡ true
        → Above gs ⊎ (Twice gs ⊎ (Unsearched gs ⊎ Unlike gs))
    go true p b q r = inl (g, m, ltb-true 3 g.number p)
    go false p false q r = inr (inr (inl (g, m, q)))
    go false p true q r =
        let (l, w, s) = lowest-starts gs g m (ltb-false 3 g.number p) in
        inr (inr (inr (g, l, m, w, λ t. unlike-apart g.now (lowest_start gs) r (t ∙ s))))

away-out : (gs : List Group) → turned_away gs ≡ true → Above gs ⊎ (Twice gs ⊎ (Unsearched gs ⊎ Unlike gs))
unfolding turned_away
away-out gs e = go (or-true-cases (twice gs) (anyb (is_wrong (lowest_start gs)) gs) e)
  where
    go : (twice gs ≡ true) ⊎ (anyb (is_wrong (lowest_start gs)) gs ≡ true) → Above gs ⊎ (Twice gs ⊎ (Unsearched gs ⊎ Unlike gs))
    go (inl t) = inr (inl (twice-out gs t))
    go (inr w) = let (g, m, p) = anyb-mem (is_wrong (lowest_start gs)) gs w in wrong-cases gs g m p

by-twice : (gs : List Group) → Twice gs → turned_away gs ≡ true
unfolding turned_away
by-twice gs w = or-true-left _ _ (ap twice w.are ∙ twice_in w.before w.one w.other w.between w.behind w.same)

-- of one that isn't turned away every group is 0 to 3, searched, and has the one start
pub record Fine (gs : List Group) (g : Group) : Type 0 where
  pub low : g.number ≤ 3
  pub searched : g.searched ≡ true
  pub start : g.now ≡ lowest_start gs

pub not-away : (gs : List Group) → turned_away gs ≡ false → (g : Group) → Memᴰ g gs → Fine gs g
unfolding turned_away is_wrong
not-away gs e g m = go (ltb 3 g.number) refl g.searched refl (anyb-not (is_wrong (lowest_start gs)) (or-false-right (twice gs) _ e) m)
  where
    go : (a : Bool) → ltb 3 g.number ≡ a → (b : Bool) → g.searched ≡ b → (a || (not b || unlike g.now (lowest_start gs))) ≡ false
        → Fine gs g
    go true p b q r = absurd (true≢false r)
    go false p false q r = absurd (true≢false r)
    go false p true q r = record { low = ltb-false 3 g.number p; searched = q; start = like-same g.now (lowest_start gs) r }

away-in : (gs : List Group) → Above gs ⊎ (Twice gs ⊎ (Unsearched gs ⊎ Unlike gs)) → turned_away gs ≡ true
away-in gs w = go (turned_away gs) refl w
  where
    go : (b : Bool) → turned_away gs ≡ b → Above gs ⊎ (Twice gs ⊎ (Unsearched gs ⊎ Unlike gs)) → b ≡ true
    go true e w = refl
    go false e (inl (g, m, h)) = absurd (omega (arith, (not-away gs e g m).low))
    go false e (inr (inl t)) = sym e ∙ by-twice gs t
    go false e (inr (inr (inl (g, m, u)))) = absurd (true≢false (sym (not-away gs e g m).searched ∙ u))
    go false e (inr (inr (inr (g, l, m, (n, f), u)))) = absurd (u ((not-away gs e g m).start ∙ sym (not-away gs e l n).start))

pub turned-away-exactly : TurnedAwayExactly
turned-away-exactly gs = (away-out gs, away-in gs)

-- ---- the group of a number, where the display isn't turned away

first-given : (gs : List Group) (g : Group) → twice gs ≡ false → Memᴰ g gs → find (has_number g.number) gs ≡ Some g
unfolding twice
first-given [] g e m = absurd (Memᴰ.not-nil m)
first-given (x ∷ gs) g e m = go (λ n. first-given gs g (or-false-right (anyb (has_number x.number) gs) (twice gs) e) n) (Memᴰ.cases_cons m)
  where
    go : (Memᴰ g gs → find (has_number g.number) gs ≡ Some g) → (g ≡ x) ⊎ Memᴰ g gs
        → cond (has_number g.number x) (Some x) (find (has_number g.number) gs) ≡ Some g
    go f (inl q) = cond-by _ _ (eq-eqb x.number g.number (ap (λ (y : Group). y.number) (sym q))) ∙ ap {B = Option Group} Some (sym q)
    go f (inr n) =
        let a : ¬ (g.number ≡ x.number) = eqb-false g.number x.number (anyb-not (has_number x.number) (or-false-left _ (twice gs) e) n) in
        cond-not _ _ (ne_eqb x.number g.number (λ q. a (sym q))) ∙ f n

pub group-found : (gs : List Group) (g : Group) → turned_away gs ≡ false → Memᴰ g gs → group_at g.number gs ≡ Some g
unfolding turned_away group_at
group-found gs g e m = first-given gs g (or-false-left (twice gs) _ e) m

-- a number that isn't given, or a group of it
pub group-cases : (gs : List Group) (i : ℕ) → (group_at i gs ≡ None) ⊎ ((g : Group) × Memᴰ g gs × (g.number ≡ i))
unfolding group_at
group-cases gs i = go (find (has_number i) gs) refl
  where
    go : (o : Option Group) → find (has_number i) gs ≡ o → (o ≡ None) ⊎ ((g : Group) × Memᴰ g gs × (g.number ≡ i))
    go None e = inl refl
    go (Some g) e = let (m, t) = first_some (has_number i) gs g e in inr (g, m, eqb-true g.number i t)
