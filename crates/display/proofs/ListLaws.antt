-- Lists in order by arrival: those due by a window stand first; the first of them that passes a test.
use Rattle.std.specs.Prelude.{None, Some}
use mathlib.Core.Path.{◌≡◌, refl, sym, ap, ◌∙◌}
use mathlib.Core.Bool.{Bool, true, false, cond}
use mathlib.Core.List.{List, [], ◌∷◌, ◌++◌, Memᴰ}
use Prim.Native.Nat.{ℕ, zero, suc, ◌-◌, ◌≤◌, ◌<◌}
use native.Mathlib.Omega.{arith}
use lib.Dec.{leb, ltb}
use lib.IntN.{ℤ, pos, negsuc}
use lib.ListN.{length, take, drop, get_or, length-take, length-append, take-append-drop, drop_of_length-le}
use lib.Seq.{drop-cons}
use borrow.Author.Tests.{leb-true, leb-false, lt-leb, le-ltb, ltb-true, ltb-false}
use Rattle.laws.specs.Lists.{firstb}
use Rattle.laws.specs.Sort.{insert_by}
use Rattle.laws.proofs.Bools.{cond-by, cond-not}
use Rattle.laws.proofs.Lists.{filterb-mem, filterb-append, length-filterb}
use Rattle.profile.specs.declared.Journey.{Journey}
use Rattle.profile.specs.Figures.{prefer}
use Rattle.profile.specs.Journeys.{no_journey, journey_figures}
use Rattle.profile.specs.Best.{Ordered, Ahead, firstℤ}
use Rattle.profile.proofs.FiguresLaws.{prefer-arrival}
use Rattle.display.specs.Parts.{window_before, window_of, is_due, shown_by}
use Rattle.display.specs.Promises.{earlier, RankedInList, WindowRule, read_none_of}

abbrev In : List Journey → Type 0
In ks = Ordered journey_figures ks

after : (x y : Journey) → prefer (journey_figures x) (journey_figures y) ≡ true → x.arrival ≤ y.arrival
after x y e = prefer-arrival (journey_figures x) (journey_figures y) e

-- ---- ranked by arrival

insert-first : (x : Journey) (ks : List Journey) → ((y : Journey) → Memᴰ y ks → prefer (journey_figures x) (journey_figures y) ≡ true)
    → insert_by earlier x ks ≡ x ∷ ks
insert-first x [] f = refl
insert-first x (y ∷ ks) f = cond-not _ _ (le-ltb y.arrival x.arrival (after x y (f y (Memᴰ.head refl))))

pub ranked-in-list : RankedInList
ranked-in-list [] o = refl
ranked-in-list (x ∷ ks) (f, o) = ap (insert_by earlier x) (ranked-in-list ks o) ∙ insert-first x ks f

-- ---- those due stand first

-- none is due behind one that isn't
late-none : (w : ℕ) (x : Journey) (ks : List Journey) → w < x.arrival → ((y : Journey) → Memᴰ y ks → x.arrival ≤ y.arrival)
    → shown_by w ks ≡ []
late-none w x [] l f = refl
late-none w x (y ∷ ks) l f =
    cond-not _ _ (lt-leb y.arrival w (omega (arith, f y (Memᴰ.head refl)))) ∙ late-none w x ks l (λ z m. f z (Memᴰ.tail m))

pub due-first : (w : ℕ) (ks : List Journey) → In ks → take (length (shown_by w ks)) ks ≡ shown_by w ks
due-first w [] o = refl
due-first w (x ∷ ks) (f, o) = go (is_due w x) refl (due-first w ks o)
  where
    go : (b : Bool) → is_due w x ≡ b → take (length (shown_by w ks)) ks ≡ shown_by w ks
        → take (length (cond b (x ∷ shown_by w ks) (shown_by w ks))) (x ∷ ks) ≡ cond b (x ∷ shown_by w ks) (shown_by w ks)
    go true e ih = ap {B = List Journey} (λ l. x ∷ l) ih
    go false e ih = rw (late-none w x ks (leb-false x.arrival w e) (λ y m. after x y (f y m)))

in-drop : (n : ℕ) (ks : List Journey) → In ks → In (drop n ks)
in-drop zero ks o = o
in-drop (suc n) [] o = o
in-drop (suc n) (x ∷ ks) (f, o) = in-drop n ks o

pub shown-in : (w : ℕ) (ks : List Journey) → In ks → In (shown_by w ks)
shown-in w [] o = tt
shown-in w (x ∷ ks) (f, o) = go (is_due w x) (shown-in w ks o)
  where
    go : (b : Bool) → In (shown_by w ks) → In (cond b (x ∷ shown_by w ks) (shown_by w ks))
    go true ih = (λ y m. f y (filterb-mem (is_due w) ks m).0, ih)
    go false ih = ih

-- ---- the window

pub window-fits : (ks : List Journey) (share h : ℕ) → length ks ≤ share → window_of ks share h ≡ h
unfolding window_before window_of
window-fits ks share h l = rw (drop_of_length-le ks l)

pub window-before : (ks : List Journey) (share h : ℕ) → share < length ks → window_of ks share h ≡ (get_or ks share no_journey).arrival - 1
unfolding window_before window_of
window-before ks share h l = rw (drop-cons ks share no_journey l)

pub window-rule : WindowRule
window-rule ks share h = (window-fits ks share h, window-before ks share h)

mem-drop : (n : ℕ) (ks : List Journey) {k : Journey} → Memᴰ k (drop n ks) → Memᴰ k ks
mem-drop zero ks m = m
mem-drop (suc n) [] m = m
mem-drop (suc n) (x ∷ ks) m = Memᴰ.tail (mem-drop n ks m)

-- no later than the horizon by which all are due
pub window-under : (ks : List Journey) (share h : ℕ) → ((k : Journey) → Memᴰ k ks → k.arrival ≤ h) → window_of ks share h ≤ h
unfolding window_before window_of
window-under ks share h f = go (drop share ks) (λ k m. f k (mem-drop share ks m))
  where
    go : (l : List Journey) → ((k : Journey) → Memᴰ k l → k.arrival ≤ h) → window_before l h ≤ h
    go [] f = omega arith
    go (j ∷ l) f = omega (arith, f j (Memᴰ.head refl))

-- at most the share is due by a window of 3600 or more
pub shown-fit : (ks : List Journey) (share h : ℕ) → In ks → (share < length ks → 3600 ≤ window_of ks share h)
    → length (shown_by (window_of ks share h) ks) ≤ share
shown-fit ks share h o large = go (ltb share (length ks)) refl
  where
    w : ℕ
    w = window_of ks share h

    split : shown_by w ks ≡ shown_by w (take share ks) ++ shown_by w (drop share ks)
    split = ap (shown_by w) (sym (take-append-drop share ks)) ∙ filterb-append (is_due w) (take share ks) (drop share ks)

    behind : share < length ks → shown_by w (drop share ks) ≡ []
    behind l =
        let j = get_or ks share no_journey in
        let e = drop-cons ks share no_journey l in
        let s : w < j.arrival = omega (arith, window-before ks share h l, large l) in
        let q : In (j ∷ drop (suc share) ks) = rw e at (in-drop share ks o) in
        ap (shown_by w) e ∙ cond-not _ _ (lt-leb j.arrival w s) ∙ late-none w j (drop (suc share) ks) s (λ y m. after j y (q.0 y m))

    go : (b : Bool) → ltb share (length ks) ≡ b → length (shown_by w ks) ≤ share
    go false e = omega (arith, ltb-false share (length ks) e, length-filterb (is_due w) ks)
    go true e =
        let l = ltb-true share (length ks) e in
        omega (
          arith,
          ap length split,
          length-append (shown_by w (take share ks)) (shown_by w (drop share ks)),
          ap {A = List Journey} length (behind l),
          length-filterb (is_due w) (take share ks),
          length-take share ks,
        )

-- ---- the first of those due that passes a test

first-due : (p : Journey → Bool) (w : ℕ) (ks : List Journey) → In ks → firstb p (shown_by w ks) ≡ read_none_of w (firstb p ks)
first-due p w [] o = refl
first-due p w (x ∷ ks) (f, o) = spread (is_due w x) ∙ go (is_due w x) refl (p x) (first-due p w ks o)
  where
    spread : (b : Bool) → firstb p (cond b (x ∷ shown_by w ks) (shown_by w ks))
        ≡ cond b (cond (p x) (Some x) (firstb p (shown_by w ks))) (firstb p (shown_by w ks))
    spread true = refl
    spread false = refl

    none_left : is_due w x ≡ false → shown_by w ks ≡ []
    none_left e = late-none w x ks (leb-false x.arrival w e) (λ y m. after x y (f y m))

    due : is_due w x ≡ true → (c : Bool) → firstb p (shown_by w ks) ≡ read_none_of w (firstb p ks)
        → cond c (Some x) (firstb p (shown_by w ks)) ≡ read_none_of w (cond c (Some x) (firstb p ks))
    due e true ih = sym (cond-by _ _ e)
    due e false ih = ih

    late : is_due w x ≡ false → (c : Bool) → firstb p (shown_by w ks) ≡ read_none_of w (firstb p ks)
        → firstb p (shown_by w ks) ≡ read_none_of w (cond c (Some x) (firstb p ks))
    late e true ih = ap (firstb p) (none_left e) ∙ sym (cond-not _ _ e)
    late e false ih = ih

    go : (b : Bool) → is_due w x ≡ b → (c : Bool) → firstb p (shown_by w ks) ≡ read_none_of w (firstb p ks)
        → cond b (cond c (Some x) (firstb p (shown_by w ks))) (firstb p (shown_by w ks)) ≡ read_none_of w (cond c (Some x) (firstb p ks))
    go true e c ih = due e c ih
    go false e c ih = late e c ih

none_passes : (p : Journey → Bool) (ks : List Journey) → ((k : Journey) → Memᴰ k ks → p k ≡ false) → firstb p ks ≡ None
none_passes p [] f = refl
none_passes p (x ∷ ks) f = cond-not _ _ (f x (Memᴰ.head refl)) ∙ none_passes p ks (λ k m. f k (Memᴰ.tail m))

-- none before 0 and after the window: of journeys that leave no later than they arrive
pub first_read : (ks : List Journey) (w h : ℕ) → In ks → Ahead journey_figures ks → w ≤ h → (z : ℤ)
    → firstℤ journey_figures (shown_by w ks) w z ≡ read_none_of w (firstℤ journey_figures ks h z)
first_read ks w h o a l (negsuc t) = refl
first_read ks w h o a l (pos t) = go (ltb w t) refl (ltb h t) refl
  where
    p : Journey → Bool
    p k = leb t k.leave

    gone : w < t → firstb p (shown_by w ks) ≡ None
    gone q = none_passes p (shown_by w ks) (λ k m. let (n, d) = filterb-mem (is_due w) ks m in
        lt-leb t k.leave (omega (arith, a k n, leb-true k.arrival w d)))

    go : (b : Bool) → ltb w t ≡ b → (c : Bool) → ltb h t ≡ c
        → cond b None (firstb p (shown_by w ks)) ≡ read_none_of w (cond c None (firstb p ks))
    go true e true f = refl
    go true e false f = sym (gone (ltb-true w t e)) ∙ first-due p w ks o
    go false e true f = absurd (omega (arith, ltb-false w t e, ltb-true h t f))
    go false e false f = first-due p w ks o
