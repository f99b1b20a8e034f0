-- The promises of specs/Promises.antt, each from the laws of lists in order and of the groups of a display.
use Rattle.std.specs.Prelude.{None, Option, Some, Err, Ok}
use mathlib.Core.Path.{◌≡◌, refl, sym, ap, subst, ◌∙◌}
use mathlib.Core.Logic.{◌⊎◌, inl, inr}
use mathlib.Core.Bool.{Bool, true, false, true≢false}
use mathlib.Core.List.{List, [], ◌∷◌, Memᴰ}
use Prim.Native.Nat.{ℕ, zero, suc, ◌+◌, ◌-◌, ◌≤◌, ◌<◌}
use native.Mathlib.Omega.{arith}
use lib.Dec.{ltb}
use lib.IntN.{ℤ}
use lib.ListN.{length, take, get_or, length-take}
use lib.Seq.{take-take}
use borrow.Author.Tests.{ltb-true, ltb-false, lt-ltb, le-leb}
use Rattle.laws.proofs.Bools.{cond-by, cond-not, and-true, and-true-left, and-true-right, test}
use Rattle.laws.proofs.Lists.{filterb-all, length-filterb}
use Rattle.refusal.specs.declared.Refusal.TheVariants.{DisplayGroups, NoRoom}
use Rattle.shares.specs.Shares.{total, shares_of}
use Rattle.shares.specs.Promises.{Shared}
use Rattle.shares.proofs.ShareLaws.{shares-right}
use Rattle.profile.specs.declared.Journey.{Journey}
use Rattle.profile.specs.Journeys.{no_journey, journey_figures}
use Rattle.profile.specs.Best.{Ordered, firstℤ}
use Rattle.load.specs.declared.Load.{Load}
use Rattle.best.specs.Best.{answer_of, kept_of, first_leaving, best_spec}
use Rattle.groups.specs.declared.Group.{Group}
use Rattle.groups.specs.Groups.{group_of, list_of, group_at}
use Rattle.groups.specs.Refused.{turned_away}
use Rattle.groups.proofs.RefusedLaws.{not-away, group-found, group-cases}
use Rattle.display.specs.Parts.{Part, shows, window_to, shown_count, window_of, falls_below, is_due, shown_by, shown_part, part_in}
use Rattle.display.specs.Parts.{count_in}
use Rattle.display.specs.Display.{Display, counts, share_of, part_at, display_of, part_of}
use Rattle.display.specs.Queries.{best_of_group}
use Rattle.display.specs.Promises.{group_part, Given, FallsBelow, RefusedWhole, RefusedAlone, ShownRight, SixteenShown, SixtyFour}
use Rattle.display.specs.Promises.{read_none_of, BestByGroup}
use Rattle.display.proofs.ListLaws.{window-fits, window-before, window-under, due-first, shown-fit, first_read}

-- ---- the part of a group that is given

parts-away : (gs : List Group) → turned_away gs ≡ true → (i : ℕ) → group_part gs i ≡ None
unfolding display_of part_of
parts-away gs e i = ap (λ (d : Display). part_of d i) (cond-by _ _ e)

part-stands : (gs : List Group) → turned_away gs ≡ false → (i : ℕ) → i ≤ 3 → group_part gs i ≡ part_at gs i
unfolding display_of part_of
part-stands gs e i l = ap (λ (d : Display). part_of d i) (cond-not _ _ e) ∙ at i l
  where
    at : (i : ℕ) → i ≤ 3 → get_or (part_at gs 0 ∷ part_at gs 1 ∷ part_at gs 2 ∷ part_at gs 3 ∷ []) i None ≡ part_at gs i
    at zero l = refl
    at (suc zero) l = refl
    at (suc (suc zero)) l = refl
    at (suc (suc (suc zero))) l = refl
    at (suc (suc (suc (suc i)))) l = absurd (omega arith)

module _ (gs : List Group) (g : Group) (w : Given gs g) where
  low : g.number ≤ 3
  low = (not-away gs w.stands g w.given).low

  share : ℕ
  share = share_of gs g.number

  pub given-part : group_part gs g.number ≡ Some (shown_part (list_of g) (share_of gs g.number) g.horizon)
  unfolding part_in
  given-part = part-stands gs w.stands g.number low
      ∙ ap (λ (s : Option Group). part_in s (share_of gs g.number)) (group-found gs g w.stands w.given)

  -- its list is as long as the shares say
  given-count : get_or (counts gs) g.number 0 ≡ length (list_of g)
  unfolding count_in
  given-count = at g.number low ∙ ap count_in (group-found gs g w.stands w.given)
    where
      at : (i : ℕ) → i ≤ 3 → get_or (counts gs) i 0 ≡ count_in (group_at i gs)
      at zero l = refl
      at (suc zero) l = refl
      at (suc (suc zero)) l = refl
      at (suc (suc (suc zero))) l = refl
      at (suc (suc (suc (suc i)))) l = absurd (omega arith)

shared : (gs : List Group) → Shared (counts gs)
shared gs = shares-right (counts gs) (omega arith)

-- ---- 23

pub refused-whole : RefusedWhole
unfolding display_of
refused-whole gs = ((λ e. cond-by _ _ e, λ q. go (turned_away gs) refl q), parts-away gs)
  where
    go : (b : Bool) → turned_away gs ≡ b → display_of gs ≡ Err DisplayGroups → b ≡ true
    go true e q = refl
    go false e q =
        let r : ◌≡◌ {A = Display} (Ok (part_at gs 0 ∷ part_at gs 1 ∷ part_at gs 2 ∷ part_at gs 3 ∷ [])) (Err DisplayGroups) =
        sym (cond-not _ _ e) ∙ q in
        absurd (let z : ◌≡◌ {A = ℕ} 0 1 = cc in omega arith)

-- ---- 11

below-is : (ks : List Journey) (share h : ℕ) → share < length ks → (get_or ks share no_journey).arrival - 1 < 3600
    → falls_below (length ks) share (window_of ks share h) ≡ true
unfolding falls_below
below-is ks share h l b = and-true _ _ (lt-ltb share (length ks) l)
    (lt-ltb (window_of ks share h) 3600 (omega (arith, window-before ks share h l)))

is_below : (ks : List Journey) (share h : ℕ) → falls_below (length ks) share (window_of ks share h) ≡ true
    → (share < length ks) × ((get_or ks share no_journey).arrival - 1 < 3600)
unfolding falls_below
is_below ks share h e =
    let l = ltb-true share (length ks) (and-true-left _ _ e) in (
      l,
      let b = ltb-true (window_of ks share h) 3600 (and-true-right (ltb share (length ks)) _ e) in
          omega (arith, window-before ks share h l),
    )

refused-shows : (ks : List Journey) (share h : ℕ) → falls_below (length ks) share (window_of ks share h) ≡ true
    → ◌≡◌ {A = Part} (Some (shown_part ks share h)) (Some (Err NoRoom))
unfolding shown_part
refused-shows _ _ _ e = ap {B = Part} Some (cond-by _ _ e)

shown-shows : (ks : List Journey) (share h : ℕ) → falls_below (length ks) share (window_of ks share h) ≡ false
    → ◌≡◌ {A = Part} (Some (shown_part ks share h))
    (Some (Ok (record { window = window_of ks share h; count = length (shown_by (window_of ks share h) ks) })))
unfolding shown_part
shown-shows _ _ _ e = ap {B = Part} Some (cond-not _ _ e)

-- a part that shows isn't refused
stays_up : (ks : List Journey) (share h : ℕ) → shows (Some (shown_part ks share h)) ≡ true
    → falls_below (length ks) share (window_of ks share h) ≡ false
stays_up ks share h s = go (test (falls_below (length ks) share (window_of ks share h)))
  where
    go : (falls_below (length ks) share (window_of ks share h) ≡ true) ⊎ (falls_below (length ks) share (window_of ks share h) ≡ false)
        → falls_below (length ks) share (window_of ks share h) ≡ false
    go (inl e) = absurd (true≢false (sym s ∙ ap (λ (p : Part). shows p) (refused-shows ks share h e)))
    go (inr e) = e

pub refused-alone : RefusedAlone
refused-alone gs g w = (
  (
    λ (l, b). given-part gs g w
        ∙ refused-shows ks s h (below-is ks s h l b),
    λ q. go (test (falls_below (length ks) s (window_of ks s h))) q,
  ),
  up (test (falls_below (length ks) s (window_of ks s h))),
)
  where
    ks : List Journey
    ks = list_of g

    s : ℕ
    s = share_of gs g.number

    h : ℕ
    h = g.horizon

    go : (falls_below (length ks) s (window_of ks s h) ≡ true) ⊎ (falls_below (length ks) s (window_of ks s h) ≡ false)
        → group_part gs g.number ≡ Some (Err NoRoom) → FallsBelow gs g
    go (inl e) q = is_below ks s h e
    go (inr e) q = absurd (true≢false (sym (ap (λ (p : Part). shows p) (shown-shows ks s h e))
        ∙ ap (λ (p : Part). shows p) (sym (given-part gs g w) ∙ q)))

    up : (falls_below (length ks) s (window_of ks s h) ≡ true) ⊎ (falls_below (length ks) s (window_of ks s h) ≡ false)
        → (FallsBelow gs g → ⊥) → shows (group_part gs g.number) ≡ true
    up (inl e) n = absurd (n (is_below ks s h e))
    up (inr e) n = ap (λ (p : Part). shows p) (given-part gs g w ∙ shown-shows ks s h e)

-- ---- what is shown

pub shown-right : ShownRight
shown-right gs g w o s = record { window = ap (λ (p : Part). window_to p) part; shown = shown; fit = fit }
  where
    ks : List Journey
    ks = list_of g

    n : ℕ
    n = share_of gs g.number

    v : ℕ
    v = window_of ks n g.horizon

    up : falls_below (length ks) n v ≡ false
    up = stays_up ks n g.horizon (sym (ap (λ (p : Part). shows p) (given-part gs g w)) ∙ s)

    part : group_part gs g.number ≡ Some (Ok (record { window = v; count = length (shown_by v ks) }))
    part = given-part gs g w ∙ shown-shows ks n g.horizon up

    large : n < length ks → 3600 ≤ v
    large l = go (ltb v 3600) refl
      where
        go : (b : Bool) → ltb v 3600 ≡ b → 3600 ≤ v
        go true e = absurd (true≢false (sym (below-is ks n g.horizon l (omega (arith, ltb-true v 3600 e, window-before ks n g.horizon l)))
            ∙ up))
        go false e = ltb-false v 3600 e

    first : take (length (shown_by v ks)) g.journeys ≡ shown_by v ks
    first = sym (take-take (length (shown_by v ks)) g.count g.journeys
        (omega (arith, length-filterb (is_due v) ks, length-take g.count g.journeys))) ∙ due-first v ks o

    shown : take (shown_count (group_part gs g.number)) g.journeys ≡ shown_by (window_to (group_part gs g.number)) ks
    shown = ap (λ (p : Part). take (shown_count p) g.journeys) part ∙ first ∙ sym (ap (λ (p : Part). shown_by (window_to p) ks) part)

    fit : shown_count (group_part gs g.number) ≤ n
    fit = subst (λ (p : Part). shown_count p ≤ n) (sym part) (shown-fit ks n g.horizon o large)

-- where a group has a display, the whole isn't turned away
pub not-shown-away : (gs : List Group) (i : ℕ) → shows (group_part gs i) ≡ true → turned_away gs ≡ false
not-shown-away gs i s = go (test (turned_away gs))
  where
    go : (turned_away gs ≡ true) ⊎ (turned_away gs ≡ false) → turned_away gs ≡ false
    go (inl e) = absurd (true≢false (sym s ∙ ap (λ (p : Part). shows p) (parts-away gs e i)))
    go (inr e) = e

pub given-window : (gs : List Group) (g : Group) → Given gs g → Ordered journey_figures (list_of g) → shows (group_part gs g.number) ≡ true
    → ((k : Journey) → Memᴰ k (list_of g) → k.arrival ≤ g.horizon) → window_to (group_part gs g.number) ≤ g.horizon
given-window gs g w o s f = subst (λ (v : ℕ). v ≤ g.horizon) (sym (shown-right gs g w o s).window)
    (window-under (list_of g) (share_of gs g.number) g.horizon f)

-- ---- sixteen or fewer

pub sixteen-shown : SixteenShown
sixteen-shown gs g w few due =
    given-part gs g w ∙ shown-shows ks n h (up (test (falls_below (length ks) n (window_of ks n h))))
    ∙ (λ i. Some (Ok (record {
      window = whole i;
      count =
          (ap (λ (v : ℕ). length (shown_by v ks)) whole ∙ ap {A = List Journey} length all) i;
    })))
  where
    ks : List Journey
    ks = list_of g

    n : ℕ
    n = share_of gs g.number

    h : ℕ
    h = g.horizon

    fits : length ks ≤ n
    fits = omega (arith, (shared gs).least g.number, given-count gs g w)

    whole : window_of ks n h ≡ h
    whole = window-fits ks n h fits

    up : (falls_below (length ks) n (window_of ks n h) ≡ true) ⊎ (falls_below (length ks) n (window_of ks n h) ≡ false)
        → falls_below (length ks) n (window_of ks n h) ≡ false
    up (inl e) = absurd (omega (arith, fits, (is_below ks n h e).0))
    up (inr e) = e

    all : shown_by h ks ≡ ks
    all = filterb-all (is_due h) ks (λ k m. le-leb k.arrival h (due k m))

-- ---- 64 in all

refused-count : (gs : List Group) (g : Group) → Given gs g → Ordered journey_figures (list_of g)
    → shown_count (group_part gs g.number) ≤ share_of gs g.number
refused-count gs g w o = go (shows (group_part gs g.number)) refl
  where
    none-shown : (ks : List Journey) (share h : ℕ) → shows (Some (shown_part ks share h)) ≡ false
        → shown_count (Some (shown_part ks share h)) ≡ 0
    none-shown ks share h e = by (test (falls_below (length ks) share (window_of ks share h)))
      where
        by : (falls_below (length ks) share (window_of ks share h) ≡ true)
            ⊎ (falls_below (length ks) share (window_of ks share h) ≡ false) → shown_count (Some (shown_part ks share h)) ≡ 0
        by (inl f) = ap (λ (p : Part). shown_count p) (refused-shows ks share h f)
        by (inr f) = absurd (true≢false (sym (ap (λ (p : Part). shows p) (shown-shows ks share h f)) ∙ e))

    go : (b : Bool) → shows (group_part gs g.number) ≡ b → shown_count (group_part gs g.number) ≤ share_of gs g.number
    go true e = (shown-right gs g w o e).fit
    go false e =
        let q = given-part gs g w in
        let z = none-shown (list_of g) (share_of gs g.number) g.horizon (sym (ap (λ (p : Part). shows p) q) ∙ e) in
        omega (arith, ap (λ (p : Part). shown_count p) q)

part_count : (gs : List Group) → turned_away gs ≡ false → ((g : Group) → Memᴰ g gs → Ordered journey_figures (list_of g)) → (i : ℕ)
    → i ≤ 3 → shown_count (group_part gs i) ≤ share_of gs i
unfolding part_in
part_count gs e o i l = go (group-cases gs i)
  where
    go : (group_at i gs ≡ None) ⊎ ((g : Group) × Memᴰ g gs × (g.number ≡ i)) → shown_count (group_part gs i) ≤ share_of gs i
    go (inl q) = omega (
      arith,
      ap (λ (p : Part). shown_count p)
          (part-stands gs e i l ∙ ap (λ (s : Option Group). part_in s (share_of gs i)) q),
    )
    go (inr (g, m, q)) = subst (λ (k : ℕ). shown_count (group_part gs k) ≤ share_of gs k) q
        (refused-count gs g (record { stands = e; given = m }) (o g m))

four : (ns : List ℕ) → length ns ≡ 4 → get_or ns 0 0 + (get_or ns 1 0 + (get_or ns 2 0 + get_or ns 3 0)) ≡ total ns
four [] e = absurd (omega arith)
four (a ∷ []) e = absurd (omega arith)
four (a ∷ b ∷ []) e = absurd (omega arith)
four (a ∷ b ∷ c ∷ []) e = absurd (omega arith)
four (a ∷ b ∷ c ∷ d ∷ []) e = omega arith
four (a ∷ b ∷ c ∷ d ∷ f ∷ ns) e = absurd (omega arith)

pub sixty_four : SixtyFour
sixty_four gs o = go (turned_away gs) refl
  where
    go : (b : Bool) → turned_away gs ≡ b → shown_count (group_part gs 0) +
        (shown_count (group_part gs 1) + (shown_count (group_part gs 2) + shown_count (group_part gs 3))) ≤ 64
    go true e =
        omega (
          arith,
          ap (λ (p : Part). shown_count p) (parts-away gs e 0),
          ap (λ (p : Part). shown_count p) (parts-away gs e 1),
          ap (λ (p : Part). shown_count p) (parts-away gs e 2),
          ap (λ (p : Part). shown_count p) (parts-away gs e 3),
        )
    go false e =
        let s = shared gs in
        let t = four (shares_of (counts gs)) s.each in
        let a = part_count gs e o 0 (omega arith) in
        let b = part_count gs e o 1 (omega arith) in
        let c = part_count gs e o 2 (omega arith) in
        let d = part_count gs e o 3 (omega arith) in
        omega (arith, s.fit)

-- ---- best by group

back-again : (o : Option Journey) → answer_of o ≡ o
back-again None = refl
back-again (Some j) = refl

best-is : (g : Group) (p : Part) (s : ℤ) → shows p ≡ true
    → answer_of (best_of_group g p s) ≡ firstℤ journey_figures (take (shown_count p) g.journeys) (window_to p) s
unfolding best_of_group first_leaving
best-is g p s e = ap answer_of (cond-by _ _ e) ∙ back-again (firstℤ journey_figures (take (shown_count p) g.journeys) (window_to p) s)

load-best : (l : Load) (s : ℤ) → l.searched ≡ true → answer_of (best_spec l s) ≡ firstℤ journey_figures (kept_of l) l.horizon s
unfolding best_spec first_leaving
load-best l s e = ap answer_of (cond-by _ _ e) ∙ back-again (firstℤ journey_figures (kept_of l) l.horizon s)

-- best of a group is the first of those due by its window
pub best-shown-by : (gs : List Group) (g : Group) → Given gs g → Ordered journey_figures (list_of g)
    → shows (group_part gs g.number) ≡ true → (s : ℤ)
    → answer_of (best_of_group g (group_part gs g.number) s)
    ≡ firstℤ journey_figures (shown_by (window_to (group_part gs g.number)) (list_of g)) (window_to (group_part gs g.number)) s
best-shown-by gs g w o e s =
    best-is g (group_part gs g.number) s e
    ∙ ap (λ (ks : List Journey). firstℤ journey_figures ks (window_to (group_part gs g.number)) s) (shown-right gs g w o e).shown

pub best-by-group : BestByGroup
best-by-group gs n l w o a e h s =
    best-shown-by gs (group_of n l) w o e s ∙ first_read (kept_of l) (window_to (group_part gs n)) l.horizon o a h s
    ∙ ap (read_none_of (window_to (group_part gs n))) (sym (load-best l s (not-away gs w.stands (group_of n l) w.given).searched))
