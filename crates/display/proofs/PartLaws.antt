-- The functions of a part, one by one: how long a list is, its window, what is due by it.
use Rattle.std.specs.Prelude.{Ok, Err, Result}
use Rattle.std.specs.List.{filter}
use mathlib.Core.Path.{◌≡◌, refl, sym, ap, ◌∙◌}
use mathlib.Core.Bool.{true, false}
use mathlib.Core.List.{List, [], ◌∷◌}
use Prim.Native.Nat.{ℕ, ◌-◌, ◌≤◌, ◌<◌}
use lib.ListN.{length, get_or, drop_of_length-le}
use lib.Seq.{drop-cons}
use Rattle.laws.proofs.Bools.{cond-by, cond-not}
use Rattle.refusal.specs.declared.Refusal.{Refusal}
use Rattle.refusal.specs.declared.Refusal.TheVariants.{NoRoom}
use Rattle.profile.specs.declared.Journey.{Journey}
use Rattle.groups.specs.declared.Group.{Group}
use Rattle.groups.specs.Groups.{list_of}
use Rattle.display.specs.declared.part.Shown.{Shown}
use Rattle.display.specs.Parts.{window_before, window_of, falls_below, is_due, shown_by, shown_part, part_for}

-- ---- the window

pub window-cut : (ks : List Journey) (share h : ℕ) (d : Journey) → share < length ks
    → (get_or ks share d).arrival - 1 ≡ window_of ks share h
unfolding window_before window_of
window-cut ks share h d l = rw (drop-cons ks share d l)

pub window-all : (ks : List Journey) (share h : ℕ) → length ks ≤ share → h ≡ window_of ks share h
unfolding window_before window_of
window-all ks share h l = rw (drop_of_length-le ks l)

-- ---- those due by the window

pub due-same : (w : ℕ) (ks : List Journey) → filter (is_due w) ks ≡ shown_by w ks
due-same w [] = refl
due-same w (k ∷ ks) = rw (due-same w ks)

-- ---- the part

module _ (g : Group) (share : ℕ) {ks : List Journey} (is : ks ≡ list_of g) where
  whole : shown_part ks share g.horizon ≡ part_for g share
  whole = ap (λ (l : List Journey). shown_part l share g.horizon) is

  pub part-refused : (w : ℕ) → w ≡ window_of ks share g.horizon → falls_below (length ks) share w ≡ true → Err NoRoom ≡ part_for g share
  unfolding shown_part
  part-refused w f t = sym (cond-by _ _ (ap (falls_below (length ks) share) (sym f) ∙ t)) ∙ whole

  pub part-shown : (w c : ℕ) → w ≡ window_of ks share g.horizon → falls_below (length ks) share w ≡ false → c ≡ length (shown_by w ks)
      → Ok (record { window = w; count = c }) ≡ part_for g share
  unfolding shown_part
  part-shown w c f t q =
      ap {B = Result Shown Refusal} Ok (λ i. record { window = f i; count = (q ∙ ap (λ (x : ℕ). length (shown_by x ks)) f) i })
      ∙ sym (cond-not _ _ (ap (falls_below (length ks) share) (sym f) ∙ t)) ∙ whole
