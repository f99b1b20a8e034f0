-- The best rules for each slot, read one by one.
use Rattle.std.specs.Prelude.{None, Option}
use Prim.Native.Nat.{ℕ, ◌+◌, ◌<◌}
use mathlib.Core.Path.{◌≡◌, refl, sym, ap, ◌∙◌}
use mathlib.Core.Bool.{Bool, true, false, cond}
use mathlib.Core.List.{List, [], ◌∷◌}
use native.Mathlib.Numerals.{add-one}
use native.Mathlib.Omega.{arith}
use lib.Dec.{eqb}
use borrow.Author.Tests.{eqb-true, eqb-false}
use lib.ListN.{length, get_or, take, set, length-set, replicate, get_or-replicate}
use lib.Seq.{take-suc, get_or-set_same, get_or-set_other, ext_get_or}
use Rattle.laws.specs.Lists.{foldl}
use Rattle.laws.specs.Tables.{table}
use Rattle.laws.proofs.Folds.{foldl-append}
use Rattle.laws.proofs.Tables.{get_d-table, length-table}
use Rattle.rules.specs.declared.Rule.{Rule}
use Rattle.transfer_row.specs.Slots.{slot_of, better_from, best_next, best_to}

module _ (from parent : ℕ) where
  -- the best of the rules of a list, for each slot
  pub record Slots (l : List Rule) (b : List (Option Rule)) : Type 0 where
    pub long : length b ≡ 129
    pub best_of : (s : ℕ) → s < 129 → get_or b s None ≡ best_to l from parent s

  pub slots-none : (b : List (Option Rule)) → b ≡ replicate 129 None → Slots [] b
  unfolding best_to
  slots-none b e = record {
    long = ap length e;
    best_of = λ s h. ap (λ (x : List (Option Rule)). get_or x s None) e ∙ get_or-replicate 129 s None None h;
  }

  pub slots-more : (l : List Rule) (i : ℕ) (d : Rule) (b : List (Option Rule)) {c : List (Option Rule)} → i < length l → Slots (take i l) b
      → (let r = get_or l i d in
      c ≡ set b (slot_of r.to) (better_from from parent (get_or b (slot_of r.to) None) r)) → Slots (take (i + 1) l) c
  unfolding best_to
  slots-more l i d b {c} h w ec =
      record {
        long = ap length ec ∙ length-set b k o ∙ w.long;
        best_of = λ s u. ap (λ (x : List (Option Rule)). get_or x s None) ec ∙ go s u (eqb k s) refl ∙ more s;
      }
    where
      r : Rule
      r = get_or l i d

      k : ℕ
      k = slot_of r.to

      o : Option Rule
      o = better_from from parent (get_or b k None) r

      go : (s : ℕ) → s < 129 → (t : Bool) → eqb k s ≡ t
          → get_or (set b k o) s None
          ≡ cond t (better_from from parent (best_to (take i l) from parent s) r) (best_to (take i l) from parent s)
      go s u true q =
          let same = eqb-true k s q in
          ap (λ (x : ℕ). get_or (set b k o) x None) (sym same) ∙ get_or-set_same b k o None (omega (arith, w.long, same))
          ∙ ap (λ (x : ℕ). better_from from parent (get_or b x None) r) same
          ∙ ap (λ (x : Option Rule). better_from from parent x r) (w.best_of s u)
      go s u false q = get_or-set_other b k s o None (λ z. eqb-false k s q (sym z)) ∙ w.best_of s u

      more : (s : ℕ) → cond (eqb k s) (better_from from parent (best_to (take i l) from parent s) r) (best_to (take i l) from parent s)
          ≡ best_to (take (i + 1) l) from parent s
      more s =
          sym (foldl-append (best_next from parent s) None (take i l) (r ∷ []))
          ∙ ap (λ (m : List Rule). foldl (best_next from parent s) None m) (sym (ap (λ (n : ℕ). take n l) (add-one i) ∙ take-suc l i d h))

  pub slots-all : (l : List Rule) (b : List (Option Rule)) → Slots l b → b ≡ table 129 (best_to l from parent)
  slots-all l b w =
      ext_get_or None b (table 129 (best_to l from parent)) (w.long ∙ sym (length-table (best_to l from parent) 129))
      (λ k h. w.best_of k (omega (arith, w.long)) ∙ sym (get_d-table (best_to l from parent) None 129 k (omega (arith, w.long))))
