-- A display of four full lists, step by step.
use Rattle.std.specs.Array.{IsMapOf}
use Rattle.std.specs.Fn.{Called}
use denote.Param.Members.{Mut}
use mathlib.Core.Path.{◌≡◌, ap, sym, ◌∙◌}
use mathlib.Core.Bool.{true}
use mathlib.Core.List.{List, [], ◌∷◌}
use Prim.Native.Nat.{ℕ}
use native.Mathlib.Omega.{arith}
use lib.IntN.{pos}
use lib.ListN.{get_or}
use lib.Seq.{ext_get_or}
use Rattle.laws.specs.Tables.{table}
use Rattle.laws.proofs.Tables.{get_d-table, length-table}
use Rattle.profile.specs.declared.Journey.{Journey}
use Rattle.groups.specs.declared.Group.{Group}
use Rattle.display.specs.Parts.{Part, window_to}
use Rattle.display.specs.Display.{Display, display_of, part_of}
use Rattle.display_c.specs.Full.{list_due, full_group, four_full}

pub window-of : (k l m n : List ℕ) (a b c d : Group) (e : Display) (p : Part) (w : ℕ) → a ≡ full_group 0 k → b ≡ full_group 1 l
    → c ≡ full_group 2 m → d ≡ full_group 3 n
    → e ≡ display_of (a ∷ b ∷ c ∷ d ∷ []) → p ≡ part_of e 3 → w ≡ window_to p → w ≡ window_to (part_of (display_of (four_full k l m n)) 3)
window-of k l m n a b c d e p w ea eb ec ed q r s =
    s ∙ ap window_to (r ∙ ap (λ (x : Display). part_of x 3) (q ∙ (λ i. display_of (ea i ∷ eb i ∷ ec i ∷ ed i ∷ []))))

pub group-made : (n : ℕ) (arrivals : List ℕ) (js : List Journey) → js ≡ list_due arrivals
    → record { number = n; searched = true; now = pos 0; horizon = 21600; count = 64; journeys = js } ≡ full_group n arrivals
group-made n arrivals js e = λ i. record { number = n; searched = true; now = pos 0; horizon = 21600; count = 64; journeys = e i }

-- an array that a function gives of each element of another is a table
module _ {F A B : Type 0} (g : Mut F (A × Unit {0}) B) (h : A → B)
    (same : (p q : F) (x : A) (y : B) → Called g p (x, tt) y q → y ≡ h x) (d : A) (e : B) where
  pub mapped-table : (f : F) (xs : List A) (ys : List B) (n : ℕ) → IsMapOf g f xs ys n → ys ≡ table n (λ i. h (get_or xs i d))
  mapped-table f xs ys n m =
      ext_get_or e ys _ (m.long ∙ sym (length-table _ n))
      (λ k b. let c = m.at k d e (omega (arith, m.long)) in same c.0 c.1 _ _ c.2 ∙ sym (get_d-table _ e n k (omega (arith, m.long))))
