-- A row filled place by place; one of 128 places.
use mathlib.Core.Path.{◌≡◌, sym, ap, ◌∙◌, subst}
use mathlib.Core.List.{List}
use Prim.Native.Nat.{ℕ, ◌+◌, ◌<◌, min}
use native.Mathlib.Omega.{arith}
use lib.ListN.{length, get_or, set}
use lib.Seq.{ext_get_or}
use Rattle.laws.specs.Regions.{Region}
use Rattle.laws.specs.Tables.{table}
use Rattle.laws.proofs.Regions.{region-more}
use Rattle.laws.proofs.Tables.{length-table, get_d-table}

pub row-more : (f : ℕ → ℕ) (first l : List ℕ) (i x : ℕ) → Region f 0 i first l → i < length first → x ≡ f i
    → Region f 0 (i + 1) first (set l i x)
row-more f first l i x r h e =
    let z : 0 + i ≡ i = omega arith in
    subst (λ (j : ℕ). Region f 0 (i + 1) first (set l j x)) z (region-more f 0 first l i x r (omega arith) e)

pub row-whole : (f : ℕ → ℕ) (first last : List ℕ) → length first ≡ 128 → Region f 0 (min (length first) 128) first last
    → last ≡ table 128 f
row-whole f first last e r =
    ext_get_or 0 last (table 128 f) (r.long ∙ e ∙ sym (length-table f 128)) (λ k h. here k (omega (arith, r.long, e)))
  where
    here : (k : ℕ) → k < 128 → get_or last k 0 ≡ get_or (table 128 f) k 0
    here k h =
        let z : k ≡ 0 + k = omega arith in
        ap (λ (j : ℕ). get_or last j 0) z ∙ r.here k (omega (arith, e)) ∙ sym (get_d-table f 0 128 k h)
