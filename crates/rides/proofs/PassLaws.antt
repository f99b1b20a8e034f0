-- The passes of a search: their offers are the rows by depth.
use mathlib.Core.Path.{◌≡◌, sym, ap, ◌∙◌}
use mathlib.Core.List.{List, ◌++◌}
use Prim.Native.Nat.{ℕ, ◌≤◌, ◌<◌, min}
use native.Mathlib.Omega.{arith}
use borrow.Author.Tests.{ne_eqb}
use Rattle.search_state.specs.View.{view}
use Rattle.rides.specs.Rows.{rows}
use Rattle.rides.specs.Loops.{pass_rows}
use Rattle.rides.specs.Sheets.{joins_of, sheet_of}
use Rattle.rides.specs.Offered.{offer_all, Offered}
use Rattle.rides.specs.Routes.{three_rows, rows_of}
use Rattle.rides.proofs.RestLaws.{both}
use Rattle.rides.proofs.RowLaws.{rows-of-loops}
use Rattle.rides.proofs.RouteLaws.{threes-by-loops, rows-up-to-one, rows-three-last}

-- by depth
module _ {l l' : List ℕ} (f g : List ℕ) (n depth : ℕ) {c d : ℕ} (ec : c ≡ min n 512) (ed : d ≡ min depth 1)
    (w : Offered l l' (pass_rows (sheet_of f) (joins_of f g) d c)) where
  first-pass : pass_rows (sheet_of f) (joins_of f g) d c ≡ rows (sheet_of f) (joins_of f g) (min depth 1) (min n 512)
  first-pass = rw (ec, ed) (sym (rows-of-loops f g n (min depth 1) (ne_eqb (min depth 1) 2 (λ e. omega arith))))

  pub pass_alone : depth < 2 → view l' ≡ offer_all (view l) (rows_of f g n depth)
  unfolding rows_of offer_all
  pass_alone h =
      let e : min depth 1 ≡ depth = omega arith in
      w.is ∙ ap (offer_all (view l))
      (first-pass ∙ ap (λ (k : ℕ). rows (sheet_of f) (joins_of f g) k (min n 512)) e
      ∙ sym (rows-up-to-one (sheet_of f) (joins_of f g) depth (min n 512) (omega arith)))

  pub pass-then : {l'' : List ℕ} → 2 ≤ depth → Offered l' l'' (pass_rows (sheet_of f) (joins_of f g) 2 c)
      → view l'' ≡ offer_all (view l) (rows_of f g n depth)
  unfolding rows_of offer_all
  pass-then h v =
      let e : min depth 1 ≡ 1 = omega arith in
      let one : pass_rows (sheet_of f) (joins_of f g) d c ≡ rows (sheet_of f) (joins_of f g) 1 (min n 512) =
      first-pass ∙ ap (λ (k : ℕ). rows (sheet_of f) (joins_of f g) k (min n 512)) e in
      let two : pass_rows (sheet_of f) (joins_of f g) 2 c ≡ three_rows (sheet_of f) (joins_of f g) (min n 512) =
      rw ec (sym (threes-by-loops (sheet_of f) (joins_of f g) (min n 512))) in
      (both w v).is
      ∙ ap (offer_all (view l)) ((λ i. one i ++ two i) ∙ sym (rows-three-last (sheet_of f) (joins_of f g) depth (min n 512) h))
