-- Two answers of best are alike exactly if they read as one, up to the earlier of two horizons.
use Rattle.std.specs.Prelude.{None, Option, Some}
use mathlib.Core.Path.{◌≡◌, refl, sym, ap, ◌∙◌}
use mathlib.Core.Logic.{inl, inr}
use mathlib.Core.Bool.{Bool, true, false, cond}
use Prim.Native.Nat.{ℕ, ◌≤◌, min}
use native.Mathlib.Omega.{arith}
use lib.Dec.{leb}
use lib.IntN.{ℤ, pos, negsuc}
use borrow.Author.Tests.{leb-true, leb-false, le-leb, lt-leb}
use Rattle.profile.specs.declared.Journey.{Journey}
use Rattle.profile.specs.declared.figures.Figures.{Figures}
use Rattle.profile.specs.Best.{read_by}
use Rattle.profile.specs.Journeys.{journey_figures}
use Rattle.offers.specs.Covered.{I64}
use Rattle.comparison.specs.Order.{Same}
use Rattle.comparison.specs.Demands.{Second, NoneBy, Alike, Earlier}

figures-same : (j j' : Journey) → Same j j' → journey_figures j ≡ journey_figures j'
figures-same j j' w = λ i. record { leave = w.leave i; arrival = w.arrival i; rides = w.rides i; walk = w.walk i }

same-figures : (j j' : Journey) → journey_figures j ≡ journey_figures j' → Same j j'
same-figures j j' e = record {
  leave = ap (λ (f : Figures). f.leave) e;
  arrival = ap (λ (f : Figures). f.arrival) e;
  rides = ap (λ (f : Figures). f.rides) e;
  walk = ap (λ (f : Figures). f.walk) e;
}

reads_none : (g : ℕ) (r : Option Journey) → NoneBy g r → read_by journey_figures g r ≡ None
reads_none g None w = refl
reads_none g (Some j) w = ap (λ (b : Bool). cond b (Some (journey_figures j)) None) (lt-leb j.arrival g w)

reads-some : (g : ℕ) (j : Journey) → j.arrival ≤ g → read_by journey_figures g (Some j) ≡ Some (journey_figures j)
reads-some g j l = ap (λ (b : Bool). cond b (Some (journey_figures j)) None) (le-leb j.arrival g l)

pub alike-reads : (g : ℕ) (r r' : Option Journey) → Alike g r r' → read_by journey_figures g r ≡ read_by journey_figures g r'
alike-reads g r r' (inl (a, b)) = reads_none g r a ∙ sym (reads_none g r' b)
alike-reads g r r' (inr w) =
    ap (read_by journey_figures g) w.is ∙ reads-some g w.j w.due ∙ ap {B = Option Figures} Some (figures-same w.j w.j' w.same)
    ∙ sym (reads-some g w.j' (omega (arith, w.due, w.same.arrival))) ∙ ap (read_by journey_figures g) (sym w.is')

none-some : (f : Figures) → None ≡ Some f → ⊥
none-some f e = cc

some_same : (f f' : Figures) → Some f ≡ Some f' → f ≡ f'
some_same f f' e = cc

pub reads-alike : (g : ℕ) (r r' : Option Journey) → read_by journey_figures g r ≡ read_by journey_figures g r' → Alike g r r'
reads-alike g None None e = inl (tt, tt)
reads-alike g None (Some j) e = go (leb j.arrival g) refl e
  where
    go : (b : Bool) → leb j.arrival g ≡ b → None ≡ cond b (Some (journey_figures j)) None → Alike g None (Some j)
    go true p q = absurd (none-some (journey_figures j) q)
    go false p q = inl (tt, leb-false j.arrival g p)
reads-alike g (Some j) None e = go (leb j.arrival g) refl e
  where
    go : (b : Bool) → leb j.arrival g ≡ b → cond b (Some (journey_figures j)) None ≡ None → Alike g (Some j) None
    go true p q = absurd (none-some (journey_figures j) (sym q))
    go false p q = inl (leb-false j.arrival g p, tt)
reads-alike g (Some j) (Some j') e = go (leb j.arrival g) refl (leb j'.arrival g) refl e
  where
    go : (b : Bool) → leb j.arrival g ≡ b → (b' : Bool) → leb j'.arrival g ≡ b'
        → cond b (Some (journey_figures j)) None ≡ cond b' (Some (journey_figures j')) None → Alike g (Some j) (Some j')
    go true p true p' q = inr (record {
      j = j;
      j' = j';
      is = refl;
      is' = refl;
      due = leb-true j.arrival g p;
      same = same-figures j j' (some_same (journey_figures j) (journey_figures j') q);
    })
    go true p false p' q = absurd (none-some (journey_figures j) (sym q))
    go false p true p' q = absurd (none-some (journey_figures j') q)
    go false p false p' q = inl (leb-false j.arrival g p, leb-false j'.arrival g p')

-- ---- seconds, and the earlier horizon

pub second-in : (z : ℤ) → Second z → I64 z
second-in (pos n) h = omega arith
second-in (negsuc n) h = omega arith

pub in-second : (z : ℤ) → I64 z → Second z
in-second (pos n) h = omega arith
in-second (negsuc n) h = omega arith

pub earlier-is : (g h h' : ℕ) → Earlier g h h' → g ≡ min h h'
earlier-is g h h' (a, b, inl e) = omega arith
earlier-is g h h' (a, b, inr e) = omega arith
