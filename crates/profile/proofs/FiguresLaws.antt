-- `covers` is reflexive and transitive, `prefer` a total order, and the one follows from the other where the leave allows.
use mathlib.Core.Path.{◌≡◌, refl}
use mathlib.Core.Bool.{Bool, true, false}
use Prim.Native.Nat.{ℕ, ◌≤◌}
use native.Mathlib.Omega.{arith}
use lib.Dec.{leb}
use borrow.Author.Tests.{leb-true, leb-false, le-leb}
pub use Rattle.laws.proofs.Lex.{
  lexb-lt,
  lexb-eq,
  lexb-same,
  lexb-gt,
  lexb-true,
  lexb-false,
  lexb-map,
  lexb-trans,
  lexb-total,
  lexb-antisym,
  lexb-le,
}
use Rattle.laws.proofs.Bools.{and-true, and-true-left, and-true-right}
use Rattle.profile.specs.Figures.{Figures, lexb, lexle, covers, prefer, covᶠ, dueᶠ}
use Rattle.profile.specs.Front.{Order}

leb-refl : (x : ℕ) → leb x x ≡ true
leb-refl x = le-leb x x (omega arith)

leb-trans : (x y z : ℕ) → leb x y ≡ true → leb y z ≡ true → leb x z ≡ true
leb-trans x y z h k = le-leb x z (omega (arith, leb-true))

-- ---- `covers` is reflexive and transitive, and what covers arrives no later

pub lexle-refl : (a : Figures) → lexle a a ≡ true
lexle-refl a = lexb-eq a.arrival a.arrival _ refl (lexb-eq a.rides a.rides _ refl (leb-refl a.walk))

pub lexle-trans : (a b c : Figures) → lexle a b ≡ true → lexle b c ≡ true → lexle a c ≡ true
lexle-trans a b c h k = lexb-trans a.arrival b.arrival c.arrival _ _ _ h k
    (λ h' k'. lexb-trans a.rides b.rides c.rides _ _ _ h' k' (λ h'' k''. leb-trans a.walk b.walk c.walk h'' k''))

pub covers-refl : (a : Figures) → covers a a ≡ true
covers-refl a = and-true _ _ (leb-refl a.leave) (lexle-refl a)

pub covers-leave : (a b : Figures) → covers a b ≡ true → b.leave ≤ a.leave
covers-leave a b h = leb-true b.leave a.leave (and-true-left _ _ h)

pub covers-lexle : (a b : Figures) → covers a b ≡ true → lexle a b ≡ true
covers-lexle a b h = and-true-right (leb b.leave a.leave) _ h

pub covers-trans : (a b c : Figures) → covers a b ≡ true → covers b c ≡ true → covers a c ≡ true
covers-trans a b c h k =
    and-true _ _ (le-leb c.leave a.leave (omega (arith, covers-leave a b h, covers-leave b c k)))
    (lexle-trans a b c (covers-lexle a b h) (covers-lexle b c k))

pub covers-arrival : (a b : Figures) → covers a b ≡ true → a.arrival ≤ b.arrival
covers-arrival a b h = lexb-le a.arrival b.arrival _ (covers-lexle a b h)

-- ---- `prefer` is a total order

pub prefer-refl : (a : Figures) → prefer a a ≡ true
prefer-refl a = lexb-eq a.arrival a.arrival _ refl (lexb-eq a.rides a.rides _ refl (lexb-eq a.walk a.walk _ refl (leb-refl a.leave)))

pub prefer-trans : (a b c : Figures) → prefer a b ≡ true → prefer b c ≡ true → prefer a c ≡ true
prefer-trans a b c h k = lexb-trans a.arrival b.arrival c.arrival _ _ _ h k
    (λ h' k'. lexb-trans a.rides b.rides c.rides _ _ _ h' k'
    (λ h'' k''. lexb-trans a.walk b.walk c.walk _ _ _ h'' k'' (λ h''' k'''. leb-trans c.leave b.leave a.leave k''' h''')))

pub prefer-total : (a b : Figures) → prefer a b ≡ false → prefer b a ≡ true
prefer-total a b h = lexb-total a.arrival b.arrival _ _ h
    (λ h'. lexb-total a.rides b.rides _ _ h'
    (λ h''. lexb-total a.walk b.walk _ _ h'' (λ h'''. le-leb a.leave b.leave (omega (arith, leb-false b.leave a.leave h''')))))

pub prefer-antisym : (a b : Figures) → prefer a b ≡ true → prefer b a ≡ true → a ≡ b
prefer-antisym a b h k =
    let (p, h', k') = lexb-antisym a.arrival b.arrival _ _ h k in
    let (q, h'', k'') = lexb-antisym a.rides b.rides _ _ h' k' in
    let (r, h''', k''') = lexb-antisym a.walk b.walk _ _ h'' k'' in
    let s : a.leave ≡ b.leave = omega (arith, leb-true b.leave a.leave h''', leb-true a.leave b.leave k''') in
    λ i. record { leave = s i; arrival = p i; rides = q i; walk = r i }

pub prefer-arrival : (a b : Figures) → prefer a b ≡ true → a.arrival ≤ b.arrival
prefer-arrival a b h = lexb-le a.arrival b.arrival _ h

-- ---- the two together

pub covers-prefer : (a b : Figures) → covers a b ≡ true → prefer a b ≡ true
covers-prefer a b h = lexb-map a.arrival b.arrival _ _ (covers-lexle a b h)
    (λ h'. lexb-map a.rides b.rides _ _ h' (λ h''. last (leb b.walk a.walk) refl (leb-true a.walk b.walk h'')))
  where
    last : (t : Bool) → leb b.walk a.walk ≡ t → a.walk ≤ b.walk → lexb a.walk b.walk (leb b.leave a.leave) ≡ true
    last true e le = lexb-eq a.walk b.walk _ (omega (arith, leb-true b.walk a.walk e)) (le-leb b.leave a.leave (covers-leave a b h))
    last false e le = lexb-lt a.walk b.walk _ (leb-false b.walk a.walk e)

pub prefer-covers : (a b : Figures) → prefer a b ≡ true → b.leave ≤ a.leave → covers a b ≡ true
prefer-covers a b h le = and-true _ _ (le-leb b.leave a.leave le)
    (lexb-map a.arrival b.arrival _ _ h (λ h'. lexb-map a.rides b.rides _ _ h' (λ h''. le-leb a.walk b.walk (lexb-le a.walk b.walk _ h''))))

-- anything that has the four figures is so ordered
pub figures-order : {A : Type 0} (fig : A → Figures) → Order (covᶠ fig) (dueᶠ fig)
figures-order fig = record {
  cov_refl = λ x. covers-refl (fig x);
  cov_trans = λ x y z. covers-trans (fig x) (fig y) (fig z);
  cov_due = λ x y. covers-arrival (fig x) (fig y);
}
