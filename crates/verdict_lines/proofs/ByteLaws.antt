-- The bytes of a connection's rides.
use mathlib.Core.Path.{◌≡◌, refl, ◌∙◌}
use mathlib.Core.List.{List, [], ◌∷◌}
use Prim.Native.Nat.{ℕ, ◌/◌, ◌<◌}
use native.Mathlib.Omega.{arith}
use lib.ListN.{get_or, take, drop, length}
use lib.Seq.{get_or-take, take_all}
use Rattle.std.proofs.lemmas.List.{drop-drop, length-drop}
use Rattle.std.specs.Simd.{first_chunks}
use Rattle.fields.specs.Numbers.{u16_at, u32_at}
use Rattle.connection.specs.declared.Leg.{Leg}
use Rattle.verdict_lines.specs.Bytes.{leg_of}

-- a ride is read from its first 11 bytes
leg-front : (b : List ℕ) → leg_of (take 11 b) ≡ leg_of b
unfolding leg_of u16_at u32_at
leg-front b = rw (
  e 0 (omega arith),
  e 1 (omega arith),
  e 2 (omega arith),
  e 3 (omega arith),
  e 4 (omega arith),
  e 5 (omega arith),
  e 6 (omega arith),
  e 7 (omega arith),
  e 8 (omega arith),
  e 9 (omega arith),
  e 10 (omega arith),
) refl
  where
    e : (i : ℕ) → i < 11 → get_or (take 11 b) i 0 ≡ get_or b i 0
    e i h = get_or-take 11 b i 0 h

-- the three rides behind the first three bytes
pub legs-read : (b : List ℕ) {cs : List (List ℕ)} {x y z : Leg} → length b ≡ 36
    → cs ≡ first_chunks 11 (length (take 33 (drop 3 b)) / 11) (take 33 (drop 3 b))
    → x ≡ leg_of (get_or cs 0 []) → y ≡ leg_of (get_or cs 1 []) → z ≡ leg_of (get_or cs 2 [])
    → x ∷ y ∷ z ∷ [] ≡ leg_of (drop 3 b) ∷ leg_of (drop 14 b) ∷ leg_of (drop 25 b) ∷ []
legs-read b {cs} {x} {y} {z} n e f g h =
    let whole : take 33 (drop 3 b) ≡ drop 3 b = take_all 33 (drop 3 b) (omega (arith, length-drop 3 b)) in
    let k : length (drop 3 b) / 11 ≡ 3 = omega (arith, length-drop 3 b) in
    let c : cs ≡ take 11 (drop 3 b) ∷ take 11 (drop 11 (drop 3 b)) ∷ take 11 (drop 11 (drop 11 (drop 3 b))) ∷ [] = e ∙ rw (whole, k) refl in
    let second : drop 11 (drop 3 b) ≡ drop 14 b = drop-drop 11 3 b in
    let third : drop 11 (drop 14 b) ≡ drop 25 b = drop-drop 11 14 b in
    let p : x ≡ leg_of (drop 3 b) = f ∙ rw c (leg-front (drop 3 b)) in
    let q : y ≡ leg_of (drop 14 b) = g ∙ rw (c, second) (leg-front (drop 14 b)) in
    let r : z ≡ leg_of (drop 25 b) = h ∙ rw (c, second, third) (leg-front (drop 25 b)) in
    λ t. p t ∷ q t ∷ r t ∷ []
