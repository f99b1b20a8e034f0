-- The record at the start of the bytes, if it is there whole: what `get` gives, and what its place tells.
use Rattle.std.specs.Prelude.{None, Option, Some, option_copied}
use Rattle.std.specs.Slice.{IsGetRangeResult}
use denote.Ref.{Bor}
use mathlib.Core.Path.{◌≡◌, refl, sym, ap, ◌∙◌}
use mathlib.Core.Bool.{Bool, true, false, cond}
use mathlib.Core.Logic.{◌⊎◌, inl, inr}
use mathlib.Core.List.{List}
use Prim.Native.Nat.{ℕ, ◌+◌, ◌-◌, ◌≤◌, ◌<◌}
use native.Mathlib.Omega.{arith}
use borrow.Author.Tests.{le-leb, lt-leb}
use lib.ListN.{length, take, drop, length-drop}
use lib.Seq.{length-take-le}
use Rattle.laws.proofs.Bools.{cond-by, cond-not}
use Rattle.fields.specs.Numbers.{u16_at}
use Rattle.file.specs.File.{starts_whole, size_of, body_of, whole_of}
use Rattle.file.proofs.FedLaws.{whole_room}

pub whole-got : (xs : List ℕ) {n : ℕ} (r : Option (Bor (List ℕ))) → n ≡ u16_at xs 0 → IsGetRangeResult xs 2 (2 + n) r
    → option_copied r ≡ whole_of xs
unfolding starts_whole
whole-got xs {n = n} (Some x) n-is h =
    let room : 2 + n ≤ length xs = h.0.1 in
    let k : 2 + u16_at xs 0 ≤ length xs = omega (arith, n-is, room) in
    let size : 2 + n - 2 ≡ u16_at xs 0 = omega (arith, n-is) in
    ap Some (h.0.2 ∙ ap (λ (m : ℕ). take m (drop 2 xs)) size) ∙ sym (cond-by _ _ (le-leb _ _ k))
whole-got xs {n = n} None n-is h = go h.0
  where
    go : (2 + n < 2) ⊎ (length xs < 2 + n) → None ≡ whole_of xs
    go (inl e) = absurd (omega (arith, e))
    go (inr e) = let k : length xs < 2 + u16_at xs 0 = omega (arith, n-is, e) in sym (cond-not _ _ (lt-leb _ _ k))

-- a record that is there whole
pub record Whole (xs b : List ℕ) : Type 0 where
  pub starts : starts_whole xs ≡ true
  pub is : b ≡ body_of xs
  pub size : 2 + length b ≡ size_of xs

pub whole-tells : (xs : List ℕ) {b : List ℕ} → Some b ≡ whole_of xs → Whole xs b
whole-tells xs {b} h = go (starts_whole xs) refl h
  where
    go : (w : Bool) → starts_whole xs ≡ w → Some b ≡ cond w (Some (body_of xs)) None → Whole xs b
    go false w e = let z : ⊥ = cc in absurd z
    go true w e =
        let q : b ≡ body_of xs = cc in
        let room = whole_room xs w in
        let n : length (body_of xs) ≡ u16_at xs 0 = length-take-le (u16_at xs 0) (drop 2 xs) (omega (arith, room, length-drop 2 xs)) in
        record { starts = w; is = q; size = ap (λ (ys : List ℕ). 2 + length ys) q ∙ ap (λ (k : ℕ). 2 + k) n }

pub none-tells : (xs : List ℕ) → None ≡ whole_of xs → starts_whole xs ≡ false
none-tells xs h = go (starts_whole xs) h
  where
    go : (w : Bool) → None ≡ cond w (Some (body_of xs)) None → w ≡ false
    go false e = refl
    go true e = let z : ⊥ = cc in absurd z
