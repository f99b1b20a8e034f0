-- The library's bytes of a number are ours.
use mathlib.Core.Path.{◌≡◌, refl}
use mathlib.Core.List.{[], ◌∷◌}
use Prim.Native.Nat.{ℕ, ◌/◌, ◌%◌, ◌<◌}
use native.Mathlib.Omega.{arith}
use mir.Syntax.{w16, w32, w64}
use Rattle.std.specs.Int.{to_be_bytes}
use Rattle.buffer.specs.Bytes.{two_bytes, four_bytes, eight_bytes}

pub two_are : (n : ℕ) → n < 65536 → to_be_bytes w16 n ≡ two_bytes n
unfolding two_bytes
two_are n h =
    let e : n / 256 % 256 ≡ n / 256 = omega arith in
    λ t. e t ∷ n % 256 ∷ []

pub four_are : (n : ℕ) → n < 4294967296 → to_be_bytes w32 n ≡ four_bytes n
unfolding four_bytes two_bytes
four_are n h =
    let a : n / 16777216 % 256 ≡ n / 65536 / 256 = omega arith in
    let b : n / 65536 % 256 ≡ n / 65536 % 256 = refl in
    let c : n / 256 % 256 ≡ n % 65536 / 256 = omega arith in
    let d : n % 256 ≡ n % 65536 % 256 = omega arith in
    λ t. a t ∷ b t ∷ c t ∷ d t ∷ []

pub eight_are : (n : ℕ) → n < 18446744073709551616 → to_be_bytes w64 n ≡ eight_bytes n
unfolding eight_bytes four_bytes two_bytes
eight_are n h =
    let a : n / 72057594037927936 % 256 ≡ n / 4294967296 / 65536 / 256 = omega arith in
    let b : n / 281474976710656 % 256 ≡ n / 4294967296 / 65536 % 256 = omega arith in
    let c : n / 1099511627776 % 256 ≡ n / 4294967296 % 65536 / 256 = omega arith in
    let d : n / 4294967296 % 256 ≡ n / 4294967296 % 65536 % 256 = omega arith in
    let e : n / 16777216 % 256 ≡ n % 4294967296 / 65536 / 256 = omega arith in
    let f : n / 65536 % 256 ≡ n % 4294967296 / 65536 % 256 = omega arith in
    let g : n / 256 % 256 ≡ n % 4294967296 % 65536 / 256 = omega arith in
    let i : n % 256 ≡ n % 4294967296 % 65536 % 256 = omega arith in
    λ t. a t ∷ b t ∷ c t ∷ d t ∷ e t ∷ f t ∷ g t ∷ i t ∷ []
