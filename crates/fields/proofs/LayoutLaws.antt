-- Where the texts of a stop's record stand: each from its first byte up to where the next field begins.
use Rattle.std.specs.Prelude.{None, Some}
use mathlib.Core.Path.{◌≡◌, refl, ap, ◌∙◌}
use mathlib.Core.Bool.{Bool, true, false, cond}
use mathlib.Core.List.{List}
use Prim.Native.Nat.{ℕ, ◌+◌, ◌-◌}
use native.Mathlib.Omega.{arith}
use lib.ListN.{take, drop}
use Rattle.fields.specs.Numbers.{byte_at}
use Rattle.fields.specs.Layout.{text_at, has_at, option_text_end, option_text_at, name_at}

-- ---- a text

pub text-is : (b : List ℕ) → take (name_at b - 2) (drop 2 b) ≡ text_at b 1
text-is b = ap (λ (n : ℕ). take n (drop 2 b)) (size (byte_at b 1))
  where
    size : (x : ℕ) → 1 + 1 + x - 2 ≡ x
    size x = omega arith

-- ---- an optional text

-- after its byte and its length
pub option-text-is : (b : List ℕ) (at : ℕ) {here : Bool} {text : List ℕ} → here ≡ has_at b at
    → text ≡ take (option_text_end b at - (at + 2)) (drop (at + 2) b)
    → cond here (Some text) None ≡ option_text_at b at
unfolding option_text_end option_text_at
option-text-is b at {text = text} here-is text-is = ap (λ (t : Bool). cond t (Some text) None) here-is ∙ go (has_at b at) text-is
  where
    size : (k x : ℕ) → k + 1 + 1 + x - (k + 2) ≡ x
    size k x = omega arith

    two : (k : ℕ) → k + 2 ≡ k + 1 + 1
    two k = omega arith

    go : (t : Bool) → text ≡ take (cond t (at + 1 + 1 + byte_at b (at + 1)) (at + 1) - (at + 2)) (drop (at + 2) b)
        → cond t (Some text) None ≡ cond t (Some (text_at b (at + 1))) None
    go true e = ap Some (e ∙ (λ i. take (size at (byte_at b (at + 1)) i) (drop (two at i) b)))
    go false e = refl
