-- An optional text of a stop's record, from its first byte up to the next field.
use Rattle.std.specs.Prelude.{None, Option, Some, option_copied}
use Rattle.std.specs.Bool.{then_some}
use denote.Ref.{Bor}
use mathlib.Core.Path.{◌≡◌, refl, ap, ◌∙◌}
use mathlib.Core.Bool.{Bool, true, false, cond}
use mathlib.Core.List.{List}
use Prim.Native.Nat.{ℕ, ◌+◌, ◌-◌}
use lib.ListN.{take, drop}
use Rattle.fields.specs.Layout.{has_at, option_text_end, option_text_at}
use Rattle.fields.proofs.LayoutLaws.{option-text-is}

pub text-given : (b : List ℕ) (at : ℕ) {end : ℕ} {here : Bool} (text : Bor (List ℕ)) {r : Option (Bor (List ℕ))}
    → end ≡ option_text_end b at → here ≡ has_at b at → text.now ≡ take (end - (at + 2)) (drop (at + 2) b) → r ≡ then_some here text
    → option_copied r ≡ option_text_at b at
text-given b at {here = here} text end_is here-is text-is r-is =
    ap option_copied r-is ∙ copied here ∙ option-text-is b at here-is
    (text-is ∙ ap (λ (n : ℕ). take (n - (at + 2)) (drop (at + 2) b)) end_is)
  where
    copied : (h : Bool) → option_copied (then_some h text) ≡ cond h (Some text.now) None
    copied true = refl
    copied false = refl
