-- Values of an `Option` tell which they are.
use Rattle.std.specs.Prelude.{◌≡◌, Some, None, unwrap_or, is_none}
use mathlib.Core.Path.{ap, sym}
use mathlib.Core.Bool.{true≢false}

pub some-injective : {A : Type 0} (x y : A) → Some x ≡ Some y → x ≡ y
some-injective x y e = ap (λ o. unwrap_or o x) e

pub none-ne-some : {A : Type 0} (x : A) → None ≡ Some x → ⊥
none-ne-some x e = true≢false (ap is_none e)

pub some-ne-none : {A : Type 0} (x : A) → Some x ≡ None → ⊥
some-ne-none x e = none-ne-some x (sym e)
