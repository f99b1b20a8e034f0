-- Permuted lists are as long.
use mathlib.Core.Path.{◌≡◌, refl, ap, ◌∙◌}
use mathlib.Core.List.{List, Permᴰ}
use Prim.Native.Nat.{suc}
use lib.ListN.{length}

pub perm-length : {A : Type 0} {xs ys : List A} → Permᴰ xs ys → length xs ≡ length ys
perm-length Permᴰ.nil = refl
perm-length (Permᴰ.cons e p) = ap suc (perm-length p)
perm-length (Permᴰ.swap d e) = refl
perm-length (Permᴰ.trans p q) = perm-length p ∙ perm-length q
