-- A text can be used as a name exactly if it has a key.
use Rattle.key.specs.declared.NameError.{NameError}
use Rattle.key.specs.declared.NameError.TheVariants.{Control, NoWord, NotLatin}
use Rattle.std.specs.Prelude.{Err, Ok, Result, is_err}
use mathlib.Core.Path.{◌≡◌, refl, sym, ap, ◌∙◌}
use mathlib.Core.Bool.{Bool, true, false, cond, not}
use mathlib.Core.Logic.{◌⊎◌, inl, inr}
use mathlib.Core.List.{List}
use Prim.Native.Nat.{ℕ}
use native.Mathlib.Omega.{arith}
use Rattle.key.specs.Hash.{key_of}
use Rattle.key.specs.Utf8.{utf8, points}
use Rattle.key.specs.Name.{normalized, name_key, usable, answer}
use Rattle.key.proofs.Names.{answered}
use Rattle.stops.specs.Answer.{unusable}

apart : (m n : ℕ) → ◌≡◌ {A = ℕ ⊎ ℕ} (inl m) (inr n) → ⊥
apart m n e = let z : ◌≡◌ {A = ℕ} 0 1 = cc in omega arith

-- by the answer of the name's key, which `key` proves
pub by_key : (s : List ℕ) (k : Result ℕ NameError) → name_key s ≡ k → unusable s ≡ is_err k
unfolding unusable name_key
by_key s k e = go (usable (points s)) k (ap answer (sym e) ∙ answered (points s))
  where
    go : (b : Bool) (k : Result ℕ NameError) → answer k ≡ cond b (inl (key_of (utf8 (normalized (points s))))) (inr 8) → not b ≡ is_err k
    go true (Ok h) q = refl
    go true (Err NoWord) q = absurd (apart _ _ (sym q))
    go true (Err Control) q = absurd (apart _ _ (sym q))
    go true (Err NotLatin) q = absurd (apart _ _ (sym q))
    go false (Ok h) q = absurd (apart _ _ q)
    go false (Err NoWord) q = refl
    go false (Err Control) q = refl
    go false (Err NotLatin) q = refl
