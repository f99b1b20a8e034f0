-- The place of the first service of which a test holds.
use Prim.Native.Nat.{ℕ, suc, ◌+◌, ◌<◌}
use mathlib.Core.Path.{◌≡◌, refl, sym, ap, ◌∙◌}
use mathlib.Core.List.{List, [], ◌∷◌}
use mathlib.Core.Bool.{Bool, true, false, cond, ◌||◌}
use Rattle.std.specs.Option.{is_some, unwrap_or}
use Rattle.std.specs.Prelude.{None, Option, Some}
use Rattle.std.specs.List.{find, position_from}
use native.Mathlib.Omega.{arith}
use lib.ListN.{length, get_or}
use Rattle.laws.specs.Lists.{anyb}
use Rattle.services.specs.declared.Service.{Service}
use Rattle.week.specs.Weeks.{place_of}

module _ (p : Service → Bool) where
  pub place_found : (l : List Service) → anyb p l ≡ true → place_of p l < length l
  place_found [] e = let z : ◌≡◌ {A = ℕ} 0 1 = cc in absurd (omega arith)
  place_found (s ∷ ss) e = go (p s) (place_found ss) e
    where
      go : (b : Bool) → (anyb p ss ≡ true → place_of p ss < length ss) → (b || anyb p ss) ≡ true
          → cond b 0 (suc (place_of p ss)) < suc (length ss)
      go true r e = omega arith
      go false r e = omega (arith, r e)

  pub place_none : (l : List Service) → anyb p l ≡ false → place_of p l ≡ length l
  place_none [] e = refl
  place_none (s ∷ ss) e = go (p s) (place_none ss) e
    where
      go : (b : Bool) → (anyb p ss ≡ false → place_of p ss ≡ length ss) → (b || anyb p ss) ≡ false
          → cond b 0 (suc (place_of p ss)) ≡ suc (length ss)
      go true r e = let z : ◌≡◌ {A = ℕ} 0 1 = cc in absurd (omega arith)
      go false r e = ap suc (r e)

  -- the place that `position` finds, counted from k
  place-from : (l : List Service) (k : ℕ) → position_from p k l ≡ cond (anyb p l) (Some (k + place_of p l)) None
  place-from [] k = refl
  place-from (s ∷ ss) k = go (p s) (place-from ss (k + 1))
    where
      go : (b : Bool) → position_from p (k + 1) ss ≡ cond (anyb p ss) (Some (k + 1 + place_of p ss)) None
          → cond b (Some k) (position_from p (k + 1) ss) ≡ cond (b || anyb p ss) (Some (k + cond b 0 (suc (place_of p ss)))) None
      go true e = let z : k ≡ k + 0 = omega arith in ap Some z
      go false e =
          let z : k + 1 + place_of p ss ≡ k + suc (place_of p ss) = omega arith in
          e ∙ ap (λ (n : ℕ). cond (anyb p ss) (Some n) None) z

  module _ (l : List Service) where
    place-is : position_from p 0 l ≡ cond (anyb p l) (Some (place_of p l)) None
    place-is =
        let z : 0 + place_of p l ≡ place_of p l = omega arith in
        place-from l 0 ∙ ap (λ (n : ℕ). cond (anyb p l) (Some n) None) z

    -- how many there are, where none is found
    pub place-or : unwrap_or (position_from p 0 l) (length l) ≡ place_of p l
    place-or = ap (λ (o : Option ℕ). unwrap_or o (length l)) place-is ∙ go (anyb p l) refl
      where
        go : (b : Bool) → anyb p l ≡ b → unwrap_or (cond b (Some (place_of p l)) None) (length l) ≡ place_of p l
        go true e = refl
        go false e = sym (place_none l e)

    pub is-known : is_some (position_from p 0 l) ≡ anyb p l
    is-known = ap is_some place-is ∙ go (anyb p l)
      where
        go : (b : Bool) → is_some (cond b (Some (place_of p l)) None) ≡ b
        go true = refl
        go false = refl

    pub found-at : (n : ℕ) → position_from p 0 l ≡ Some n → (anyb p l ≡ true) × (n ≡ place_of p l)
    found-at n e = (sym is-known ∙ ap is_some e, sym (ap (λ (o : Option ℕ). unwrap_or o (length l)) e) ∙ place-or)

  -- the service there
  pub find-is : (d : Service) (l : List Service) → find p l ≡ cond (anyb p l) (Some (get_or l (place_of p l) d)) None
  find-is d [] = refl
  find-is d (s ∷ ss) = go (p s) (find-is d ss)
    where
      go : (b : Bool) → find p ss ≡ cond (anyb p ss) (Some (get_or ss (place_of p ss) d)) None
          → cond b (Some s) (find p ss) ≡ cond (b || anyb p ss) (Some (get_or (s ∷ ss) (cond b 0 (suc (place_of p ss))) d)) None
      go true e = refl
      go false e = e
