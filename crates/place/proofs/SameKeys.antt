-- Which keys are one place: each with itself, none of different tags or hashes, and on one meridian those at most 1124 microdegrees apart.
use Rattle.std.proofs.Common.{◌≡◌, ℕ, ◌+◌, ◌^◌, ◌≤◌, Bool, true, false, cond, ◌&&◌, eqb, leb, ℤ, ◌+ℤ◌, ◌-ℤ◌, neg_ℤ, nat_abs, sym, refl, ap}
use Rattle.std.proofs.Common.{◌∙◌, subst, le_trans, le_of_eq, arith, lit≤, eq-eqb, ne_eqb}
use lib.IntN.{+ℤ_invr}
use Rattle.laws.proofs.Ints.{nat_abs-+ℤ, nat_abs-negℤ}
use Rattle.place.specs.declared.PlaceKey.{PlaceKey}
use Rattle.place.specs.Keys.{tag_n}
use Rattle.place.specs.Near.{same_keys, close_by}
use Rattle.place.specs.Promises.{Reflexive, SameMeridian, TagsApart, HashesApart, SameHash}
use Rattle.place.proofs.Meridian.{close-meridian}

-- by what the tests of the tags, of the hashes and of the tag with N say
pub by_tests : (a b : PlaceKey) (t h n : Bool) → eqb a.tag b.tag ≡ t → eqb a.hash b.hash ≡ h → eqb a.tag tag_n ≡ n
    → same_keys a b ≡ cond (t && h) (cond n (close_by a.lat a.lon b.lat b.lon) true) false
unfolding same_keys
by_tests a b t h n p q r = λ i. cond (p i && q i) (cond (r i) (close_by a.lat a.lon b.lat b.lon) true) false

pub tags-apart : TagsApart
tags-apart a b n = by_tests a b false (eqb a.hash b.hash) (eqb a.tag tag_n) (ne_eqb a.tag b.tag n) refl refl

pub hashes-apart : HashesApart
hashes-apart a b n = by_tests a b (eqb a.tag b.tag) false (eqb a.tag tag_n) refl (ne_eqb a.hash b.hash n) refl ∙ none (eqb a.tag b.tag) _
  where
    none : (t x : Bool) → cond (t && false) x false ≡ false
    none true x = refl
    none false x = refl

pub same-hash : SameHash
same-hash a b t n h = by_tests a b true true false (eq-eqb _ _ t) (eq-eqb _ _ h) (ne_eqb _ _ n)

both-in : (n a b : ℕ) → n ≤ a + b → a ≤ 2 ^ 31 → b ≤ 2 ^ 31 → n ≤ 2 ^ 32
both-in n a b h p q = omega arith

pub same-meridian : SameMeridian
same-meridian a b p q ta tb h l =
    by_tests a b true true true (eq-eqb _ _ (ta ∙ sym tb)) (eq-eqb _ _ h) (eq-eqb _ _ ta)
    ∙ ap (λ (x : ℤ). close_by a.lat x b.lat b.lon) l
    ∙ close-meridian a.lat b.lat b.lon
    (both-in (nat_abs (a.lat +ℤ b.lat)) (nat_abs a.lat) (nat_abs b.lat) (nat_abs-+ℤ a.lat b.lat) p q)
    (both-in (nat_abs (a.lat -ℤ b.lat)) (nat_abs a.lat) (nat_abs b.lat)
    (subst (λ (n : ℕ). nat_abs (a.lat -ℤ b.lat) ≤ nat_abs a.lat + n) (nat_abs-negℤ b.lat) (nat_abs-+ℤ a.lat (neg_ℤ b.lat))) p q)

pub reflexive : Reflexive
reflexive a p = go (eqb a.tag tag_n) refl
  where
    none : nat_abs (a.lat -ℤ a.lat) ≡ 0
    none = ap nat_abs (+ℤ_invr a.lat)

    itself : close_by a.lat a.lon a.lat a.lon ≡ true
    itself =
        close-meridian a.lat a.lat a.lon
        (both-in (nat_abs (a.lat +ℤ a.lat)) (nat_abs a.lat) (nat_abs a.lat) (nat_abs-+ℤ a.lat a.lat) p p)
        (le_trans (le_of_eq none) (lit≤ tt))
        ∙ ap (λ (n : ℕ). leb n 1124) none

    by : (n : Bool) → eqb a.tag tag_n ≡ n → same_keys a a ≡ cond n (close_by a.lat a.lon a.lat a.lon) true
    by n e = by_tests a a true true n (eq-eqb a.tag a.tag refl) (eq-eqb a.hash a.hash refl) e

    go : (n : Bool) → eqb a.tag tag_n ≡ n → same_keys a a ≡ true
    go true e = by true e ∙ itself
    go false e = by false e
