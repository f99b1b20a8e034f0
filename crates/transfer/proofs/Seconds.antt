-- The seconds of types 0 and 1 never decide: rules that differ in those alone are chosen alike, and give the same.
use Rattle.std.specs.Option.{unwrap_or}
use Rattle.std.specs.Prelude.{None, Option, Some}
use mathlib.Core.Path.{◌≡◌, refl, ap, subst, ◌∙◌}
use mathlib.Core.Bool.{Bool, true, false, cond, ◌&&◌}
use mathlib.Core.List.{List}
use Prim.Native.Nat.{ℕ, ◌+◌, ◌*◌}
use native.Mathlib.Omega.{arith}
use lib.Dec.{leb, eqb}
use lib.ListN.{get_or}
use borrow.Author.Tests.{eqb-true}
use Rattle.laws.specs.Bounds.{most}
use Rattle.laws.specs.Lists.{foldl}
use Rattle.rules.specs.declared.Rule.{Rule}
use Rattle.transfer.specs.declared.Ends.{Ends}
use Rattle.transfer.specs.Choice.{side, applies, bit, rank, better, read}
use Rattle.transfer.specs.Changes.{rule_change, change_of, ends_of_of, near, transfer_of}
use Rattle.transfer.specs.Promises.{ButSeconds, AllButSeconds, none, more, SecondsOfTypeTwo}

-- both none, or rules that are one but for seconds
data Alike : Option Rule → Option Rule → Type 0 where
  neither : Alike None None
  both : {q r : Rule} → ButSeconds q r → Alike (Some q) (Some r)

module _ (e : Ends) where
  applies-same : (q r : Rule) → ButSeconds q r → applies e q ≡ applies e r
  applies-same q r s = λ k. side (s.from k) e.from e.from_parent && side (s.to k) e.to e.to_parent

  rank_same : (q r : Rule) → ButSeconds q r → rank e q ≡ rank e r
  rank_same q r s = λ k. 2 * bit (eqb (s.from k) e.from) + bit (eqb (s.to k) e.to)

  better-same : (p q r t : Rule) → ButSeconds p r → ButSeconds q t → better e p q ≡ better e r t
  better-same p q r t a b = λ k. leb (rank_same p r a k) (rank_same q t b k)

  read_alike : (a b : Option Rule) (q r : Rule) → Alike a b → ButSeconds q r → Alike (read e a q) (read e b r)
  read_alike _ _ q r neither s =
      subst (λ (t : Bool). Alike (cond (applies e q) (Some q) None) (cond t (Some r) None)) (applies-same q r s) (go (applies e q))
    where
      go : (t : Bool) → Alike (cond t (Some q) None) (cond t (Some r) None)
      go true = both s
      go false = neither
  read_alike _ _ x y (both {q} {r} w) s =
      subst (λ (t : Bool). Alike (cond (applies e x) (cond (better e q x) (Some x) (Some q)) (Some q))
      (cond t (cond (better e r y) (Some y) (Some r)) (Some r))) (applies-same x y s)
      (subst (λ (u : Bool). Alike (cond (applies e x) (cond (better e q x) (Some x) (Some q)) (Some q))
      (cond (applies e x) (cond u (Some y) (Some r)) (Some r))) (better-same q x r y w s)
      (go (applies e x) (better e q x)))
    where
      go : (t u : Bool) → Alike (cond t (cond u (Some x) (Some q)) (Some q)) (cond t (cond u (Some y) (Some r)) (Some r))
      go true true = both s
      go true false = both w
      go false u = both w

  fold-alike : (qs rs : List Rule) (a b : Option Rule) → AllButSeconds qs rs → Alike a b → Alike (foldl (read e) a qs) (foldl (read e) b rs)
  fold-alike _ _ a b none w = w
  fold-alike _ _ a b (more {q} {r} {qs} {rs} s ss) w = fold-alike qs rs (read e a q) (read e b r) ss (read_alike a b q r w s)

rule-same : (q r : Rule) (change : ℕ) → ButSeconds q r → rule_change q change ≡ rule_change r change
rule-same q r change s =
    ap (λ (t : ℕ). cond (eqb t 3) None (Some (cond (eqb t 2) (most (unwrap_or q.seconds 0) change) change))) s.kind
    ∙ ap (λ (n : ℕ). cond (eqb r.transfer_type 3) None (Some n)) (go (eqb r.transfer_type 2) refl)
  where
    go : (b : Bool) → eqb r.transfer_type 2 ≡ b
        → cond b (most (unwrap_or q.seconds 0) change) change ≡ cond b (most (unwrap_or r.seconds 0) change) change
    go true t =
        let two : r.transfer_type ≡ 2 = eqb-true r.transfer_type 2 t in
        ap (λ (n : Option ℕ). most (unwrap_or n 0) change) (s.seconds (λ z. omega arith) (λ z. omega arith))
    go false t = refl

change-same : (a b : Option Rule) (close : Bool) (change : ℕ) → Alike a b → change_of a close change ≡ change_of b close change
change-same _ _ close change neither = refl
change-same _ _ close change (both {q} {r} s) = rule-same q r change s

pub seconds-of-type-two : SecondsOfTypeTwo
unfolding transfer_of
seconds-of-type-two qs rs parents places from to change s =
    let e = ends_of_of parents from to in
    change-same (foldl (read e) None qs) (foldl (read e) None rs) (near e (get_or places from 65535) (get_or places to 65535)) change
    (fold-alike e qs rs None None s neither)
