-- The program's change between two stops is the one stated here, where its sides are.
use Rattle.std.specs.Option.{unwrap_or}
use Rattle.std.specs.Prelude.{None, Option, Some}
use Prim.Native.Nat.{ℕ, zero, suc, ◌+◌, ◌*◌, ◌≤◌, ◌<◌}
use mathlib.Core.Path.{◌≡◌, refl, sym, ap, subst, ◌∙◌}
use mathlib.Core.Logic.{◌⊎◌, inl, inr, ◌↔◌}
use mathlib.Core.Bool.{Bool, true, false, cond, true≢false}
use mathlib.Core.List.{List, Memᴰ}
use native.Mathlib.Omega.{arith}
use lib.Dec.{leb, eqb}
use borrow.Author.Tests.{leb-true, leb-false, eqb-true, eqb-false}
use Rattle.laws.specs.Bounds.{most}
use Rattle.laws.proofs.Bools.{and-true, and-true-left, and-true-right, cond-by}
use Rattle.laws.proofs.Options.{some-injective, none-ne-some}
use Rattle.laws.proofs.Order.{tri}
use Rattle.rules.specs.declared.Rule.{Rule}
use Rattle.transfer.specs.declared.Ends.{Ends}
use Rattle.transfer.specs.Choice.{side, applies, bit, rank, chosen}
use Rattle.transfer.specs.Changes.{rule_seconds, rule_change, change_of}
use Rattle.transfer.specs.Promises as promised
use Rattle.transfer.proofs.Choosing.{chosen-right, best-most, best-taken}
use Rattle.transfer.proofs.Claims.{rank-pair, rank_right}
use Rattle.comparison.specs.Admitted.{Feed, Side, Applies, Rank, both, fore, rear, neither, Chosen, Seconds, Larger, Gives, type_zero}
use Rattle.comparison.specs.Admitted.{type_one, type_two, ByRule, Change, Parent}

-- ---- ranks

rank_is : (e : Ends) (r : Rule) → Rank e.from e.to r (rank e r)
rank_is e r = go (eqb r.from e.from) refl (eqb r.to e.to) refl
  where
    go : (a : Bool) → eqb r.from e.from ≡ a → (b : Bool) → eqb r.to e.to ≡ b → Rank e.from e.to r (2 * bit a + bit b)
    go true p true q = both (eqb-true _ _ p) (eqb-true _ _ q)
    go true p false q = fore (eqb-true _ _ p) (eqb-false _ _ q)
    go false p true q = rear (eqb-false _ _ p) (eqb-true _ _ q)
    go false p false q = neither (eqb-false _ _ p) (eqb-false _ _ q)

is-rank : (e : Ends) (r : Rule) (n : ℕ) → Rank e.from e.to r n → n ≡ rank e r
is-rank e r _ (both p q) = sym ((rank_right e r).both p q)
is-rank e r _ (fore p q) = sym ((rank_right e r).fore p q)
is-rank e r _ (rear p q) = sym ((rank_right e r).rear p q)
is-rank e r _ (neither p q) = sym ((rank_right e r).neither p q)

-- ---- seconds

seconds-is : (m : Option ℕ) → Seconds m (unwrap_or m 0)
seconds-is (Some n) = refl
seconds-is None = refl

is-seconds : (m : Option ℕ) (v : ℕ) → Seconds m v → v ≡ unwrap_or m 0
is-seconds (Some n) v w = w
is-seconds None v w = w

most-is : (a b : ℕ) → Larger a b (most a b)
most-is a b = go (leb a b) refl
  where
    go : (x : Bool) → leb a b ≡ x → ((a ≤ b) × (cond x b a ≡ b)) ⊎ ((b ≤ a) × (cond x b a ≡ a))
    go true e = inl (leb-true a b e, refl)
    go false e = inr (omega (arith, leb-false a b e), refl)

is-most : (a b n : ℕ) → Larger a b n → n ≡ most a b
is-most a b n w = go w (most-is a b)
  where
    go : ((a ≤ b) × (n ≡ b)) ⊎ ((b ≤ a) × (n ≡ a)) → Larger a b (most a b) → n ≡ most a b
    go (inl (l, e)) (inl (m, f)) = e ∙ sym f
    go (inl (l, e)) (inr (m, f)) = let z : a ≡ b = omega arith in e ∙ sym z ∙ sym f
    go (inr (l, e)) (inl (m, f)) = let z : a ≡ b = omega arith in e ∙ z ∙ sym f
    go (inr (l, e)) (inr (m, f)) = e ∙ sym f

-- ---- what a rule gives

-- the types that are none of the others
only_one : (t : ℕ) → t ≤ 3 → (t ≡ 0 → ⊥) → (t ≡ 2 → ⊥) → (t ≡ 3 → ⊥) → t ≡ 1
only_one zero few a b c = absurd (a refl)
only_one (suc zero) few a b c = refl
only_one (suc (suc zero)) few a b c = absurd (b refl)
only_one (suc (suc (suc zero))) few a b c = absurd (c refl)
only_one (suc (suc (suc (suc t)))) few a b c = absurd (omega arith)

by-type : (r : Rule) (change t : ℕ) → r.transfer_type ≡ t
    → rule_change r change ≡ cond (eqb t 3) None (Some (cond (eqb t 2) (most (unwrap_or r.seconds 0) change) change))
by-type r change t q = ap (λ (k : ℕ). cond (eqb k 3) None (Some (cond (eqb k 2) (most (unwrap_or r.seconds 0) change) change))) q

gives-in : (r : Rule) (change n : ℕ) → r.transfer_type ≤ 3 → rule_change r change ≡ Some n → Gives change r n
gives-in r change n few t = three (eqb r.transfer_type 3) refl t
  where
    two : (r.transfer_type ≡ 3 → ⊥) → (b : Bool) → eqb r.transfer_type 2 ≡ b → cond b (most (unwrap_or r.seconds 0) change) change ≡ n
        → Gives change r n
    two k true p x = type_two (eqb-true _ _ p) (unwrap_or r.seconds 0) (seconds-is r.seconds)
        (subst (Larger (unwrap_or r.seconds 0) change) x (most-is (unwrap_or r.seconds 0) change))
    two k false p x = one (eqb r.transfer_type 0) refl
      where
        one : (b : Bool) → eqb r.transfer_type 0 ≡ b → Gives change r n
        one true q = type_zero (eqb-true _ _ q) (sym x)
        one false q =
            let a : r.transfer_type ≡ 2 → ⊥ = eqb-false _ _ p in
            let b : r.transfer_type ≡ 0 → ⊥ = eqb-false _ _ q in
            type_one (only_one r.transfer_type few b a k) (sym x)

    three : (b : Bool) → eqb r.transfer_type 3 ≡ b → cond b None (Some (rule_seconds r change)) ≡ Some n → Gives change r n
    three true p x = absurd (none-ne-some n x)
    three false p x = two (eqb-false _ _ p) (eqb r.transfer_type 2) refl (some-injective _ n x)

gives-out : (r : Rule) (change n : ℕ) → Gives change r n → rule_change r change ≡ Some n
gives-out r change n (type_zero t q) = by-type r change 0 t ∙ ap Some (sym q)
gives-out r change n (type_one t q) = by-type r change 1 t ∙ ap Some (sym q)
gives-out r change n (type_two t g s l) =
    by-type r change 2 t ∙ ap Some (sym (is-most g change n l ∙ ap (λ (k : ℕ). most k change) (is-seconds r.seconds g s)))

-- ---- the rule that is chosen

-- the rules have types 0 to 3, and no two are for one pair
pub record Taken (rules : List Rule) : Type 0 where
  pub types : (r : Rule) → Memᴰ r rules → r.transfer_type ≤ 3
  pub alone : (q r : Rule) → Memᴰ q rules → Memᴰ r rules → q.from ≡ r.from → q.to ≡ r.to → q ≡ r

module _ (F : Feed) (e : Ends) (known : Taken F.rules)
    (fores : (r : Rule) → Memᴰ r F.rules → (side r.from e.from e.from_parent ≡ true) ↔ Side F r.from e.from)
    (rears : (r : Rule) → Memᴰ r F.rules → (side r.to e.to e.to_parent ≡ true) ↔ Side F r.to e.to) where
  applies-in : (r : Rule) → Memᴰ r F.rules → applies e r ≡ true → Applies F e.from e.to r
  applies-in r m q = ((fores r m).0 (and-true-left _ _ q), (rears r m).0 (and-true-right (side r.from e.from e.from_parent) _ q))

  applies-out : (r : Rule) → Memᴰ r F.rules → Applies F e.from e.to r → applies e r ≡ true
  applies-out r m (p, q) = and-true _ _ ((fores r m).1 p) ((rears r m).1 q)

  -- rules of one rank that apply are one
  one-rule : (q r : Rule) → Memᴰ q F.rules → Memᴰ r F.rules → Applies F e.from e.to q → Applies F e.from e.to r
      → rank e q ≡ rank e r → q ≡ r
  one-rule q r m n a b t =
      let w = rank-pair e q r (applies-out q m a) (applies-out r n b) t in
      known.alone q r m n w.0 w.1

  -- the program's best rule is the one stated here
  best-chosen : (q : Rule) → promised.Best e F.rules q → Chosen F e.from e.to q
  best-chosen q w =
      let m : Memᴰ q F.rules = best-taken e F.rules q w in
      let a : Applies F e.from e.to q = applies-in q m w.fits in
      record {
        taken = m;
        applies = a;
        highest = λ p x y k b other u v.
            below (is-rank e p x u) (is-rank e q y v) (best-most e F.rules q w p k (applies-out p k b))
            (λ t. other (one-rule p q k m b a t));
      }
    where
      below : {x y a b : ℕ} → x ≡ a → y ≡ b → a ≤ b → (a ≡ b → ⊥) → x < y
      below e₁ e₂ l n = omega arith

  -- and there is no other
  chosen-best : (r : Rule) → Chosen F e.from e.to r → (c : Option Rule) → promised.Right e F.rules c → c ≡ Some r
  chosen-best r w None v = absurd (true≢false (sym (applies-out r w.taken w.applies) ∙ v r w.taken))
  chosen-best r w (Some q) v = two (best-chosen q v) (tri (rank e r) (rank e q))
    where
      same : q ≡ r → rank e q ≡ rank e r
      same z = ap (rank e) z

      two : Chosen F e.from e.to q → (rank e r < rank e q) ⊎ ((rank e r ≡ rank e q) ⊎ (rank e q < rank e r)) → Some q ≡ Some r
      two t (inl l) =
          absurd (omega (
            arith,
            w.highest q (rank e q) (rank e r) t.taken t.applies (λ z. omega (arith, same z)) (rank_is e q)
                (rank_is e r),
          ))
      two t (inr (inl z)) = ap Some (sym (one-rule r q w.taken t.taken w.applies t.applies z))
      two t (inr (inr l)) =
          absurd (omega (
            arith,
            t.highest r (rank e r) (rank e q) w.taken w.applies (λ z. omega (arith, same (sym z))) (rank_is e r)
                (rank_is e q),
          ))

  -- ---- the change

  abbrev pub Near : Type 0
  Near = (e.from ≡ e.to) ⊎ (((p : ℕ) × Parent F.stops e.from p × Parent F.stops e.to p) ⊎ F.Place e.from e.to)

  module _ (close : Bool) (nears : (close ≡ true) ↔ Near) where
    abbrev change : ℕ
    change = F.settings.transfer_seconds

    rule-in : (q : Rule) (n : ℕ) → promised.Best e F.rules q → change_of (Some q) close change ≡ Some n → ByRule F e.from e.to n
    rule-in q n w t =
        let v = best-chosen q w in
        record { by = q; chosen = v; gives = gives-in q change n (known.types q v.taken) t }

    pub change-in : (n : ℕ) → change_of (chosen e F.rules) close change ≡ Some n → Change F e.from e.to n
    change-in n t = go (chosen e F.rules) (chosen-right e F.rules) t
      where
        go : (c : Option Rule) → promised.Right e F.rules c → change_of c close change ≡ Some n → Change F e.from e.to n
        go (Some q) w x = inl (rule-in q n w x)
        go None w x = two close refl x
          where
            two : (b : Bool) → close ≡ b → cond b (Some change) None ≡ Some n → Change F e.from e.to n
            two true p y = inr (record {
              no_rule = λ r m a. true≢false (sym (applies-out r m a) ∙ w r m);
              near = nears.0 p;
              takes = sym (some-injective change n y);
            })
            two false p y = absurd (none-ne-some n y)

    pub change-out : (n : ℕ) → Change F e.from e.to n → change_of (chosen e F.rules) close change ≡ Some n
    change-out n (inl w) =
        let c : chosen e F.rules ≡ Some w.by = chosen-best w.by w.chosen _ (chosen-right e F.rules) in
        ap (λ (x : Option Rule). change_of x close change) c ∙ gives-out w.by change n w.gives
    change-out n (inr w) = go (chosen e F.rules) (chosen-right e F.rules)
      where
        go : (c : Option Rule) → promised.Right e F.rules c → change_of c close change ≡ Some n
        go None v = cond-by (Some change) None (nears.1 w.near) ∙ ap Some (sym w.takes)
        go (Some q) v = let t = best-chosen q v in absurd (w.no_rule q t.taken t.applies)
