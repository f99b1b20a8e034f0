-- The rule that holds is the last of its pair, so its number is that of the pair.
use Rattle.std.specs.Prelude.{None, Option, Some}
use mathlib.Core.Path.{◌≡◌, refl, sym, ap, subst, ◌∙◌}
use mathlib.Core.Bool.{Bool, true, false, cond, ◌&&◌, ◌||◌, true≢false}
use mathlib.Core.List.{List, [], ◌∷◌, ◌++◌, append_assoc}
use Prim.Native.Nat.{ℕ, suc, ◌+◌, ◌-◌, ◌*◌}
use native.Mathlib.Omega.{arith}
use lib.Dec.{eqb}
use lib.ListN.{length, get_or, length-append}
use lib.Seq.{get_or-append_seam}
use borrow.Author.Tests.{eqb-true, eq-eqb, le-leb}
use Rattle.laws.specs.Lists.{anyb}
use Rattle.laws.proofs.Bools.{and-true, and-true-left, and-true-right, or_true_right, not-true}
use Rattle.laws.proofs.Folds.{foldl-append}
use Rattle.laws.proofs.Lists.{anyb-append, snoc-ind}
use Rattle.rules.specs.declared.Rule.{Rule}
use Rattle.rules.specs.Rules.{blank_rule, same_pair}
use Rattle.transfer.specs.declared.Ends.{Ends}
use Rattle.transfer.specs.Choice.{side, applies, bit, rank, better, read, chosen}
use Rattle.withdrawal.specs.Removal.{last_of}
use Rattle.verdicts.specs.Claims.{RuleNumbered}

-- the place of the last that passes, in front of which so many stand
last-split : (p : Rule → Bool) (xs : List Rule) (y : Rule) (ys : List Rule) → p y ≡ true → anyb p ys ≡ false
    → last_of p (xs ++ (y ∷ ys)) ≡ suc (length xs)
last-split p [] y ys e f = rw (f, e) refl
last-split p (x ∷ xs) y ys e f =
    let some : anyb p (xs ++ (y ∷ ys)) ≡ true = anyb-append p xs (y ∷ ys) ∙ or_true_right (anyb p xs) (p y || anyb p ys) (rw e refl) in
    rw some (ap suc (last-split p xs y ys e f))

pair-self : (r : Rule) → same_pair r.from r.to r ≡ true
pair-self r = and-true (eqb r.from r.from) (eqb r.to r.to) (eq-eqb r.from r.from refl) (eq-eqb r.to r.to refl)

module _ (e : Ends) where
  -- what is read of a rule is read of its pair
  pair-applies : (b x : Rule) → same_pair b.from b.to x ≡ true → applies e x ≡ applies e b
  pair-applies b x q =
      let f = eqb-true x.from b.from (and-true-left (eqb x.from b.from) (eqb x.to b.to) q) in
      let t = eqb-true x.to b.to (and-true-right (eqb x.from b.from) (eqb x.to b.to) q) in
      λ i. side (f i) e.from e.from_parent && side (t i) e.to e.to_parent

  pair-better : (b x : Rule) → same_pair b.from b.to x ≡ true → better e b x ≡ true
  pair-better b x q =
      let f = eqb-true x.from b.from (and-true-left (eqb x.from b.from) (eqb x.to b.to) q) in
      let t = eqb-true x.to b.to (and-true-right (eqb x.from b.from) (eqb x.to b.to) q) in
      let same : rank e x ≡ rank e b = λ i. 2 * bit (eqb (f i) e.from) + bit (eqb (t i) e.to) in
      le-leb (rank e b) (rank e x) (omega (arith, same))

  -- r applies, and is the last of its pair
  record Last (rs : List Rule) (r : Rule) : Type 0 where
    applies-to : applies e r ≡ true
    before : List Rule
    behind : List Rule
    whole : rs ≡ before ++ (r ∷ behind)
    last : anyb (same_pair r.from r.to) behind ≡ false

  newest : (rs : List Rule) (x : Rule) → applies e x ≡ true → Last (rs ++ (x ∷ [])) x
  newest rs x a = record { applies-to = a; before = rs; behind = []; whole = refl; last = refl }

  stays : (rs : List Rule) (b x : Rule) → Last rs b → same_pair b.from b.to x ≡ false → Last (rs ++ (x ∷ [])) b
  stays rs b x w q = record {
    applies-to = w.applies-to;
    before = w.before;
    behind = w.behind ++ (x ∷ []);
    whole = ap (λ (l : List Rule). l ++ (x ∷ [])) w.whole ∙ append_assoc w.before (b ∷ w.behind) (x ∷ []);
    last = anyb-append (same_pair b.from b.to) w.behind (x ∷ []) ∙ rw (w.last, q) refl;
  }

  read-last : (rs : List Rule) (x : Rule) (c : Option Rule) → ((b : Rule) → c ≡ Some b → Last rs b) → (r : Rule) → read e c x ≡ Some r
      → Last (rs ++ (x ∷ [])) r
  read-last rs x None ih r q = go (applies e x) refl q
    where
      go : (a : Bool) → applies e x ≡ a → cond a (Some x) None ≡ Some r → Last (rs ++ (x ∷ [])) r
      go true p f = subst (Last (rs ++ (x ∷ []))) (cc) (newest rs x p)
      go false p f = absurd (let z : ◌≡◌ {A = ℕ} 0 1 = cc in omega arith)
  read-last rs x (Some b) ih r q = go (applies e x) (better e b x) refl refl q
    where
      other : (same_pair b.from b.to x ≡ true → ⊥) → Some b ≡ Some r → Last (rs ++ (x ∷ [])) r
      other n f = subst (Last (rs ++ (x ∷ []))) (cc) (stays rs b x (ih b refl) (not-true (same_pair b.from b.to x) n))

      go : (a t : Bool) → applies e x ≡ a → better e b x ≡ t → cond a (cond t (Some x) (Some b)) (Some b) ≡ Some r → Last (rs ++ (x ∷ [])) r
      go true true p s f = subst (Last (rs ++ (x ∷ []))) (cc) (newest rs x p)
      go true false p s f = other (λ w. true≢false (sym (pair-better b x w) ∙ s)) f
      go false t p s f = other (λ w. true≢false (sym (pair-applies b x w ∙ (ih b refl).applies-to) ∙ p)) f

  chosen_last : (rs : List Rule) (r : Rule) → chosen e rs ≡ Some r → Last rs r
  chosen_last = snoc-ind (λ (rs : List Rule). (r : Rule) → chosen e rs ≡ Some r → Last rs r)
      (λ r q. absurd (let z : ◌≡◌ {A = ℕ} 0 1 = cc in omega arith))
      (λ xs x ih r q. read-last xs x (chosen e xs) (λ b f. ih b f) r (sym (foldl-append (read e) None xs (x ∷ [])) ∙ q))

pub rule-numbered : RuleNumbered
rule-numbered e rs r q =
    let w = chosen_last e rs r q in
    let p = same_pair r.from r.to in
    let at : last_of p rs ≡ suc (length w.before) = ap (last_of p) w.whole ∙ last-split p w.before r w.behind (pair-self r) w.last in
    let here : last_of p rs - 1 ≡ length w.before = omega (arith, at) in
    let long : length rs ≡ length (w.before ++ (r ∷ w.behind)) = ap length w.whole in (
      omega (arith, here, long, length-append w.before (r ∷ w.behind)),
      (λ i. get_or (w.whole i) (here i) blank_rule) ∙ get_or-append_seam w.before r w.behind blank_rule,
    )
