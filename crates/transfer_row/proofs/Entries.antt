-- The rule that holds between two stops is the more exact of the best rules for the stop and for its parent.
use Rattle.std.specs.Prelude.{None, Option, Some}
use Prim.Native.Nat.{ℕ, ◌+◌, ◌*◌, ◌≤◌, ◌<◌}
use mathlib.Core.Path.{◌≡◌, refl, sym, ap, ◌∙◌}
use mathlib.Core.Bool.{Bool, true, false, cond, not, ◌&&◌, ◌||◌, true≢false}
use mathlib.Core.List.{List, [], ◌∷◌}
use native.Mathlib.Omega.{arith}
use lib.Dec.{leb, eqb, ltb}
use borrow.Author.Tests.{eq-eqb, ne_eqb, eqb-true, eqb-false, le-leb, lt-leb, leb-true, leb-false, ltb-true, ltb-false}
use lib.ListN.{get_or}
use Rattle.laws.specs.Lists.{All, foldl}
use Rattle.laws.specs.Tables.{table}
use Rattle.laws.proofs.Options.{some-ne-none}
use Rattle.laws.proofs.Tables.{get_d-table}
use Rattle.laws.proofs.Bools.{cond-by, cond-not, and-true, and-by, and-not, or-by, or_true_right, or-not, or-false-left, or-false-right}
use Rattle.rules.specs.declared.Rule.{Rule}
use Rattle.transfer.specs.declared.Ends.{Ends}
use Rattle.transfer.specs.Choice.{bit, rank, applies, read, chosen}
use Rattle.transfer.specs.Changes.{ends_of_of, near, change_of, transfer_of, change_number}
use Rattle.transfer.specs.Rows.{entry_of}
use Rattle.transfer.proofs.Laws.{read_none}
use Rattle.transfer_row.specs.Slots.{slot_of, is_from, better_from, best_next, best_to, picked, picked_in}

-- a stop's slot is its own
slot_at : (to t : ℕ) → t < 128 → eqb (slot_of to) t ≡ eqb to t
slot_at to t h = go (eqb to t) refl
  where
    go : (b : Bool) → eqb to t ≡ b → eqb (slot_of to) t ≡ b
    go true q = eq-eqb (slot_of to) t (omega (arith, eqb-true to t q))
    go false q = ne_eqb (slot_of to) t (λ z. eqb-false to t q (omega arith))

-- of rules of one `to` the from side decides
by-from : {A : Type 0} (x y : A) (p q old t : Bool) → (p || q) ≡ true
    → cond (p || (q && not old)) x y ≡ cond (leb (2 * bit old + bit t) (2 * bit p + bit t)) x y
by-from x y true q true true h = refl
by-from x y true q true false h = refl
by-from x y true q false true h = refl
by-from x y true q false false h = refl
by-from x y false true true true h = refl
by-from x y false true true false h = refl
by-from x y false true false true h = refl
by-from x y false true false false h = refl
by-from x y false false old t h = absurd (true≢false (sym h))

-- of a rule for the stop and one for its parent the from side decides
by-pick : {A : Type 0} (x y : A) (own other : Bool)
    → cond (leb (2 * bit other + bit false) (2 * bit own + bit true)) x y ≡ cond (own || not other) x y
by-pick x y true true = refl
by-pick x y true false = refl
by-pick x y false true = refl
by-pick x y false false = refl

alone-from : {A : Type 0} (x y : A) (p q : Bool) → (p || q) ≡ true → cond (p || (q && not false)) x y ≡ x
alone-from x y true q h = refl
alone-from x y false true h = refl
alone-from x y false false h = absurd (true≢false (sym h))

module _ (e : Ends) where
  -- ---- rules read one after the other

  read_only : (r : Rule) → applies e r ≡ true → read e None r ≡ Some r
  read_only r a = cond-by _ _ a

  read_new : (b r : Rule) → applies e r ≡ true → rank e b ≤ rank e r → read e (Some b) r ≡ Some r
  read_new b r a h = cond-by _ _ a ∙ cond-by _ _ (le-leb _ _ h)

  read_old : (b r : Rule) → applies e r ≡ true → rank e r < rank e b → read e (Some b) r ≡ Some b
  read_old b r a h = cond-by _ _ a ∙ cond-not _ _ (lt-leb _ _ h)

  abbrev then : Rule → Option Rule → Option Rule
  then r c = read e c r

  -- of two that apply the one of the higher rank decides, and of one rank the second
  read_second : (c : Option Rule) (u v : Rule) → applies e u ≡ true → applies e v ≡ true → rank e u ≤ rank e v
      → read e (read e c u) v ≡ read e c v
  read_second None u v a b h = ap (then v) (read_only u a) ∙ read_new u v b h ∙ sym (read_only v b)
  read_second (Some w) u v a b h = go (leb (rank e w) (rank e u)) refl
    where
      go : (t : Bool) → leb (rank e w) (rank e u) ≡ t → read e (read e (Some w) u) v ≡ read e (Some w) v
      go true q =
          let k = leb-true (rank e w) (rank e u) q in
          ap (then v) (read_new w u a k) ∙ read_new u v b h ∙ sym (read_new w v b (omega (arith, k, h)))
      go false q = ap (then v) (read_old w u a (leb-false (rank e w) (rank e u) q))

  read_first : (c : Option Rule) (u v : Rule) → applies e u ≡ true → applies e v ≡ true → rank e v < rank e u
      → read e (read e c u) v ≡ read e c u
  read_first None u v a b h = ap (then v) (read_only u a) ∙ read_old u v b h ∙ sym (read_only u a)
  read_first (Some w) u v a b h = go (leb (rank e w) (rank e u)) refl
    where
      go : (t : Bool) → leb (rank e w) (rank e u) ≡ t → read e (read e (Some w) u) v ≡ read e (Some w) u
      go true q =
          let new = read_new w u a (leb-true (rank e w) (rank e u) q) in
          ap (then v) new ∙ read_old u v b h ∙ sym new
      go false q =
          let k = leb-false (rank e w) (rank e u) q in
          let old = read_old w u a k in
          ap (then v) old ∙ read_old w v b (omega (arith, k, h)) ∙ sym old

  -- the more exact of the best for the stop and the best for its parent, as rules read one after the other
  abbrev joined : Option Rule → Option Rule → Option Rule
  joined None other = other
  joined (Some own) other = read e other own

  -- ---- the best rule for a slot

  abbrev from_side : Rule → Bool
  from_side r = eqb r.from e.from || eqb r.from e.from_parent

  abbrev better : Option Rule → Rule → Option Rule
  better o r = better_from e.from e.from_parent o r

  abbrev next : ℕ → Option Rule → Rule → Option Rule
  next slot o r = best_next e.from e.from_parent slot o r

  -- what is found for a slot applies, and t says whether its `to` is the stop itself
  abbrev At : Bool → Option Rule → Type 0
  At t None = Unit {0}
  At t (Some r) = (applies e r ≡ true) × (eqb r.to e.to ≡ t)

  better-read : (t : Bool) (o : Option Rule) (r : Rule) → At t o → from_side r ≡ true → applies e r ≡ true → eqb r.to e.to ≡ t
      → better o r ≡ read e o r
  better-read t None r g f a s = alone-from (Some r) None (eqb r.from e.from) (eqb r.from e.from_parent) f ∙ sym (read_only r a)
  better-read t (Some w) r g f a s =
      by-from (Some r) (Some w) (eqb r.from e.from) (eqb r.from e.from_parent) (eqb w.from e.from) t f
      ∙ (λ k. cond (leb (2 * bit (eqb w.from e.from) + bit (sym g.1 k)) (2 * bit (eqb r.from e.from) + bit (sym s k))) (Some r) (Some w))
      ∙ sym (cond-by _ _ a)

  better_skip : (o : Option Rule) (r : Rule) → from_side r ≡ false → better o r ≡ o
  better_skip o r f =
      cond-not _ _ (or-not _ (or-false-left (eqb r.from e.from) _ f) ∙ and-not _ (or-false-right (eqb r.from e.from) _ f))

  better-at : (t : Bool) (o : Option Rule) (r : Rule) → At t o → applies e r ≡ true → eqb r.to e.to ≡ t → At t (better o r)
  better-at t o r g a s = go (eqb r.from e.from || (eqb r.from e.from_parent && not (is_from e.from o)))
    where
      go : (b : Bool) → At t (cond b (Some r) o)
      go true = (a, s)
      go false = g

  kept : (x : Bool) (o : Option Rule) (r : Rule) → from_side r ≡ false → cond x (better o r) o ≡ o
  kept true o r f = better_skip o r f
  kept false o r f = refl

  -- ranks with and without an exact `to` differ
  ranks-apart : (w r : Rule) → eqb w.to e.to ≡ true → eqb r.to e.to ≡ false → rank e w ≤ rank e r → rank e w < rank e r
  ranks-apart w r v s h =
      let odd : rank e w ≡ 2 * bit (eqb w.from e.from) + 1 = ap (λ (b : Bool). 2 * bit (eqb w.from e.from) + bit b) v in
      let even : rank e r ≡ 2 * bit (eqb r.from e.from) + 0 = ap (λ (b : Bool). 2 * bit (eqb r.from e.from) + bit b) s in
      omega (arith, odd, even, h)

  -- ---- one rule more: for the stop

  own-more : (a b : Option Rule) (r : Rule) → At true a → from_side r ≡ true → applies e r ≡ true → eqb r.to e.to ≡ true
      → read e (joined a b) r ≡ joined (better a r) b
  own-more None b r g f a s = ap (λ (o : Option Rule). joined o b) (sym (better-read true None r tt f a s ∙ read_only r a))
  own-more (Some w) b r g f a s = go (leb (rank e w) (rank e r)) refl
    where
      go : (t : Bool) → leb (rank e w) (rank e r) ≡ t → read e (read e b w) r ≡ joined (better (Some w) r) b
      go true q =
          let k = leb-true (rank e w) (rank e r) q in
          read_second b w r g.0 a k ∙ ap (λ (o : Option Rule). joined o b) (sym (better-read true (Some w) r g f a s ∙ read_new w r a k))
      go false q =
          let k = leb-false (rank e w) (rank e r) q in
          read_first b w r g.0 a k ∙ ap (λ (o : Option Rule). joined o b) (sym (better-read true (Some w) r g f a s ∙ read_old w r a k))

  -- for its parent
  other-more : (a b : Option Rule) (r : Rule) → At true a → At false b → from_side r ≡ true → applies e r ≡ true → eqb r.to e.to ≡ false
      → read e (joined a b) r ≡ joined a (better b r)
  other-more None b r ga gb f a s = sym (better-read false b r gb f a s)
  other-more (Some w) b r ga gb f a s = go (leb (rank e w) (rank e r)) refl ∙ ap (then w) (sym (better-read false b r gb f a s))
    where
      go : (t : Bool) → leb (rank e w) (rank e r) ≡ t → read e (read e b w) r ≡ read e (read e b r) w
      go true q =
          let k = ranks-apart w r ga.1 s (leb-true (rank e w) (rank e r) q) in
          read_second b w r ga.0 a (omega (arith, k)) ∙ sym (read_first b r w a ga.0 k)
      go false q =
          let k = leb-false (rank e w) (rank e r) q in
          read_first b w r ga.0 a k ∙ sym (read_second b r w a ga.0 (omega (arith, k)))

  -- ---- all rules: where the parent is another stop, or none

  -- the slot s has those for the parent and no others
  abbrev Alone : ℕ → Rule → Type 0
  Alone s r = from_side r ≡ true → eqb r.to e.to_parent ≡ eqb (slot_of r.to) s

  applies-by : (r : Rule) → from_side r ≡ true → (eqb r.to e.to || eqb r.to e.to_parent) ≡ true → applies e r ≡ true
  applies-by r f t = and-true _ _ f t

  abbrev Step : Option Rule → Option Rule → Rule → Option Rule → Option Rule → Type 0
  Step a b r a' b' = (read e (joined a b) r ≡ joined a' b') × At true a' × At false b'

  one-more : (s : ℕ) (a b : Option Rule) (r : Rule) → e.to < 128 → (s ≡ e.to → ⊥) → At true a → At false b → Alone s r
      → Step a b r (next e.to a r) (next s b r)
  one-more s a b r h apart ga gb only =
      go (from_side r) refl (eqb (slot_of r.to) e.to) refl (eqb (slot_of r.to) s) refl
    where
      go : (u : Bool) → from_side r ≡ u → (x : Bool) → eqb (slot_of r.to) e.to ≡ x → (y : Bool) → eqb (slot_of r.to) s ≡ y
          → Step a b r (cond x (better a r) a) (cond y (better b r) b)
      go false f x ex y ey =
          let none : applies e r ≡ false = and-not _ f in
          rw (kept x a r f, kept y b r f) (read_none e (joined a b) r none, ga, gb)
      go true f true ex true ey = absurd (apart (sym (eqb-true (slot_of r.to) s ey) ∙ eqb-true (slot_of r.to) e.to ex))
      go true f true ex false ey =
          let to = sym (slot_at r.to e.to h) ∙ ex in
          let a₁ = applies-by r f (or-by _ to) in
          (own-more a b r ga f a₁ to, better-at true a r ga a₁ to, gb)
      go true f false ex true ey =
          let to = sym (slot_at r.to e.to h) ∙ ex in
          let a₁ = applies-by r f (or_true_right _ _ (only f ∙ ey)) in
          (other-more a b r ga gb f a₁ to, ga, better-at false b r gb a₁ to)
      go true f false ex false ey =
          let none : applies e r ≡ false = and-by _ f ∙ or-not _ (sym (slot_at r.to e.to h) ∙ ex) ∙ only f ∙ ey in
          (read_none e (joined a b) r none, ga, gb)

  all-apart : (s : ℕ) (l : List Rule) (a b : Option Rule) → e.to < 128 → (s ≡ e.to → ⊥) → At true a → At false b → All (Alone s) l
      → (foldl (read e) (joined a b) l ≡ joined (foldl (next e.to) a l) (foldl (next s) b l))
      × At true (foldl (next e.to) a l) × At false (foldl (next s) b l)
  all-apart s [] a b h apart ga gb only = (refl, ga, gb)
  all-apart s (r ∷ l) a b h apart ga gb only =
      let (one, ga', gb') = one-more s a b r h apart ga gb only.0 in
      let (all, gl, gm) = all-apart s l (next e.to a r) (next s b r) h apart ga' gb' only.1 in
      (ap (λ (c : Option Rule). foldl (read e) c l) one ∙ all, gl, gm)

  joined-picked : (a b : Option Rule) → At true a → At false b → joined a b ≡ picked e.from a b
  joined-picked None b ga gb = refl
  joined-picked (Some r) None ga gb = read_only r ga.0 ∙ sym (cond-by _ _ (or_true_right (eqb r.from e.from) true refl))
  joined-picked (Some r) (Some w) ga gb =
      cond-by _ _ ga.0
      ∙ (λ k. cond (leb (2 * bit (eqb w.from e.from) + bit (gb.1 k)) (2 * bit (eqb r.from e.from) + bit (ga.1 k))) (Some r) (Some w))
      ∙ by-pick (Some r) (Some w) (eqb r.from e.from) (eqb w.from e.from)

  -- ---- where the stop is its own parent

  all-own : (l : List Rule) (a : Option Rule) → e.to < 128 → e.to_parent ≡ e.to → At true a
      → (foldl (read e) a l ≡ foldl (next e.to) a l) × At true (foldl (next e.to) a l)
  all-own [] a h own ga = (refl, ga)
  all-own (r ∷ l) a h own ga =
      let (one, ga') = go (from_side r) refl (eqb (slot_of r.to) e.to) refl in
      let (all, gl) = all-own l (next e.to a r) h own ga' in
      (ap (λ (c : Option Rule). foldl (read e) c l) one ∙ all, gl)
    where
      either : (eqb r.to e.to || eqb r.to e.to_parent) ≡ (eqb r.to e.to || eqb r.to e.to)
      either = ap (λ (k : ℕ). eqb r.to e.to || eqb r.to k) own

      go : (u : Bool) → from_side r ≡ u → (x : Bool) → eqb (slot_of r.to) e.to ≡ x
          → (read e a r ≡ cond x (better a r) a) × At true (cond x (better a r) a)
      go false f x ex = rw (kept x a r f) (read_none e a r (and-not _ f), ga)
      go true f true ex =
          let to = sym (slot_at r.to e.to h) ∙ ex in
          let a₁ = applies-by r f (or-by _ to) in
          (sym (better-read true a r ga f a₁ to), better-at true a r ga a₁ to)
      go true f false ex =
          let to = sym (slot_at r.to e.to h) ∙ ex in
          (read_none e a r (and-by _ f ∙ either ∙ or-not _ to ∙ to), ga)

  -- what is found for one `to` is picked beside itself
  picked-own : (a : Option Rule) → picked e.from a a ≡ a
  picked-own None = refl
  picked-own (Some r) = go (eqb r.from e.from || not (eqb r.from e.from))
    where
      go : (b : Bool) → cond b (Some r) (Some r) ≡ Some r
      go true = refl
      go false = refl

  -- ---- where the parent is no stop's number

  -- the slot past the stops is empty in the end, so no rule was found for it
  all-none : (l : List Rule) (b : Option Rule) → foldl (next 128) b l ≡ None
      → (b ≡ None) × All (λ r. from_side r ≡ true → eqb (slot_of r.to) 128 ≡ false) l
  all-none [] b z = (z, tt)
  all-none (r ∷ l) b z =
      let (one, all) = all-none l (next 128 b r) z in
      (empty _ _ one, (λ f. past f (eqb (slot_of r.to) 128) refl (empty _ _ one) one, all))
    where
      empty : (x y : Bool) → cond x (cond y (Some r) b) b ≡ None → b ≡ None
      empty true true q = absurd (some-ne-none r q)
      empty true false q = q
      empty false y q = q

      past : from_side r ≡ true → (x : Bool) → eqb (slot_of r.to) 128 ≡ x → b ≡ None → cond x (better b r) b ≡ None → x ≡ false
      past f true ex none q =
          absurd (some-ne-none r
          (sym (alone-from (Some r) None (eqb r.from e.from) (eqb r.from e.from_parent) f)
          ∙ ap (λ (o : Option Rule). better o r) (sym none) ∙ q))
      past f false ex none q = refl

  -- ---- the rule that holds

  abbrev best : List Rule → ℕ → Option Rule
  best l slot = best_to l e.from e.from_parent slot

  every : {P : Rule → Type 0} → ((r : Rule) → P r) → (l : List Rule) → All P l
  every f [] = tt
  every f (r ∷ l) = (f r, every f l)

  alone : (l : List Rule) → (slot_of e.to_parent ≡ 128 → best l 128 ≡ None) → All (Alone (slot_of e.to_parent)) l
  unfolding best_to
  alone l none = go (ltb e.to_parent 128) refl
    where
      far : (m : List Rule) → slot_of e.to_parent ≡ 128 → All (λ r. from_side r ≡ true → eqb (slot_of r.to) 128 ≡ false) m
          → All (Alone (slot_of e.to_parent)) m
      far [] past w = tt
      far (r ∷ m) past w =
          let other : (f : from_side r ≡ true) → slot_of r.to ≡ 128 → ⊥ = λ f. eqb-false (slot_of r.to) 128 (w.0 f) in (
            λ f. ne_eqb r.to e.to_parent (λ z. other f (ap (λ (k : ℕ). slot_of k) z ∙ past))
                ∙ sym (ne_eqb (slot_of r.to) (slot_of e.to_parent) (λ z. other f (z ∙ past))),
            far m past w.1,
          )

      go : (t : Bool) → ltb e.to_parent 128 ≡ t → All (Alone (slot_of e.to_parent)) l
      go true q =
          let u = ltb-true e.to_parent 128 q in
          let same : slot_of e.to_parent ≡ e.to_parent = omega arith in
          every (λ r f. sym (slot_at r.to e.to_parent u) ∙ ap (eqb (slot_of r.to)) (sym same)) l
      go false q =
          let u = ltb-false e.to_parent 128 q in
          let past : slot_of e.to_parent ≡ 128 = omega arith in
          far l past (all-none l None (none past)).1

  chosen-picked : (l : List Rule) → e.to < 128 → (slot_of e.to_parent ≡ 128 → best l 128 ≡ None)
      → picked e.from (best l e.to) (best l (slot_of e.to_parent)) ≡ chosen e l
  unfolding best_to
  chosen-picked l h none = go (eqb (slot_of e.to_parent) e.to) refl
    where
      go : (t : Bool) → eqb (slot_of e.to_parent) e.to ≡ t → picked e.from (best l e.to) (best l (slot_of e.to_parent)) ≡ chosen e l
      go true q =
          let at = eqb-true (slot_of e.to_parent) e.to q in
          let w = all-own l None h (omega arith) tt in
          ap (λ (s : ℕ). picked e.from (best l e.to) (best l s)) at ∙ picked-own (best l e.to) ∙ sym w.0
      go false q =
          let (all, ga, gb) = all-apart (slot_of e.to_parent) l None None h (eqb-false (slot_of e.to_parent) e.to q) tt tt (alone l none) in
          sym (all ∙ joined-picked (best l e.to) (best l (slot_of e.to_parent)) ga gb)

  -- the rule that the code finds, unless it reads the rules again
  pub rule_found : (l : List Rule) (b : List (Option Rule)) → e.to < 128 → b ≡ table 129 (best l)
      → (slot_of e.to_parent ≡ 128 → get_or b 128 None ≡ None) → picked_in b e ≡ chosen e l
  rule_found l b h eb none =
      let at : (s : ℕ) → s < 129 → get_or b s None ≡ best l s =
      λ s k. ap (λ (x : List (Option Rule)). get_or x s None) eb ∙ get_d-table (best l) None 129 s k in
      (λ i. picked e.from (at e.to (omega arith) i) (at (slot_of e.to_parent) (omega arith) i))
      ∙ chosen-picked l h (λ z. sym (at 128 (omega arith)) ∙ none z)

-- ---- an entry of the row

abbrev pub from_to : ℕ → ℕ → ℕ → ℕ → Ends
from_to f fp t tp = record { from = f; from_parent = fp; to = t; to_parent = tp }

-- the parts of an entry, as the code computes them
pub entry-by : (rules : List Rule) (parents places : List ℕ) (from change to : ℕ) (b : List (Option Rule))
    {fp fq tp tq : ℕ} {r : Option Rule} {close : Bool} {by : Option ℕ} {n : ℕ}
    → to < 128 → b ≡ table 129 (best_to rules from (get_or parents from 65535)) → get_or b 128 None ≡ None
    → fp ≡ get_or parents from 65535 → fq ≡ get_or places from 65535 → tp ≡ get_or parents to 65535 → tq ≡ get_or places to 65535
    → r ≡ picked_in b (from_to from fp to tp) → close ≡ near (from_to from fp to tp) fq tq
    → by ≡ change_of r close change → n ≡ change_number by
    → n ≡ entry_of rules parents places from change to
unfolding ends_of_of transfer_of entry_of
entry-by rules parents places from change to b {r = r} {close = close} h eb none ep eq tp tq er ec ey en =
    let ends = ends_of_of parents from to in
    let rule : r ≡ chosen ends rules =
    er ∙ (λ i. picked_in b (from_to from (ep i) to (tp i))) ∙ rule_found ends rules b h eb (λ _. none) in
    let nearby : close ≡ near ends (get_or places from 65535) (get_or places to 65535) =
    ec ∙ (λ i. near (from_to from (ep i) to (tp i)) (eq i) (tq i)) in
    en ∙ ap (λ (o : Option ℕ). change_number o) (ey ∙ (λ i. change_of (rule i) (nearby i) change))
