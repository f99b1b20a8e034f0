-- What a chosen rule gives, what holds of the rules of a sound load, and what a row decides.
use Rattle.std.specs.Option.{unwrap_or}
use Rattle.std.specs.Prelude.{None, Option, Some}
use mathlib.Core.Path.{◌≡◌, refl, sym, ap, ◌∙◌}
use mathlib.Core.Logic.{◌⊎◌, inl, inr}
use mathlib.Core.Bool.{Bool, true, false, true≢false}
use Prim.Native.Nat.{ℕ, ◌+◌, ◌*◌, ◌<◌}
use native.Mathlib.Omega.{arith}
use lib.Dec.{leb, eqb}
use lib.ListN.{get_or}
use borrow.Author.Tests.{eq-eqb, ne_eqb, eqb-true, lt-leb}
use Rattle.laws.proofs.Bools.{cond-by, or-not, and-true, and-true-left, and-true-right}
use Rattle.laws.proofs.Order.{tri}
use Rattle.laws.proofs.Tables.{get_d-table}
use Rattle.rules.specs.declared.Rule.{Rule}
use Rattle.rules.specs.Sound.{rule_at}
use Rattle.stops.specs.Sound.{stop_at}
use Rattle.transfer.specs.Changes.{ends_of_of, near, change_of, transfer_of, joins_by, change_number}
use Rattle.transfer.specs.Copied.{parents_of}
use Rattle.transfer.specs.Rows.{entry_of, change_row}
use Rattle.transfer.specs.declared.Ends.{Ends}
use Rattle.transfer.specs.Choice.{side, applies, bit, rank}
use Rattle.transfer.proofs.Laws.{bits}
use Rattle.transfer.specs.Promises.{RankRight, TypeThreeForbids, PairOnce, RanksDiffer, NoneNotNamed, RowJoins, ParentRead}

pub type-three-forbids : TypeThreeForbids
unfolding transfer_of
type-three-forbids rules parents places from to change r e t =
    ap (λ (c : Option Rule). change_of c (near (ends_of_of parents from to) (get_or places from 65535) (get_or places to 65535)) change) e
    ∙ cond-by _ _ (eq-eqb r.transfer_type 3 t)

pub pair-once : PairOnce
pair-once stops rules count s j k hj hk f t = go (tri j k)
  where
    twice : (a b : ℕ) → a < b → b < count → (rule_at rules a).from ≡ (rule_at rules b).from → (rule_at rules a).to ≡ (rule_at rules b).to
        → ⊥
    twice a b h g p q = true≢false (sym (and-true _ _ (eq-eqb _ _ p) (eq-eqb _ _ q)) ∙ s.alone a b h g)

    go : (j < k) ⊎ ((j ≡ k) ⊎ (k < j)) → j ≡ k
    go (inl h) = absurd (twice j k h hk f t)
    go (inr (inl e)) = e
    go (inr (inr h)) = absurd (twice k j h hj (sym f) (sym t))

-- ---- rules of one rank

same-side : (x y stop parent : ℕ) → side x stop parent ≡ true → side y stop parent ≡ true → eqb x stop ≡ eqb y stop → x ≡ y
same-side x y stop parent p q e = go (eqb x stop) refl
  where
    go : (b : Bool) → eqb x stop ≡ b → x ≡ y
    go true t = eqb-true x stop t ∙ sym (eqb-true y stop (sym e ∙ t))
    go false t = eqb-true x parent (sym (or-not _ t) ∙ p) ∙ sym (eqb-true y parent (sym (or-not _ (sym e ∙ t)) ∙ q))

same_bits : (a b c d : Bool) → 2 * bit a + bit b ≡ 2 * bit c + bit d → (a ≡ c) × (b ≡ d)
same_bits true true true true s = (refl, refl)
same_bits true true true false s = absurd (omega arith)
same_bits true true false true s = absurd (omega arith)
same_bits true true false false s = absurd (omega arith)
same_bits true false true true s = absurd (omega arith)
same_bits true false true false s = (refl, refl)
same_bits true false false true s = absurd (omega arith)
same_bits true false false false s = absurd (omega arith)
same_bits false true true true s = absurd (omega arith)
same_bits false true true false s = absurd (omega arith)
same_bits false true false true s = (refl, refl)
same_bits false true false false s = absurd (omega arith)
same_bits false false true true s = absurd (omega arith)
same_bits false false true false s = absurd (omega arith)
same_bits false false false true s = absurd (omega arith)
same_bits false false false false s = (refl, refl)

-- rules of one rank that apply are for one pair
pub rank-pair : (e : Ends) (x y : Rule) → applies e x ≡ true → applies e y ≡ true → rank e x ≡ rank e y → (x.from ≡ y.from) × (x.to ≡ y.to)
rank-pair e x y p q r = go (same_bits (eqb x.from e.from) (eqb x.to e.to) (eqb y.from e.from) (eqb y.to e.to) r)
  where
    ahead : Rule → Bool
    ahead z = side z.from e.from e.from_parent

    back : Rule → Bool
    back z = side z.to e.to e.to_parent

    go : (eqb x.from e.from ≡ eqb y.from e.from) × (eqb x.to e.to ≡ eqb y.to e.to) → (x.from ≡ y.from) × (x.to ≡ y.to)
    go (f, t) = (
      same-side x.from y.from e.from e.from_parent (and-true-left (ahead x) (back x) p) (and-true-left (ahead y) (back y) q) f,
      same-side x.to y.to e.to e.to_parent (and-true-right (ahead x) (back x) p) (and-true-right (ahead y) (back y) q) t,
    )

pub ranks-differ : RanksDiffer
ranks-differ stops rules count s e j k hj hk p q r =
    let w = rank-pair e (rule_at rules j) (rule_at rules k) p q r in
    pair-once stops rules count s j k hj hk w.0 w.1

pub rank_right : RankRight
rank_right e r = record {
  both = λ f t. bits (eq-eqb _ _ f) (eq-eqb _ _ t);
  fore = λ f t. bits (eq-eqb _ _ f) (ne_eqb _ _ t);
  rear = λ f t. bits (ne_eqb _ _ f) (eq-eqb _ _ t);
  neither = λ f t. bits (ne_eqb _ _ f) (ne_eqb _ _ t);
}

pub none-not-named : NoneNotNamed
none-not-named stops rules count few s k h = ((λ e. omega (arith, s.from_known k h)), (λ e. omega (arith, s.to_known k h)))

number-joins : (c : Option ℕ) (arrival departure : ℕ) → departure < 65536
    → leb (arrival + change_number c) departure ≡ joins_by c arrival departure
number-joins (Some s) arrival departure h = refl
number-joins None arrival departure h = lt-leb (arrival + 65536) departure (omega arith)

pub row-joins : RowJoins
unfolding change_row entry_of
row-joins rules parents places from change to arrival departure t h =
    ap (λ (n : ℕ). leb (arrival + n) departure) (get_d-table (entry_of rules parents places from change) 0 128 to t)
    ∙ number-joins (transfer_of rules parents places from to change) arrival departure h

pub parent-read : ParentRead
unfolding parents_of
parent-read stops k h = get_d-table (λ (j : ℕ). unwrap_or (stop_at stops j).parent 65535) 65535 128 k h
