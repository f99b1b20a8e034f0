-- Calls with no clash have none after one is taken out, so a withdrawal is never answered 14.
use Rattle.refusal.specs.declared.Accepted.TheVariants.{Taken}
use Rattle.std.specs.Prelude.{Ok}
use Prim.Native.Nat.{◌≤◌}
use mathlib.Core.Path.{◌≡◌, refl, sym, ap, subst, ◌∙◌}
use mathlib.Core.Logic.{◌⊎◌, inl, inr}
use mathlib.Core.Bool.{Bool, true, false, cond, ◌&&◌, ◌||◌}
use mathlib.Core.List.Memᴰ
use mathlib.Core.List.{List, [], ◌∷◌, Memᴰ}
use native.Mathlib.Omega.{arith}
use borrow.Author.Tests.{eqb-true, ltb-true, le-ltb, ne_eqb}
use lib.Dec.{eqb, ltb}
use Rattle.laws.specs.Lists.{anyb}
use Rattle.laws.specs.Sort.{Ordered}
use Rattle.calls.specs.declared.Call.{Call}
use Rattle.calls.specs.Shown.{table_calls}
use Rattle.offers.specs.Order.{earlier, in_order_of, clash, clashes, Run, Follows, Rising}
use Rattle.offers.specs.Offers.{sorted}
use Rattle.offers.proofs.OrderLaws.{strict_earlier, run-earlier, accepted-rising, accepted-follows}
use Rattle.load.specs.declared.Load.{Load}
use Rattle.load.specs.Load.{table_of, with_table}
use Rattle.load.specs.Sound.{Sound}
use Rattle.search.specs.Timetable.{timetable_of}
use Rattle.search.proofs.RunLaws.{sound-timed}
use Rattle.calls.specs.declared.CallKey.{CallKey}
use Rattle.withdrawal.specs.Removal.{without_last, has_key, withdrawn}
use Rattle.withdrawal.proofs.LeftLaws.{withdrawn-leaves}
use Rattle.again.specs.Again.{unsearched_of, researched, taken_out}
use Rattle.again.specs.Claims.{NeverClashes}
use Rattle.again.proofs.SortLaws.{ordered-sort}
use Rattle.again.proofs.SoundLaws.{out_cases}
use Rattle.again.proofs.SearchedLaws.{own-sorted, own-clear}

-- x is before z, and they don't clash
abbrev Apart : Call → Call → Type 0
Apart x z = (earlier x z ≡ true) × (clash x z ≡ false)

abbrev AllApart : List Call → Type 0
AllApart [] = Unit {0}
AllApart (x ∷ l) = ((z : Call) → Memᴰ z l → Apart x z) × AllApart l

no-clash : (x z : Call) → earlier x z ≡ true → (Run x z → x.departure ≤ z.arrival) → clash x z ≡ false
unfolding clash
no-clash x z e f = go (eqb x.trip z.trip) refl (eqb x.day z.day) refl
  where
    go : (a : Bool) → eqb x.trip z.trip ≡ a → (b : Bool) → eqb x.day z.day ≡ b
        → (a && (b && (eqb x.sequence z.sequence || ltb z.arrival x.departure))) ≡ false
    go false p b q = refl
    go true p false q = refl
    go true p true q =
        let r : Run x z = record { trip = eqb-true _ _ p; day = eqb-true _ _ q } in
        let less = ltb-true x.sequence z.sequence (sym (run-earlier x z r) ∙ e) in
        rw (ne_eqb x.sequence z.sequence (λ s. omega (arith, less, s)), le-ltb z.arrival x.departure (f r)) refl

all_apart : (l : List Call) → Rising l → Follows l → AllApart l
all_apart [] r f = tt
all_apart (x ∷ l) r f = ((λ z m. (r.0 z m, no-clash x z (r.0 z m) (f.0 z m))), all_apart l r.1 f.1)

apart-ordered : (l : List Call) → AllApart l → Ordered earlier l
apart-ordered [] a = tt
apart-ordered (x ∷ l) a = ((λ y m. strict_earlier.asym x y (a.0 y m).0), apart-ordered l a.1)

apart-clear : (l : List Call) → AllApart l → clashes l ≡ false
apart-clear [] a = refl
apart-clear (x ∷ []) a = refl
apart-clear (x ∷ y ∷ l) a = rw (a.0 y (Memᴰ.head refl)).1 (apart-clear (y ∷ l) a.1)

module _ (p : Call → Bool) where
  mem-without : (l : List Call) (z : Call) → Memᴰ z (without_last p l) → Memᴰ z l
  mem-without [] z m = m
  mem-without (x ∷ l) z m = go (anyb p l) (p x) m (mem-without l z)
    where
      go : (b c : Bool) → Memᴰ z (cond b (x ∷ without_last p l) (cond c l (x ∷ l))) → (Memᴰ z (without_last p l) → Memᴰ z l)
          → Memᴰ z (x ∷ l)
      go true c n ih = by (Memᴰ.cases_cons n)
        where
          by : (z ≡ x) ⊎ Memᴰ z (without_last p l) → Memᴰ z (x ∷ l)
          by (inl e) = Memᴰ.head e
          by (inr k) = Memᴰ.tail (ih k)
      go false true n ih = Memᴰ.tail n
      go false false n ih = n

  apart-without : (l : List Call) → AllApart l → AllApart (without_last p l)
  apart-without [] a = tt
  apart-without (x ∷ l) a = go (anyb p l) (p x) (apart-without l a.1)
    where
      go : (b c : Bool) → AllApart (without_last p l) → AllApart (cond b (x ∷ without_last p l) (cond c l (x ∷ l)))
      go true c ih = ((λ z m. a.0 z (mem-without l z m)), ih)
      go false true ih = a.1
      go false false ih = a

clear_apart : (l : List Call) → AllApart l → clashes (in_order_of l) ≡ false
clear_apart l a = ap clashes (ordered-sort earlier l (apart-ordered l a)) ∙ apart-clear l a

-- the calls of a searched load
own-apart : (l : Load) → Sound l → researched l.limit (unsearched_of l) ≡ record { answer = Ok Taken; load = l }
    → AllApart (table_calls (table_of l))
unfolding timetable_of
own-apart l s e =
    let clear = own-clear l e in
    subst AllApart (sym (own-sorted l e)) (all_apart (in_order_of (table_calls (table_of l)))
    (accepted-rising (table_calls (table_of l)) clear) (accepted-follows (table_calls (table_of l)) clear (sound-timed l s)))

reads : (l : Load) → sorted (timetable_of l) ≡ in_order_of (table_calls (table_of l))
unfolding timetable_of
reads l = refl

left-clear : (l : Load) (k : CallKey) → Sound l → AllApart (table_calls (table_of l))
    → clashes (sorted (timetable_of (taken_out (unsearched_of l) k).load)) ≡ false
unfolding unsearched_of
left-clear l k s a =
    out_cases (unsearched_of l) k (λ r. clashes (sorted (timetable_of r.load)) ≡ false) (λ e. stays) (λ e f. stays)
    (λ g.
    ap clashes (reads (with_table (unsearched_of l) (withdrawn (table_of l) k))
    ∙ ap in_order_of (withdrawn-leaves (table_of l) k s.table g.there).calls)
    ∙ clear_apart (without_last (has_key k) (table_calls (table_of l))) (apart-without (has_key k) (table_calls (table_of l)) a))
  where
    stays : clashes (sorted (timetable_of (unsearched_of l))) ≡ false
    stays = ap clashes (reads (unsearched_of l)) ∙ clear_apart (table_calls (table_of l)) a

pub never-clashes : NeverClashes
never-clashes l k w d = left-clear l k w.sound (own-apart l w.sound (w.own d))
