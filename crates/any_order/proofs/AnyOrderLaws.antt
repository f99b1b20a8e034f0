-- Request 14: the same calls in two orders.
use Prim.Native.Nat.{ℕ, suc, ◌+◌, ◌≤◌}
use mathlib.Core.Path.{◌≡◌, sym, ap, subst, ◌∙◌}
use mathlib.Core.Bool.{Bool, false, not}
use mathlib.Core.List.Permᴰ
use mathlib.Core.List.{List, [], ◌∷◌, ◌++◌, map, Permᴰ}
use native.Mathlib.Omega.{arith}
use lib.Dec.{ltb}
use borrow.Author.Tests.{le-ltb}
use lib.ListN.{length, take, drop}
use Rattle.steps.proofs.PermLaws.{perm-length}
use Rattle.refusal.specs.First.{is_refused}
use Rattle.calls.specs.declared.Call.{Call}
use Rattle.load.specs.declared.Load.{Load}
use Rattle.load.specs.Steps.{Opening, opened}
use Rattle.load.specs.FillStep.{FillStep, filled, filled_by}
use Rattle.load.specs.Sound.{Sound}
use Rattle.load.proofs.SoundLaws.{open-sound, fill-keeps-sound}
use Rattle.any_order.specs.Calls.{Named, called, answers, answer_first, cramped}
use Rattle.any_order.specs.Alike.{with_stored, OnlyOrder}
use Rattle.any_order.specs.AnyOrder.{InAnyOrder, ProvisoAlike, AnyOrder, RoomForAll}
use Rattle.any_order.proofs.PermLaws.{perm-map, perm-concat, perm-any}
use Rattle.any_order.proofs.FateLaws.{Fate, sent, out, goes, fate, said}
use Rattle.any_order.proofs.RunLaws.{into, entering, answered, cramped-over, answered-alone, made_of, Grown, grown}
use Rattle.any_order.proofs.SearchLaws.{search-order-unread, limited-order-unread}

-- ---- two loads that grew alike

only-order : (l a b : Load) (ks js : List Call) (x y : Bool) → Permᴰ ks js → x ≡ y → Grown l ks x a → Grown l js y b → OnlyOrder a b
only-order l a b ks js x y p e g h =
    let n = l.call_count in
    let many : n + length js ≡ n + length ks = ap (λ (z : ℕ). n + z) (sym (perm-length p)) in
    let count : a.call_count ≡ n + length ks = ap (λ (m : Load). m.call_count) g.is in
    let other : b ≡ made_of l b.calls (n + length ks) x = h.is ∙ (λ k. made_of l b.calls (many k) (sym e k)) in
    record {
      others = other ∙ sym (ap (λ (m : Load). with_stored m b.calls) g.is);
      stored = subst (λ (z : ℕ). Permᴰ (take z a.calls) (take z b.calls)) (sym count)
          (subst (λ (z : List Call). Permᴰ z (take (n + length ks) b.calls)) (sym g.calls)
          (subst (λ (z : List Call). Permᴰ (take n l.calls ++ ks) z) (sym (ap (λ (z : ℕ). take z b.calls) (sym many) ∙ h.calls))
          (Permᴰ.append_left (take n l.calls) p)));
      unused = ap (λ (z : ℕ). drop z a.calls) count
          ∙ g.rest
          ∙ ap (λ (z : ℕ). drop z l.calls) (sym many)
          ∙ sym h.rest
          ∙ ap (λ (z : ℕ). drop z b.calls) (many ∙ sym count);
    }

-- ---- of every sound load

module _ (l : Load) (s : Sound l) (xs ys : List Named) (p : Permᴰ xs ys) where
  enter-alike : Permᴰ (entering l xs) (entering l ys)
  unfolding entering
  enter-alike = perm-concat (λ (c : Named). into (fate l c)) p

  answer-alike : answered l xs ≡ answered l ys
  unfolding answered
  answer-alike = perm-any (λ (c : Named). not (is_refused (said (fate l c)))) p

  pub cramped-alike : cramped l xs ≡ cramped l ys
  cramped-alike = cramped-over xs l s ∙ ap (λ (z : ℕ). ltb 512 (l.call_count + z)) (perm-length enter-alike) ∙ sym (cramped-over ys l s)

  pub in-any-order : cramped l xs ≡ false → InAnyOrder l xs ys
  in-any-order e =
      let f : cramped l ys ≡ false = sym cramped-alike ∙ e in
      let x = answered-alone xs l s e in
      let y = answered-alone ys l s f in
      let o = only-order l (called l xs) (called l ys) (entering l xs) (entering l ys) _ _ enter-alike answer-alike (grown xs l s e)
      (grown ys l s f) in
      record {
        alone = x;
        alone' = y;
        each = subst (λ (z : List _). Permᴰ z (answers l ys)) (sym x)
            (subst (λ (z : List _). Permᴰ (map (answer_first l) xs) z) (sym y) (perm-map (answer_first l) p));
        before = o;
        searched = search-order-unread (called l xs) (called l ys) o;
        limited = λ n. limited-order-unread n (called l xs) (called l ys) o;
      }

-- ---- of every load that an opening and steps make

filled-sound : (fs : List FillStep) (l : Load) → Sound l → Sound (filled_by l fs)
filled-sound [] l s = s
filled-sound (x ∷ fs) l s = filled-sound fs (filled l x).load (fill-keeps-sound l x s)

pub made-sound : (o : Opening) (fs : List FillStep) → Sound (filled_by (opened o) fs)
made-sound o fs = filled-sound fs (opened o) (open-sound o)

pub proviso-alike : ProvisoAlike
proviso-alike o fs xs ys p = cramped-alike (filled_by (opened o) fs) (made-sound o fs) xs ys p

pub any_order : AnyOrder
any_order o fs xs ys p e = in-any-order (filled_by (opened o) fs) (made-sound o fs) xs ys p e

-- no more go in than are handed in
enter-few : (l : Load) (cs : List Named) → length (entering l cs) ≤ length cs
unfolding entering
enter-few l [] = omega arith
enter-few l (c ∷ cs) = go (fate l c) (enter-few l cs)
  where
    go : (f : Fate) → length (entering l cs) ≤ length cs → length (into f ++ entering l cs) ≤ suc (length cs)
    go (sent r) h = omega arith
    go out h = omega arith
    go (goes k) h = omega arith

pub room-for-all : RoomForAll
room-for-all o fs cs h =
    let l = filled_by (opened o) fs in
    let few = enter-few l cs in
    cramped-over cs l (made-sound o fs) ∙ le-ltb 512 (l.call_count + length (entering l cs)) (omega arith)
