-- Of the rules that apply, the last of those of the highest rank is chosen.
use Rattle.std.specs.Prelude.{None, Option, Some}
use mathlib.Core.Path.{◌≡◌, refl, sym, ap, ◌∙◌, subst}
use mathlib.Core.Logic.{◌⊎◌, inl, inr}
use mathlib.Core.Bool.{Bool, true, false, cond, true≢false}
use mathlib.Core.List.Memᴰ
use mathlib.Core.List.{List, [], ◌∷◌, ◌++◌, append_assoc, append-nil, Memᴰ}
use Prim.Native.Nat.{◌≤◌, ◌<◌}
use native.Mathlib.Omega.{arith}
use borrow.Author.Tests.{leb-true, leb-false}
use Rattle.laws.specs.Lists.{foldl}
use Rattle.rules.specs.declared.Rule.{Rule}
use Rattle.transfer.specs.declared.Ends.{Ends}
use Rattle.transfer.specs.Choice.{applies, rank, better, read}
use Rattle.transfer.specs.Promises.{Best, Right, ChosenRight}

-- ---- the order of rules, by rank: all that the proof asks of `better`

better-least : (e : Ends) (old new : Rule) → better e old new ≡ true → rank e old ≤ rank e new
better-least e old new h = omega (arith, leb-true)

better-not : (e : Ends) (old new : Rule) → better e old new ≡ false → rank e new < rank e old
better-not e old new h = omega (arith, leb-false)

-- ---- one more rule

right-open : (e : Ends) (l : List Rule) (x : Rule) (b : Bool) → applies e x ≡ b → Right e l None
    → Right e (l ++ x ∷ []) (cond b (Some x) None)
right-open e l x true a h =
    record {
      before = l;
      behind = [];
      split = refl;
      fits = a;
      older = λ q m f. absurd (true≢false (sym f ∙ h q m));
      newer = λ q m. absurd (Memᴰ.not-nil m);
    }
right-open e l x false a h = λ q m. go q (Memᴰ.append_cases l m)
  where
    go : (q : Rule) → Memᴰ q l ⊎ Memᴰ q (x ∷ []) → applies e q ≡ false
    go q (inl m) = h q m
    go q (inr m) = rw (Memᴰ.eq_of_singleton m) a

-- a rule that is passed over
right-keep : (e : Ends) (l : List Rule) (x r : Rule) → (applies e x ≡ true → rank e x < rank e r) → Best e l r → Best e (l ++ x ∷ []) r
right-keep e l x r f h = record {
  before = h.before;
  behind = h.behind ++ x ∷ [];
  split = ap (λ (k : List Rule). k ++ x ∷ []) h.split ∙ append_assoc h.before (r ∷ h.behind) (x ∷ []);
  fits = h.fits;
  older = h.older;
  newer = λ q m. go q (Memᴰ.append_cases h.behind m);
}
  where
    go : (q : Rule) → Memᴰ q h.behind ⊎ Memᴰ q (x ∷ []) → applies e q ≡ true → rank e q < rank e r
    go q (inl m) t = h.newer q m t
    go q (inr m) t = let s = Memᴰ.eq_of_singleton m in subst (λ (p : Rule). rank e p < rank e r) (sym s) (f (rw s at t))

right_by : (e : Ends) (l : List Rule) (x r : Rule) (a b : Bool) → applies e x ≡ a → better e r x ≡ b → Best e l r
    → Right e (l ++ x ∷ []) (cond a (cond b (Some x) (Some r)) (Some r))
right_by e l x r false b ea eb h = right-keep e l x r (λ t. absurd (true≢false (sym t ∙ ea))) h
right_by e l x r true false ea eb h = right-keep e l x r (λ t. better-not e r x eb) h
right_by e l x r true true ea eb h =
    record { before = l; behind = []; split = refl; fits = ea; older = older; newer = λ q m. absurd (Memᴰ.not-nil m) }
  where
    tail : (q : Rule) → (q ≡ r) ⊎ Memᴰ q h.behind → applies e q ≡ true → rank e q ≤ rank e x
    tail q (inl s) t = subst (λ (p : Rule). rank e p ≤ rank e x) (sym s) (better-least e r x eb)
    tail q (inr m) t = omega (arith, h.newer q m t, better-least e r x eb)

    parts : (q : Rule) → Memᴰ q h.before ⊎ Memᴰ q (r ∷ h.behind) → applies e q ≡ true → rank e q ≤ rank e x
    parts q (inl m) t = omega (arith, h.older q m t, better-least e r x eb)
    parts q (inr m) t = tail q (Memᴰ.cases_cons m) t

    older : (q : Rule) → Memᴰ q l → applies e q ≡ true → rank e q ≤ rank e x
    older q m t = parts q (Memᴰ.append_cases h.before (subst (λ (k : List Rule). Memᴰ q k) h.split m)) t

right-step : (e : Ends) (l : List Rule) (x : Rule) (s : Option Rule) → Right e l s → Right e (l ++ x ∷ []) (read e s x)
right-step e l x None h = right-open e l x (applies e x) refl h
right-step e l x (Some r) h = right_by e l x r (applies e x) (better e r x) refl refl h

right-fold : (e : Ends) (l m : List Rule) (s : Option Rule) → Right e l s → Right e (l ++ m) (foldl (read e) s m)
right-fold e l [] s h = subst (λ (k : List Rule). Right e k s) (sym (append-nil l)) h
right-fold e l (x ∷ m) s h =
    subst (λ (k : List Rule). Right e k (foldl (read e) (read e s x) m)) (append_assoc l (x ∷ []) m)
    (right-fold e (l ++ x ∷ []) m (read e s x) (right-step e l x s h))

pub chosen-right : ChosenRight
chosen-right e l = right-fold e [] l None (λ q m. absurd (Memᴰ.not-nil m))

-- no rule that applies ranks above the best
pub best-most : (e : Ends) (l : List Rule) (r : Rule) → Best e l r → (q : Rule) → Memᴰ q l → applies e q ≡ true → rank e q ≤ rank e r
best-most e l r h q m t = go (Memᴰ.append_cases h.before (subst (λ (k : List Rule). Memᴰ q k) h.split m))
  where
    tail : (q ≡ r) ⊎ Memᴰ q h.behind → rank e q ≤ rank e r
    tail (inl s) = subst (λ (p : Rule). rank e q ≤ rank e p) s (omega arith)
    tail (inr k) = omega (arith, h.newer q k t)

    go : Memᴰ q h.before ⊎ Memᴰ q (r ∷ h.behind) → rank e q ≤ rank e r
    go (inl k) = h.older q k t
    go (inr k) = tail (Memᴰ.cases_cons k)

pub best-taken : (e : Ends) (l : List Rule) (r : Rule) → Best e l r → Memᴰ r l
best-taken e l r h = subst (Memᴰ r) (sym h.split) (Memᴰ.append_right h.before (Memᴰ.head refl))
