-- Steps one after the other, and a loop over a list whose turns each take the steps that their element gives: from the first state all of
-- it leads where from the present one what is left leads. The state is that of a search, or that with the joins left, and the answers of
-- each loop cite these laws by the facts of its own goals. `see`: what is read of a state; `rest`: what is left of the list.
use mathlib.Core.Path.{◌≡◌, refl, sym, ap, ◌∙◌}
use mathlib.Core.Bool.{true, false}
use mathlib.Core.Logic.{◌⊎◌, inl, inr}
use mathlib.Core.List.Memᴰ
use mathlib.Core.List.{List, [], ◌∷◌, ◌++◌, append-nil, Memᴰ}
use Prim.Native.Nat.{ℕ, zero, suc, ◌+◌, ◌-◌, ◌≤◌, ◌<◌, min}
use native.Mathlib.Omega.{arith}
use lib.Dec.{leb}
use borrow.Author.Tests.{leb-true, leb-false}
use Rattle.laws.specs.Lists.{concat_map, foldl, span}
use Rattle.laws.proofs.Bools.{test}
use Rattle.laws.proofs.Folds.{foldl-append, concat_map-append}
use Rattle.laws.proofs.Places.{span-cons, span-nil}
use Rattle.rides.specs.Offered.{After}

-- ---- steps one after the other

module _ {S X E : Type 0} {see : S → X} {step : X → E → X} where
  pub nothing : {s : S} → After see step s s []
  nothing = record { is = refl }

  pub both : {s t u : S} {xs ys : List E} → After see step s t xs → After see step t u ys → After see step s u (xs ++ ys)
  both {s} {xs = xs} {ys = ys} a b =
      record { is = b.is ∙ ap (λ (x : X). foldl step x ys) a.is ∙ sym (foldl-append step (see s) xs ys) }

  -- a state of which the same is read may stand for the last, or for the first
  pub seen_last : {s t t' : S} {es : List E} → see t' ≡ see t → After see step s t es → After see step s t' es
  seen_last e w = record { is = e ∙ w.is }

  pub seen_first : {s s' t : S} {es : List E} → see s' ≡ see s → After see step s' t es → After see step s t es
  seen_first {es = es} e w = record { is = w.is ∙ ap (λ (x : X). foldl step x es) e }

-- ---- a loop

pub record Rest {S X E A : Type 0} (see : S → X) (step : X → E → X) (first now : S) (g : A → List E) (all rest : List A) : Type 0 where
  pub left : foldl step (see now) (concat_map g rest) ≡ foldl step (see first) (concat_map g all)
  pub within : (a : A) → Memᴰ a rest → Memᴰ a all

module _ {S X E A : Type 0} {see : S → X} {step : X → E → X} {g : A → List E} where
  pub rest-same : {s : S} {all rest : List A} → rest ≡ all → Rest see step s s g all rest
  rest-same e = rw e (record { left = refl; within = λ a m. m })

  -- a `for` over an iterator, of which `left` is what it has left: its own two conditions always hold
  pub for-start : {I : Type 0} (left : I → List A) {s : S} {it items : I} {all : List A} → it ≡ items → left items ≡ all
      → Unit {0} × Unit {0} × Rest see step s s g all (left it)
  for-start left e f = (tt, tt, rest-same (ap left e ∙ f))

  -- these steps come next, and then those of what is left
  rest-on : {first now next : S} {all rest rest' : List A} (xs : List E) → concat_map g rest ≡ xs ++ concat_map g rest'
      → ((a : A) → Memᴰ a rest' → Memᴰ a rest) → Rest see step first now g all rest → After see step now next xs
      → Rest see step first next g all rest'
  rest-on {now = now} {rest' = rest'} xs e h w o =
      record {
        left =
            ap (λ (x : X). foldl step x (concat_map g rest')) o.is ∙ sym (foldl-append step (see now) xs (concat_map g rest'))
            ∙ ap (λ (ys : List E). foldl step (see now) ys) (sym e) ∙ w.left;
        within = λ a m. w.within a (h a m);
      }

  -- a comes next
  module _ {first now : S} {all rest rest' : List A} {a : A} (e : rest ≡ a ∷ rest') (w : Rest see step first now g all rest) where
    pub rest-has : Memᴰ a all
    rest-has = w.within a (rw e (Memᴰ.head refl))

    module _ {next : S} (o : After see step now next (g a)) where
      pub rest-turn : Rest see step first next g all rest'
      rest-turn = rest-on (g a) (ap (concat_map g) e) (λ b m. rw e (Memᴰ.tail m)) w o

      pub for-turn : Unit {0} × Unit {0} × Rest see step first next g all rest'
      for-turn = (tt, tt, rest-turn)

  module _ {first now : S} {all rest : List A} where
    -- none comes next
    pub rest-none : rest ≡ [] → Rest see step first now g all rest → After see step first now (concat_map g all)
    rest-none e w = record { is = ap (λ (ys : List A). foldl step (see now) (concat_map g ys)) (sym e) ∙ w.left }

    -- what is left would change nothing
    pub rest-stays : foldl step (see now) (concat_map g rest) ≡ see now → Rest see step first now g all rest
        → After see step first now (concat_map g all)
    rest-stays e w = record { is = sym e ∙ w.left }

-- ---- a loop over the calls, one by one or by blocks

span-append : (i a b : ℕ) {c k : ℕ} → c ≡ a + b → k ≡ i + a → span i c ≡ span i a ++ span k b
span-append i zero b {c} {k} e f =
    let p : c ≡ b = omega (arith, e) in
    let q : k ≡ i = omega (arith, f) in
    rw (p, q) refl
span-append i (suc a) b {c} {k} e f =
    let p : c ≡ suc (a + b) = omega (arith, e) in
    rw p (ap (λ (xs : List ℕ). i ∷ xs) (span-append (suc i) a b refl (omega (arith, f))))

-- those of a block from i, and those behind it
span-block : (w i k n : ℕ) → k ≡ i + w → span i (n - i) ≡ span i (min n (i + w) - i) ++ span k (n - k)
span-block w i k n e = go (test (leb k n))
  where
    go : (leb k n ≡ true) ⊎ (leb k n ≡ false) → span i (n - i) ≡ span i (min n (i + w) - i) ++ span k (n - k)
    go (inl t) =
        let h = leb-true k n t in
        let q : min n (i + w) - i ≡ w = omega (arith, e, h) in
        rw q (span-append i w (n - k) (omega (arith, e, h)) e)
    go (inr t) =
        let h = leb-false k n t in
        let q : min n (i + w) ≡ n = omega (arith, e, h) in
        rw (q, span-nil k n (omega (arith, h))) (sym (append-nil (span i (n - i))))

module _ {S X E : Type 0} {see : S → X} {step : X → E → X} {g : ℕ → List E} {first now : S} {all : List ℕ} {j n : ℕ} where
  pub calls-turn : {next : S} → j < n → Rest see step first now g all (span j (n - j)) → After see step now next (g j)
      → Rest see step first next g all (span (j + 1) (n - (j + 1)))
  calls-turn h w o = rest-turn (span-cons _ _ h) w o

  pub calls-none : n ≤ j → Rest see step first now g all (span j (n - j)) → After see step first now (concat_map g all)
  calls-none h w = rest-none (span-nil _ _ h) w

module _ {S X E : Type 0} {see : S → X} {step : X → E → X} {g : ℕ → List E} {first now : S} {all : List ℕ} (j n : ℕ) where
  -- a block from j, and k behind it
  pub block-turn : {next : S} (w k : ℕ) → k ≡ j + w → Rest see step first now g all (span j (n - j))
      → After see step now next (concat_map g (span j (min n (j + w) - j))) → Rest see step first next g all (span k (n - k))
  block-turn w k e r o =
      let xs = span j (min n (j + w) - j) in
      let ys = span k (n - k) in
      let p = span-block w j k n e in
      rest-on (concat_map g xs) (ap (concat_map g) p ∙ concat_map-append g xs ys) (λ a m. rw p (Memᴰ.append_right xs m)) r o
