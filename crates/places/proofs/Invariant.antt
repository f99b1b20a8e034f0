-- What holds of the representatives and the places once some stops are placed, for any test `same` and order `lt`.
use Rattle.std.specs.Prelude.{None, Option, Some}
use Prim.Native.Nat.{ℕ, zero, suc, ◌<◌}
use mathlib.Core.Path.{◌≡◌, refl, sym, ap, ◌∙◌, subst}
use mathlib.Core.Logic.{◌⊎◌, inl, inr, ◌≢◌}
use mathlib.Core.Bool.{Bool, true, false, cond, true≢false}
use mathlib.Core.List.Memᴰ
use mathlib.Core.List.{List, [], ◌∷◌, ◌++◌, append_assoc, append-nil, Memᴰ}
use native.Mathlib.Omega.{arith}
use lib.ListN.{length, get_or, set, replicate, length-set}
use lib.Seq.{get_or-set_same, get_or-set_other}
use Rattle.laws.specs.Lists.{foldl}
use Rattle.laws.specs.Sort.{Ordered, Strict}
use Rattle.places.specs.Places.{Groups, first_match, placed, place, no_groups}
use Rattle.places.proofs.Orders.{Apart, ordered-mid, ordered-snoc, apart-mid}
use Rattle.places.proofs.First.{Least, Right, self, first-right}

module _ (same : ℕ → ℕ → Bool) (keyed : ℕ → Bool) (lt : ℕ → ℕ → Bool) (o : Strict lt) where
  -- r is the place of k: a representative, k itself or one that matches it, not above it, and none that matches is below it
  pub record Has (g : Groups) (k r : ℕ) : Type 0 where
    pub at : get_or g.places k 65535 ≡ r
    pub rep : Memᴰ r g.reps
    pub fits : (r ≡ k) ⊎ (same k r ≡ true)
    pub before : lt k r ≡ false
    pub least : (q : ℕ) → Memᴰ q g.reps → same k q ≡ true → lt q r ≡ false

  pub record Good (done : List ℕ) (g : Groups) : Type 0 where
    pub long : length g.places ≡ 128
    pub order : Ordered lt g.reps
    pub own : (r : ℕ) → Memᴰ r g.reps → get_or g.places r 65535 ≡ r
    pub from : (r : ℕ) → Memᴰ r g.reps → Memᴰ r done × (keyed r ≡ true)
    pub each : (k : ℕ) → Memᴰ k done → keyed k ≡ true → (r : ℕ) × Has g k r
    pub others : (k : ℕ) → (Memᴰ k done → keyed k ≡ true → ⊥) → get_or g.places k 65535 ≡ 65535

  get_d-same : (n k d : ℕ) → get_or (replicate n d) k d ≡ d
  get_d-same n k d = go n k
    where
      go : (m j : ℕ) → get_or (replicate m d) j d ≡ d
      go zero j = refl
      go (suc m) zero = refl
      go (suc m) (suc j) = go m j

  good_none : Good [] no_groups
  good_none = record {
    long = refl;
    order = tt;
    own = λ r m. absurd (Memᴰ.not-nil m);
    from = λ r m. absurd (Memᴰ.not-nil m);
    each = λ k m. absurd (Memᴰ.not-nil m);
    others = λ k n. get_d-same 128 k 65535;
  }

  -- ---- one more stop, i, that was not placed before; what was placed before it is not above it

  module _ (done : List ℕ) (g : Groups) (i : ℕ) (h : Good done g) (small : i < 128) (fresh : Memᴰ i done → ⊥)
      (late : (r : ℕ) → Memᴰ r done → lt i r ≡ false) where
    split : {k : ℕ} → Memᴰ k (done ++ i ∷ []) → Memᴰ k done ⊎ (k ≡ i)
    split {k} m = go (Memᴰ.append_cases done m)
      where
        go : Memᴰ k done ⊎ Memᴰ k (i ∷ []) → Memᴰ k done ⊎ (k ≡ i)
        go (inl j) = inl j
        go (inr j) = inr (Memᴰ.eq_of_singleton j)

    old : {k : ℕ} → Memᴰ k done → k ≢ i
    old m e = fresh (subst (λ (j : ℕ). Memᴰ j done) e m)

    kept : (x k : ℕ) → k ≢ i → get_or (set g.places i x) k 65535 ≡ get_or g.places k 65535
    kept x k n = get_or-set_other g.places i k x 65535 n

    here : (x : ℕ) → get_or (set g.places i x) i 65535 ≡ x
    here x = get_or-set_same g.places i x 65535 (omega (arith, h.long))

    -- a stop with no key
    good-skip : keyed i ≡ false → Good (done ++ i ∷ []) g
    good-skip t = record {
      long = h.long;
      order = h.order;
      own = h.own;
      from = λ r m. (Memᴰ.append_left (i ∷ []) (h.from r m).0, (h.from r m).1);
      each = λ k m q. each k q (split m);
      others = λ k n. h.others k (λ m q. n (Memᴰ.append_left (i ∷ []) m) q);
    }
      where
        each : (k : ℕ) → keyed k ≡ true → Memᴰ k done ⊎ (k ≡ i) → (r : ℕ) × Has g k r
        each k q (inl m) = h.each k m q
        each k q (inr e) = absurd (true≢false (sym q ∙ ap keyed e ∙ t))

    module _ (t : keyed i ≡ true) where
      -- a stop that matches the representative r
      good-join : (r : ℕ) → Least (same i) lt o g.reps r → Good (done ++ i ∷ []) (placed g i (Some r))
      good-join r f = record {
        long = length-set g.places i r ∙ h.long;
        order = h.order;
        own = λ q m. kept r q (old (h.from q m).0) ∙ h.own q m;
        from = λ q m. (Memᴰ.append_left (i ∷ []) (h.from q m).0, (h.from q m).1);
        each = λ k m q. each k q (split m);
        others =
            λ k n. kept r k (λ e. n (Memᴰ.append_right done (Memᴰ.head e)) (ap keyed e ∙ t))
            ∙ h.others k (λ m q. n (Memᴰ.append_left (i ∷ []) m) q);
      }
        where
          each : (k : ℕ) → keyed k ≡ true → Memᴰ k done ⊎ (k ≡ i) → (x : ℕ) × Has (placed g i (Some r)) k x
          each k q (inl m) =
              let w = h.each k m q in
              (w.0, record { at = kept r k (old m) ∙ w.1.at; rep = w.1.rep; fits = w.1.fits; before = w.1.before; least = w.1.least })
          each k q (inr e) = (
            r,
            subst (λ (j : ℕ). Has (placed g i (Some r)) j r) (sym e)
                (record { at = here r; rep = f.one; fits = inr f.fits; before = late r (h.from r f.one).0; least = f.least }),
          )

      -- a stop that matches none
      good-own : ((q : ℕ) → Memᴰ q g.reps → same i q ≡ false) → Good (done ++ i ∷ []) (placed g i None)
      good-own f = record {
        long = length-set g.places i i ∙ h.long;
        order = ordered-snoc lt g.reps i h.order (λ r m. late r (h.from r m).0);
        own = λ q m. own q (Memᴰ.append_cases g.reps m);
        from = λ q m. from q (Memᴰ.append_cases g.reps m);
        each = λ k m q. each k q (split m);
        others =
            λ k n. kept i k (λ e. n (Memᴰ.append_right done (Memᴰ.head e)) (ap keyed e ∙ t))
            ∙ h.others k (λ m q. n (Memᴰ.append_left (i ∷ []) m) q);
      }
        where
          own : (q : ℕ) → Memᴰ q g.reps ⊎ Memᴰ q (i ∷ []) → get_or (set g.places i i) q 65535 ≡ q
          own q (inl m) = kept i q (old (h.from q m).0) ∙ h.own q m
          own q (inr m) = let e = Memᴰ.eq_of_singleton m in subst (λ (j : ℕ). get_or (set g.places i i) j 65535 ≡ j) (sym e) (here i)

          from : (q : ℕ) → Memᴰ q g.reps ⊎ Memᴰ q (i ∷ []) → Memᴰ q (done ++ i ∷ []) × (keyed q ≡ true)
          from q (inl m) = (Memᴰ.append_left (i ∷ []) (h.from q m).0, (h.from q m).1)
          from q (inr m) = (Memᴰ.append_right done m, ap keyed (Memᴰ.eq_of_singleton m) ∙ t)

          -- the new representative is not below those of the stops before it
          least : (k r : ℕ) → Has g k r → (q : ℕ) → same k q ≡ true → Memᴰ q g.reps ⊎ Memᴰ q (i ∷ []) → lt q r ≡ false
          least k r w q s (inl m) = w.least q m s
          least k r w q s (inr m) = ap (λ (j : ℕ). lt j r) (Memᴰ.eq_of_singleton m) ∙ late r (h.from r w.rep).0

          mine : (q : ℕ) → same i q ≡ true → Memᴰ q g.reps ⊎ Memᴰ q (i ∷ []) → lt q i ≡ false
          mine q s (inl m) = absurd (true≢false (sym s ∙ f q m))
          mine q s (inr m) = ap (λ (j : ℕ). lt j i) (Memᴰ.eq_of_singleton m) ∙ self (same i) lt o i

          each : (k : ℕ) → keyed k ≡ true → Memᴰ k done ⊎ (k ≡ i) → (x : ℕ) × Has (placed g i None) k x
          each k q (inl m) =
              let w = h.each k m q in (
                w.0,
                record {
                  at = kept i k (old m) ∙ w.1.at;
                  rep = Memᴰ.append_left (i ∷ []) w.1.rep;
                  fits = w.1.fits;
                  before = w.1.before;
                  least = λ y j s. least k w.0 w.1 y s (Memᴰ.append_cases g.reps j);
                },
              )
          each k q (inr e) = (
            i,
            subst (λ (j : ℕ). Has (placed g i None) j i) (sym e)
                (record {
                  at = here i;
                  rep = Memᴰ.append_right g.reps (Memᴰ.head refl);
                  fits = inl refl;
                  before = self (same i) lt o i;
                  least = λ y j s. mine y s (Memᴰ.append_cases g.reps j);
                }),
          )

      by-found : (f : Option ℕ) → Right (same i) lt o g.reps f → Good (done ++ i ∷ []) (placed g i f)
      by-found (Some r) w = good-join r w
      by-found None w = good-own w

    good_more : Good (done ++ i ∷ []) (place same keyed g i)
    good_more = go (keyed i) refl
      where
        go : (b : Bool) → keyed i ≡ b → Good (done ++ i ∷ []) (cond b (placed g i (first_match (same i) g.reps)) g)
        go true t = by-found t (first_match (same i) g.reps) (first-right (same i) lt o g.reps h.order)
        go false t = good-skip t

  good-fold : (left done : List ℕ) (g : Groups) → Good done g → Ordered lt (done ++ left) → Apart (done ++ left)
      → ((k : ℕ) → Memᴰ k left → k < 128)
      → Good (done ++ left) (foldl (place same keyed) g left)
  good-fold [] done g h w a small = subst (λ (l : List ℕ). Good l g) (sym (append-nil done)) h
  good-fold (i ∷ left) done g h w a small =
      let step : Good (done ++ i ∷ []) (place same keyed g i) =
      good_more done g i h (small i (Memᴰ.head refl)) (apart-mid done i left a) (λ r m. ordered-mid lt done i left w m) in
      let e = append_assoc done (i ∷ []) left in
      subst (λ (l : List ℕ). Good l (foldl (place same keyed) (place same keyed g i) left)) e
      (good-fold left (done ++ i ∷ []) (place same keyed g i) step (subst (Ordered lt) (sym e) w) (subst Apart (sym e) a)
      (λ k m. small k (Memᴰ.tail m)))

  pub good-all : (s : List ℕ) → Ordered lt s → Apart s → ((k : ℕ) → Memᴰ k s → k < 128) → Good s (foldl (place same keyed) no_groups s)
  good-all s w a small = good-fold s [] no_groups good_none w a small
