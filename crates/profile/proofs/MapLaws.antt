-- A search over f of the offers is f of the search over the offers, where f leaves an offer's figures as they are.
use mathlib.Core.Path.{◌≡◌, refl, sym, ap, ◌∙◌}
use mathlib.Core.Logic.{◌⊎◌, inl, inr}
use mathlib.Core.Bool.{Bool, true, false, not, cond}
use mathlib.Core.List.Memᴰ
use mathlib.Core.List.{List, [], ◌∷◌, ◌++◌, map, map-append, Memᴰ}
use Prim.Native.Nat.{ℕ, ◌-◌}
use lib.Dec.{leb, ltb}
use lib.ListN.{length, length-map}
use Rattle.laws.specs.Lists.{filterb, anyb, foldl}
use Rattle.laws.proofs.Lists.{filterb-mem}
use Rattle.laws.proofs.Maps.{filterb-map, anyb-map}
use Rattle.profile.specs.Figures.{Figures, covers, covᶠ, dueᶠ}
use Rattle.profile.specs.Kept.{SearchState, going, refused, latest, settle, offer, run, map_st}
use Rattle.profile.proofs.KeptLaws.{settle-elim}

module _ {A B : Type 0} (f : A → B) (fig : A → Figures) (fig' : B → Figures) where
  -- the figures of each of the list are those of f of it
  abbrev pub Same : List A → Type 0
  Same xs = (x : A) → Memᴰ x xs → fig' (f x) ≡ fig x

  latest-map : (xs : List A) → Same xs → latest (dueᶠ fig') (map f xs) ≡ latest (dueᶠ fig) xs
  latest-map [] e = refl
  latest-map (x ∷ xs) e =
      let d : dueᶠ fig' (f x) ≡ dueᶠ fig x = ap (λ (g : Figures). g.arrival) (e x (Memᴰ.head refl)) in
      rw (d, latest-map xs (λ y m. e y (Memᴰ.tail m)))

  module _ (cap floor : ℕ) where
    settle-map : (ks : List A) (h l : ℕ) → Same ks
        → settle (dueᶠ fig') cap floor (map f ks) h l ≡ map_st f (settle (dueᶠ fig) cap floor ks h l)
    settle-map ks h l e =
        rw (
          length-map ks f,
          latest-map ks e,
          filterb-map f (λ k. leb (dueᶠ fig k) g) (λ k. leb (dueᶠ fig' k) g) ks
              (λ x m. ap (λ (q : Figures). leb q.arrival g) (e x m)),
        )
        (go (leb (length ks) cap) (ltb g floor))
      where
        g : ℕ
        g = latest (dueᶠ fig) ks - 1

        go : (b c : Bool) → cond b (going (map f ks) h l) (cond c refused (going (map f (filterb (λ k. leb (dueᶠ fig k) g) ks)) g 1))
            ≡ map_st f (cond b (going ks h l) (cond c refused (going (filterb (λ k. leb (dueᶠ fig k) g) ks) g 1)))
        go true c = refl
        go false true = refl
        go false false = refl

    -- the journeys kept are offers
    kept_same : (ks : List A) (o : A) → Same ks → fig' (f o) ≡ fig o → Same (filterb (λ k. not (covᶠ fig o k)) ks ++ o ∷ [])
    kept_same ks o e eo x m = go (Memᴰ.append_cases (filterb (λ k. not (covᶠ fig o k)) ks) m)
      where
        go : Memᴰ x (filterb (λ k. not (covᶠ fig o k)) ks) ⊎ Memᴰ x (o ∷ []) → fig' (f x) ≡ fig x
        go (inl n) = e x (filterb-mem (λ k. not (covᶠ fig o k)) ks n).0
        go (inr n) = let q : x ≡ o = Memᴰ.eq_of_singleton n in rw q eo

    offer-map : (ks : List A) (h l : ℕ) (o : A) → Same ks → fig' (f o) ≡ fig o
        → offer (covᶠ fig') (dueᶠ fig') cap floor (going (map f ks) h l) (f o)
        ≡ map_st f (offer (covᶠ fig) (dueᶠ fig) cap floor (going ks h l) o)
    offer-map ks h l o e eo =
        rw (any_same, rest-same, settle-map (filterb (λ k. not (covᶠ fig o k)) ks ++ o ∷ []) h l (kept_same ks o e eo), due-same)
        (go (ltb h (dueᶠ fig o)) (anyb (λ k. covᶠ fig k o) ks))
      where
        due-same : ltb h (dueᶠ fig' (f o)) ≡ ltb h (dueᶠ fig o)
        due-same = ap (λ (q : Figures). ltb h q.arrival) eo

        any_same : anyb (λ k. covᶠ fig' k (f o)) (map f ks) ≡ anyb (λ k. covᶠ fig k o) ks
        any_same = anyb-map f (λ k. covᶠ fig k o) (λ k. covᶠ fig' k (f o)) ks
            (λ x m. ap (λ (q : Figures). covers q (fig' (f o))) (e x m) ∙ ap (λ (q : Figures). covers (fig x) q) eo)

        rest-same : filterb (λ k. not (covᶠ fig' (f o) k)) (map f ks) ++ f o ∷ [] ≡ map f (filterb (λ k. not (covᶠ fig o k)) ks ++ o ∷ [])
        rest-same =
            ap (λ (r : List B). r ++ f o ∷ []) (filterb-map f (λ k. not (covᶠ fig o k)) (λ k. not (covᶠ fig' (f o) k)) ks
            (λ x m. ap (λ (q : Figures). not (covers (fig' (f o)) q)) (e x m) ∙ ap (λ (q : Figures). not (covers q (fig x))) eo))
            ∙ sym (map-append f (filterb (λ k. not (covᶠ fig o k)) ks) (o ∷ []))

        go : (b c : Bool)
            → cond b (going (map f ks) h l)
            (cond c (going (map f ks) h l) (map_st f (settle (dueᶠ fig) cap floor (filterb (λ k. not (covᶠ fig o k)) ks ++ o ∷ []) h l)))
            ≡ map_st f (cond b (going ks h l)
            (cond c (going ks h l) (settle (dueᶠ fig) cap floor (filterb (λ k. not (covᶠ fig o k)) ks ++ o ∷ []) h l)))
        go true c = refl
        go false true = refl
        go false false = refl

    -- what holds of each kept holds after an offer of which it holds
    abbrev pub Held : SearchState A → Type 0
    Held (going ks h l) = Same ks
    Held refused = Unit {0}

    settle-held : (ks : List A) (h l : ℕ) → Same ks → Held (settle (dueᶠ fig) cap floor ks h l)
    settle-held ks h l e =
        settle-elim (dueᶠ fig) cap floor Held ks h l (λ few. e) (λ more. tt)
        (λ more low x m. e x (filterb-mem (λ k. leb (dueᶠ fig k) (latest (dueᶠ fig) ks - 1)) ks m).0)

    offer-held : (ks : List A) (h l : ℕ) (o : A) → Same ks → fig' (f o) ≡ fig o
        → Held (offer (covᶠ fig) (dueᶠ fig) cap floor (going ks h l) o)
    offer-held ks h l o e eo = go (ltb h (dueᶠ fig o)) (anyb (λ k. covᶠ fig k o) ks)
      where
        go : (b c : Bool)
            → Held (cond b (going ks h l)
            (cond c (going ks h l) (settle (dueᶠ fig) cap floor (filterb (λ k. not (covᶠ fig o k)) ks ++ o ∷ []) h l)))
        go true c = e
        go false true = e
        go false false = settle-held (filterb (λ k. not (covᶠ fig o k)) ks ++ o ∷ []) h l (kept_same ks o e eo)

    -- from any state of which it holds
    pub fold-map : (s : SearchState A) (os : List A) → Held s → Same os
        → foldl (offer (covᶠ fig') (dueᶠ fig') cap floor) (map_st f s) (map f os)
        ≡ map_st f (foldl (offer (covᶠ fig) (dueᶠ fig) cap floor) s os)
    fold-map s [] w e = refl
    fold-map refused (o ∷ os) w e = fold-map refused os tt (λ x m. e x (Memᴰ.tail m))
    fold-map (going ks h l) (o ∷ os) w e =
        ap (λ (s : SearchState B). foldl (offer (covᶠ fig') (dueᶠ fig') cap floor) s (map f os))
        (offer-map ks h l o w (e o (Memᴰ.head refl)))
        ∙ fold-map (offer (covᶠ fig) (dueᶠ fig) cap floor (going ks h l) o) os (offer-held ks h l o w (e o (Memᴰ.head refl)))
        (λ x m. e x (Memᴰ.tail m))

    pub run-map : (h l : ℕ) (os : List A) → Same os
        → run (covᶠ fig') (dueᶠ fig') cap floor h l (map f os) ≡ map_st f (run (covᶠ fig) (dueᶠ fig) cap floor h l os)
    run-map h l os e = fold-map (going [] h l) os (λ x m. absurd (Memᴰ.not-nil m)) e
