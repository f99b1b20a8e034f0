-- Best over a complete list is the answer that the offers alone give; so two complete lists answer alike exactly if their offers cover each
-- other.
use Rattle.std.specs.Prelude.{None, Option, Some}
use mathlib.Core.Path.{◌≡◌, refl, sym, ap, ◌∙◌}
use mathlib.Core.Logic.{◌⊎◌, inl, inr, ◌↔◌}
use mathlib.Core.Bool.{Bool, true, false, cond}
use mathlib.Core.List.{List, Memᴰ}
use Prim.Native.Nat.{ℕ, ◌≤◌, ◌<◌, min}
use native.Mathlib.Omega.{arith}
use lib.Dec.{leb, ltb}
use lib.IntN.{ℤ, pos, negsuc}
use borrow.Author.Tests.{leb-true, leb-false, le-leb, ltb-true}
use Rattle.laws.specs.Lists.{filterb}
use Rattle.laws.proofs.Bools.{test}
use Rattle.laws.proofs.Lists.{filterb-mem, mem-filterb}
use Rattle.profile.specs.Figures.{Figures, covers, prefer}
use Rattle.profile.specs.Best.{pick, best, bestℤ, read_by, Covers, Complete}
use Rattle.profile.proofs.FiguresLaws.{covers-arrival, covers-leave, covers-prefer, prefer-trans, prefer-antisym, prefer-arrival}
use Rattle.profile.proofs.FiguresLaws.{prefer-covers}
use Rattle.profile.proofs.PickLaws.{Picked, pick-picked}

module _ {A : Type 0} (fig : A → Figures) where
  -- r is the answer at t, read by g, of a search that was offered `os`: the most preferred of the offers that leave at t or later and are
  -- due by g
  abbrev pub Answers : List A → ℕ → ℕ → Option Figures → Type 0
  Answers os g t None = (o : A) → Memᴰ o os → t ≤ (fig o).leave → (fig o).arrival ≤ g → ⊥
  Answers os g t (Some f) = (b : A) × Memᴰ b os × (fig b ≡ f) × (t ≤ f.leave) × (f.arrival ≤ g)
      × ((o : A) → Memᴰ o os → t ≤ (fig o).leave → (fig o).arrival ≤ g → prefer f (fig o) ≡ true)

  -- what is complete up to h is so up to an earlier w, without those due later
  pub complete-cut : (os ks : List A) (h w : ℕ) → w ≤ h → Complete fig os ks h → Complete fig os (filterb (λ k. leb (fig k).arrival w) ks) w
  complete-cut os ks h w le c = record {
    kept = λ k m. c.kept k (filterb-mem (λ k. leb (fig k).arrival w) ks m).0;
    covered = λ o m d. let (k, n, x) = c.covered o m (omega arith) in
        (k, mem-filterb (λ k. leb (fig k).arrival w) n (le-leb (fig k).arrival w (omega (arith, covers-arrival (fig k) (fig o) x))), x);
    ahead = c.ahead;
  }

  module _ (os ks : List A) (h : ℕ) (c : Complete fig os ks h) where
    -- a kept one that leaves at t or later and covers o
    there : (g t : ℕ) → g ≤ h → (o : A) → Memᴰ o os → t ≤ (fig o).leave → (fig o).arrival ≤ g
        → (k : A) × Memᴰ k (filterb (λ k. leb t (fig k).leave) ks) × (covers (fig k) (fig o) ≡ true)
    there g t le o m l d =
        let (k, n, x) = c.covered o m (omega arith) in
        (k, mem-filterb (λ k. leb t (fig k).leave) n (le-leb t (fig k).leave (omega (arith, covers-leave (fig k) (fig o) x))), x)

    read-answers : (g t : ℕ) → g ≤ h → (r : Option A) → Picked fig (filterb (λ k. leb t (fig k).leave) ks) r
        → Answers os g t (read_by fig g r)
    read-answers g t le None w = λ o m l d. let (k, n, x) = there g t le o m l d in w k n
    read-answers g t le (Some b) (n, w) = by (leb (fig b).arrival g) refl
      where
        over : (o : A) → Memᴰ o os → t ≤ (fig o).leave → (fig o).arrival ≤ g → prefer (fig b) (fig o) ≡ true
        over o m l d =
            let (k, n', x) = there g t le o m l d in prefer-trans (fig b) (fig k) (fig o) (w k n') (covers-prefer (fig k) (fig o) x)

        by : (x : Bool) → leb (fig b).arrival g ≡ x → Answers os g t (cond x (Some (fig b)) None)
        by true e =
            let (i, l) = filterb-mem (λ k. leb t (fig k).leave) ks n in
            (b, c.kept b i, refl, leb-true t (fig b).leave l, leb-true (fig b).arrival g e, over)
        by false e =
            λ o m l d. let p = prefer-arrival (fig b) (fig o) (over o m l d) in let q = leb-false (fig b).arrival g e in omega arith

    pub best-answers : (g t : ℕ) → g ≤ h → Answers os g t (read_by fig g (best fig ks h t))
    best-answers g t le = by (ltb h t) refl
      where
        by : (x : Bool) → ltb h t ≡ x → Answers os g t (read_by fig g (cond x None (pick fig (filterb (λ k. leb t (fig k).leave) ks))))
        by true e = λ o m l d. let q = ltb-true h t e in omega (arith, c.ahead o m)
        by false e =
            read-answers g t le (pick fig (filterb (λ k. leb t (fig k).leave) ks)) (pick-picked fig (filterb (λ k. leb t (fig k).leave) ks))

  -- no offer leaves after g and is due by g, so after g the answer is none
  past : (os : List A) → ((o : A) → Memᴰ o os → (fig o).leave ≤ (fig o).arrival) → (g t : ℕ) → g < t → (r : Option Figures)
      → Answers os g t r → r ≡ None
  past os a g t lt None w = refl
  past os a g t lt (Some f) (b, m, e, l, d, u) = let q : f.leave ≤ f.arrival = rw e at (a b m) in absurd (omega arith)

  -- what leaves at t or later and is due by g is covered by an offer of the other list, which does so too
  reach : (g t : ℕ) (os os' : List A) → Covers fig g os os' → (b : A) → Memᴰ b os → (f : Figures) → fig b ≡ f → t ≤ f.leave → f.arrival ≤ g
      → (o : A) × Memᴰ o os' × (t ≤ (fig o).leave) × ((fig o).arrival ≤ g) × (covers (fig o) f ≡ true)
  reach g t os os' c b m f e l d =
      let (o, n, x) = c b m (rw e d) in
      let y : covers (fig o) f ≡ true = rw e at x in
      (o, n, omega (arith, covers-leave (fig o) f y), omega (arith, covers-arrival (fig o) f y), y)

  -- two answers for one second are the same, if the offers cover each other
  same_answer : (g t : ℕ) (os os' : List A) → Covers fig g os os' → Covers fig g os' os → (r r' : Option Figures) → Answers os g t r
      → Answers os' g t r' → r ≡ r'
  same_answer g t os os' c c' None None w w' = refl
  same_answer g t os os' c c' None (Some f) w (b, m, e, l, d, u) =
      let (o, n, l', d', x) = reach g t os' os c' b m f e l d in absurd (w o n l' d')
  same_answer g t os os' c c' (Some f) None (b, m, e, l, d, u) w' =
      let (o, n, l', d', x) = reach g t os os' c b m f e l d in absurd (w' o n l' d')
  same_answer g t os os' c c' (Some f) (Some f') (b, m, e, l, d, u) (b', m', e', l', d', u') =
      let (o, n, lo, do', x) = reach g t os os' c b m f e l d in
      let (o', n', lo', do'', x') = reach g t os' os c' b' m' f' e' l' d' in
      ap {B = Option Figures} Some (prefer-antisym f f'
      (prefer-trans f (fig o') f' (u o' n' lo' do'') (covers-prefer (fig o') f' x'))
      (prefer-trans f' (fig o) f (u' o n lo do') (covers-prefer (fig o) f x)))

  -- an answer that is one of both lists covers
  covers-answer : (g : ℕ) (os os' : List A) (o : A) → Memᴰ o os → (fig o).arrival ≤ g → (r : Option Figures) → Answers os g (fig o).leave r
      → Answers os' g (fig o).leave r
      → (o' : A) × Memᴰ o' os' × (covers (fig o') (fig o) ≡ true)
  covers-answer g os os' o m d None w w' = absurd (w o m (omega arith) d)
  covers-answer g os os' o m d (Some f) (b, n, e, l, a, u) (b', n', e', l', a', u') =
      (b', n', rw e' (prefer-covers f (fig o) (u o m (omega arith) d) l))

  -- two complete lists answer alike at every second, up to the earlier horizon, exactly if the offers due by it cover each other
  pub alike-complete : (os os' ks ks' : List A) (h h' : ℕ) → Complete fig os ks h → Complete fig os' ks' h'
      → ((t : ℕ) → read_by fig (min h h') (best fig ks h t) ≡ read_by fig (min h h') (best fig ks' h' t))
      ↔ (Covers fig (min h h') os os' × Covers fig (min h h') os' os)
  alike-complete os os' ks ks' h h' c c' = (
    λ s. (
      λ o m d. covers-answer g os os' o m d (read_by fig g (best fig ks h (fig o).leave)) (one (fig o).leave)
          (rw (s (fig o).leave) (two (fig o).leave)),
      λ o m d. covers-answer g os' os o m d (read_by fig g (best fig ks' h' (fig o).leave)) (two (fig o).leave)
          (rw (← (s (fig o).leave)) (one (fig o).leave)),
    ),
    λ x t. same_answer g t os os' x.0 x.1 (read_by fig g (best fig ks h t)) (read_by fig g (best fig ks' h' t)) (one t) (two t),
  )
    where
      g : ℕ
      g = min h h'

      one : (t : ℕ) → Answers os g t (read_by fig g (best fig ks h t))
      one t = best-answers os ks h c g t (omega arith)

      two : (t : ℕ) → Answers os' g t (read_by fig g (best fig ks' h' t))
      two t = best-answers os' ks' h' c' g t (omega arith)

  -- the same, asked at the integers of any set that has each second up to the earlier horizon: the i64, say
  pub alike-asked : (Asked : ℤ → Type 0) (os os' ks ks' : List A) (h h' : ℕ) → ((n : ℕ) → n ≤ min h h' → Asked (pos n))
      → Complete fig os ks h → Complete fig os' ks' h'
      → ((t : ℤ) → Asked t → read_by fig (min h h') (bestℤ fig ks h t) ≡ read_by fig (min h h') (bestℤ fig ks' h' t))
      ↔ (Covers fig (min h h') os os' × Covers fig (min h h') os' os)
  alike-asked Asked os os' ks ks' h h' asks c c' = (λ s. two (one s), λ x t a. back x t)
    where
      g : ℕ
      g = min h h'

      none_after : (n : ℕ) → g < n → read_by fig g (best fig ks h n) ≡ read_by fig g (best fig ks' h' n)
      none_after n e =
          past os c.ahead g n e (read_by fig g (best fig ks h n)) (best-answers os ks h c g n (omega arith))
          ∙ sym (past os' c'.ahead g n e (read_by fig g (best fig ks' h' n)) (best-answers os' ks' h' c' g n (omega arith)))

      one : ((t : ℤ) → Asked t → read_by fig g (bestℤ fig ks h t) ≡ read_by fig g (bestℤ fig ks' h' t)) → (n : ℕ)
          → read_by fig g (best fig ks h n) ≡ read_by fig g (best fig ks' h' n)
      one s n = by (test (leb n g))
        where
          by : (leb n g ≡ true) ⊎ (leb n g ≡ false) → read_by fig g (best fig ks h n) ≡ read_by fig g (best fig ks' h' n)
          by (inl e) = s (pos n) (asks n (leb-true n g e))
          by (inr e) = none_after n (leb-false n g e)

      two : ((n : ℕ) → read_by fig g (best fig ks h n) ≡ read_by fig g (best fig ks' h' n)) → Covers fig g os os' × Covers fig g os' os
      two = (alike-complete os os' ks ks' h h' c c').0

      back : Covers fig g os os' × Covers fig g os' os → (t : ℤ) → read_by fig g (bestℤ fig ks h t) ≡ read_by fig g (bestℤ fig ks' h' t)
      back x (pos n) = (alike-complete os os' ks ks' h h' c c').1 x n
      back x (negsuc n) = refl
