-- Tests that all fail, and which verdict is given when.
use mathlib.Core.Path.{◌≡◌, refl, sym, ap, subst, ◌∙◌}
use mathlib.Core.Logic.{◌⊎◌, inl, inr}
use mathlib.Core.Bool.{Bool, true, false, cond}
use mathlib.Core.List.{List, [], ◌∷◌, ◌++◌}
use Prim.Native.Nat.{ℕ, ◌≤◌, ◌<◌}
use native.Mathlib.Omega.{arith}
use lib.Dec.{ltb}
use borrow.Author.Tests.{ltb-true, ltb-false, lt-ltb}
use Rattle.std.specs.Prelude.{None, Option, Some}
use Rattle.laws.proofs.Bools.{cond-by, cond-not}
use Rattle.laws.proofs.Options.{some-ne-none}
use Rattle.profile.specs.declared.Journey.{Journey}
use Rattle.best.specs.Best.{kept_of}
use Rattle.connection.specs.declared.Cause.{Cause}
use Rattle.connection.specs.Tests.{first_of, asking}
use Rattle.listing.specs.declared.Verdict.{Verdict}
use Rattle.listing.specs.declared.Verdict.TheVariants.{NotFinished, Late, Listed, AsGood, Beaten, Uncovered, Impossible}
use Rattle.listing.specs.Listed.{place_of, place_as_good, place_over, by_place, listed_in_of, judged_in}
use Rattle.verdict.specs.Verdicts.{is_finished, journey_in, causes, cause_of, judged_by, verdict_of}
use Rattle.verdicts.specs.Claims.{AllFail, AlwaysGiven}

pub free-fails : (ts : List (Bool × Cause)) → first_of ts ≡ None → AllFail ts
free-fails [] e = tt
free-fails (t ∷ ts) e = go t.0 refl e (free-fails ts)
  where
    go : (b : Bool) → t.0 ≡ b → cond b (Some t.1) (first_of ts) ≡ None → (first_of ts ≡ None → AllFail ts) → (t.0 ≡ false) × AllFail ts
    go true q f ih = absurd (some-ne-none t.1 f)
    go false q f ih = (q, ih f)

pub fails-free : (ts : List (Bool × Cause)) → AllFail ts → first_of ts ≡ None
fails-free [] f = refl
fails-free (t ∷ ts) f = cond-not _ _ f.0 ∙ fails-free ts f.1

pub fails-left : (xs ys : List (Bool × Cause)) → AllFail (xs ++ ys) → AllFail xs
fails-left [] ys f = tt
fails-left (x ∷ xs) ys f = (f.0, fails-left xs ys f.1)

pub fails-right : (xs ys : List (Bool × Cause)) → AllFail (xs ++ ys) → AllFail ys
fails-right [] ys f = f
fails-right (x ∷ xs) ys f = fails-right xs ys f.1

pub fails_both : (xs ys : List (Bool × Cause)) → AllFail xs → AllFail ys → AllFail (xs ++ ys)
fails_both [] ys f g = g
fails_both (x ∷ xs) ys f g = (f.0, fails_both xs ys f.1 g)

pub fails-asked : {b : Bool} (ts : List (Bool × Cause)) → b ≡ true → AllFail (asking b ts) → AllFail ts
fails-asked {b} ts e f = subst (λ (x : Bool). AllFail (asking x ts)) e f

pub fails-asking : (b : Bool) (ts : List (Bool × Cause)) → (b ≡ true → AllFail ts) → AllFail (asking b ts)
fails-asking true ts f = f refl
fails-asking false ts f = tt

-- ---- verdicts by their number

unfoldable pub number : Verdict → ℕ
number NotFinished = 0
number Late = 1
number (Listed i) = 2
number (AsGood i) = 3
number (Beaten i) = 4
number Uncovered = 5
number (Impossible x) = 6

-- by the list
abbrev Among : Verdict → Type 0
Among v = (1 < number v) × (number v < 6)

place-number : (said : ℕ → Verdict) (place : Option ℕ) (v : Verdict) → ((n : ℕ) → Among (said n)) → Among v → Among (by_place said place v)
place-number said (Some n) v f w = f n
place-number said None v f w = w

listed-number : (ks : List Journey) (j : Journey) → (1 < number (listed_in_of ks j)) × (number (listed_in_of ks j) < 6)
unfolding number listed_in_of
listed-number ks j =
    place-number Listed (place_of ks j) _ (λ n. (omega arith, omega arith))
    (place-number AsGood (place_as_good ks j) _ (λ n. (omega arith, omega arith))
    (place-number Beaten (place_over ks j) Uncovered (λ n. (omega arith, omega arith)) (omega arith, omega arith)))

-- up to the horizon: late exactly if it is due after it
judged-cases : (ks : List Journey) (h : ℕ) (j : Journey)
    → ((h < j.arrival) × (judged_in ks h j ≡ Late)) ⊎ ((1 < number (judged_in ks h j)) × (number (judged_in ks h j) < 6))
unfolding judged_in
judged-cases ks h j = go (ltb h j.arrival) refl
  where
    go : (b : Bool) → ltb h j.arrival ≡ b → ((h < j.arrival) × (cond b Late (listed_in_of ks j) ≡ Late))
        ⊎ ((1 < number (cond b Late (listed_in_of ks j))) × (number (cond b Late (listed_in_of ks j)) < 6))
    go true e = inl (ltb-true h j.arrival e, refl)
    go false e = inr (listed-number ks j)

module _ (ks : List Journey) (h : ℕ) (j : Journey) where
  -- by whether the search is finished, and by what is told
  abbrev given : Bool → Option Cause → Verdict
  given b t = cond b (judged_by t (judged_in ks h j)) NotFinished

  nothing_said : (b : Bool) (t : Option Cause) → given b t ≡ NotFinished → b ≡ false
  unfolding number
  nothing_said false t e = refl
  nothing_said true (Some x) e = let z : ◌≡◌ {A = ℕ} 6 0 = ap number e in absurd (omega arith)
  nothing_said true None e = go (judged-cases ks h j)
    where
      go : ((h < j.arrival) × (judged_in ks h j ≡ Late)) ⊎ ((1 < number (judged_in ks h j)) × (number (judged_in ks h j) < 6))
          → true ≡ false
      go (inl w) = let z : ◌≡◌ {A = ℕ} 1 0 = ap number (sym w.1 ∙ e) in absurd (omega arith)
      go (inr w) = absurd (omega (arith, ap number e, w.0))

  cause-said : (b : Bool) (t : Option Cause) (x : Cause) → given b t ≡ Impossible x → (b ≡ true) × (t ≡ Some x)
  unfolding number
  cause-said false t x e = let z : ◌≡◌ {A = ℕ} 0 6 = ap number e in absurd (omega arith)
  cause-said true (Some y) x e = (refl, cc)
  cause-said true None x e = go (judged-cases ks h j)
    where
      go : ((h < j.arrival) × (judged_in ks h j ≡ Late)) ⊎ ((1 < number (judged_in ks h j)) × (number (judged_in ks h j) < 6))
          → (true ≡ true) × (None ≡ Some x)
      go (inl w) = let z : ◌≡◌ {A = ℕ} 1 6 = ap number (sym w.1 ∙ e) in absurd (omega arith)
      go (inr w) = absurd (omega (arith, ap number e, w.1))

  late-said : (b : Bool) (t : Option Cause) → given b t ≡ Late → (b ≡ true) × (t ≡ None) × (h < j.arrival)
  unfolding number
  late-said false t e = let z : ◌≡◌ {A = ℕ} 0 1 = ap number e in absurd (omega arith)
  late-said true (Some y) e = let z : ◌≡◌ {A = ℕ} 6 1 = ap number e in absurd (omega arith)
  late-said true None e = go (judged-cases ks h j)
    where
      go : ((h < j.arrival) × (judged_in ks h j ≡ Late)) ⊎ ((1 < number (judged_in ks h j)) × (number (judged_in ks h j) < 6))
          → (true ≡ true) × (◌≡◌ {A = Option Cause} None None) × (h < j.arrival)
      go (inl w) = (refl, refl, w.0)
      go (inr w) = absurd (omega (arith, ap number e, w.0))

  pub uncovered-said : (b : Bool) (t : Option Cause) → given b t ≡ Uncovered → (b ≡ true) × (t ≡ None) × (j.arrival ≤ h)
  unfolding number judged_in
  uncovered-said false t e = let z : ◌≡◌ {A = ℕ} 0 5 = ap number e in absurd (omega arith)
  uncovered-said true (Some y) e = let z : ◌≡◌ {A = ℕ} 6 5 = ap number e in absurd (omega arith)
  uncovered-said true None e = go (ltb h j.arrival) refl e
    where
      go : (b : Bool) → ltb h j.arrival ≡ b → cond b Late (listed_in_of ks j) ≡ Uncovered
          → (true ≡ true) × (◌≡◌ {A = Option Cause} None None) × (j.arrival ≤ h)
      go true q f = let z : ◌≡◌ {A = ℕ} 1 5 = ap number f in absurd (omega arith)
      go false q f = (refl, refl, ltb-false h j.arrival q)

  late-given : (b : Bool) (t : Option Cause) → b ≡ true → t ≡ None → h < j.arrival → given b t ≡ Late
  unfolding judged_in
  late-given b t e f l = (λ i. cond (e i) (judged_by (f i) (judged_in ks h j)) NotFinished) ∙ cond-by _ _ (lt-ltb h j.arrival l)

pub always-given : AlwaysGiven
unfolding verdict_of
always-given l c =
    let ks = kept_of l in
    let j = journey_in l c in
    record {
      not_finished = ((λ e. cond-not _ _ e), nothing_said ks l.horizon j (is_finished l) (cause_of l c));
      impossible = λ x. (
        (λ w. cond-by _ _ w.0 ∙ ap (λ (t : Option Cause). judged_by t (judged_in ks l.horizon j)) w.1),
        cause-said ks l.horizon j (is_finished l) (cause_of l c) x,
      );
      late = (
        (λ w. late-given ks l.horizon j (is_finished l) (cause_of l c) w.0 w.1 w.2),
        late-said ks l.horizon j (is_finished l) (cause_of l c),
      );
      free = (free-fails (causes l c), fails-free (causes l c));
    }
