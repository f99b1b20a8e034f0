-- The call that a withdrawal takes, as the program finds it, is the one that is stated; and there is no other.
use Rattle.std.specs.Prelude.{None, Option, Some}
use Prim.Native.Nat.{ℕ, ◌≤◌, ◌<◌}
use mathlib.Core.Path.{◌≡◌, refl, sym, ap, subst, ◌∙◌}
use mathlib.Core.Logic.{◌⊎◌}
use mathlib.Core.Bool.{Bool, true, false, not, cond, ◌||◌, true≢false, false≢true}
use mathlib.Core.List.{List, [], ◌∷◌, ◌++◌, Memᴰ}
use lib.Dec.{eqb, ltb, leb}
use borrow.Author.Tests.{eqb-true, eq-eqb}
use Rattle.laws.specs.Lists.{anyb}
use Rattle.laws.proofs.Bools.{and-true, and-true-left, and-true-right, not-true, of-not}
use Rattle.laws.proofs.Lists.{anyb-mem, anyb-not}
use Rattle.settings.specs.declared.Settings.{Settings}
use Rattle.settings.specs.Settings.{canonical_of}
use Rattle.calls.specs.declared.CallInput.{CallInput}
use Rattle.calls.specs.declared.Call.{Call}
use Rattle.calls.specs.Calls.{window}
use Rattle.calls.specs.declared.CallKey.{CallKey}
use Rattle.withdrawal.specs.Removal.{without_last, has_key, key_known, shown_key, named_in, LastGoes}
use Rattle.withdrawal.proofs.LeftLaws.{goes, none-gone}
use Rattle.load.specs.FillStep.{FillStep, stop, call, rule, service, exception}
use Rattle.comparison.specs.Taken.{calls_in, State, keeping}
use Rattle.comparison.specs.Withdrawal.{HasKey, InTable, NoneSuch, Withdrawn}
use Rattle.comparison.proofs.NthLaws.{calls-append}
use Rattle.comparison.proofs.WindowLaws.{seen-shown, window-seen}
use Rattle.comparison.proofs.AdmittedLaws.{window_same}
use Rattle.comparison.proofs.Deciding.{Decides, dec-not-ltb, dec-not-leb, dec-nand}
use Rattle.comparison.proofs.AfterLaws.{named_filling, call-in}
use Rattle.comparison.proofs.SettingLaws.{Opened}

-- ---- the key

pub dec-key : (k : CallKey) → Decides (not (key_known k)) (65535 ≤ k.trip ⊎ 2 < k.day)
unfolding key_known
dec-key k = dec-nand (ltb k.trip 65535) (leb k.day 2) (dec-not-ltb k.trip 65535) (dec-not-leb k.day 2)

key_in : (k : CallKey) (c : Call) → has_key k c ≡ true → (c.trip ≡ k.trip) × (c.day ≡ k.day) × (c.sequence ≡ k.sequence)
unfolding has_key
key_in k c e =
    let f = and-true-right (eqb c.trip k.trip) _ e in (
      eqb-true c.trip k.trip (and-true-left _ _ e),
      eqb-true c.day k.day (and-true-left _ _ f),
      eqb-true c.sequence k.sequence (and-true-right (eqb c.day k.day) _ f),
    )

key-out : (k : CallKey) (c : Call) → c.trip ≡ k.trip → c.day ≡ k.day → c.sequence ≡ k.sequence → has_key k c ≡ true
unfolding has_key
key-out k c a b d = and-true _ _ (eq-eqb c.trip k.trip a) (and-true _ _ (eq-eqb c.day k.day b) (eq-eqb c.sequence k.sequence d))

-- ---- of the steps that were taken

module _ (z : Settings) (h : ℕ) (k : CallKey) where
  abbrev p : FillStep → Bool
  p = named_filling z h k

  pub any-calls : (fs : List FillStep) → anyb p fs ≡ anyb (named_in z h k) (calls_in fs)
  any-calls [] = refl
  any-calls (stop id name parent i ∷ fs) = any-calls fs
  any-calls (call name i ∷ fs) = ap (λ (b : Bool). named_in z h k i || b) (any-calls fs)
  any-calls (rule i ∷ fs) = any-calls fs
  any-calls (service name weekdays start end ∷ fs) = any-calls fs
  any-calls (exception name date kind ∷ fs) = any-calls fs

  -- what is no call stays
  other-stays : (x : FillStep) (fs : List FillStep) → calls_in (x ∷ []) ≡ [] → ((gs : List FillStep) → calls_in (x ∷ gs) ≡ calls_in gs)
      → calls_in (without_last p fs) ≡ without_last (named_in z h k) (calls_in fs) → (b : Bool) → anyb p fs ≡ b
      → calls_in (cond b (x ∷ without_last p fs) (x ∷ fs)) ≡ without_last (named_in z h k) (calls_in fs)
  other-stays x fs n f ih true e = f (without_last p fs) ∙ ih
  other-stays x fs n f ih false e = f fs ∙ sym (none-gone (named_in z h k) (calls_in fs) (sym (any-calls fs) ∙ e))

  pub calls-without : (fs : List FillStep) → calls_in (without_last p fs) ≡ without_last (named_in z h k) (calls_in fs)
  calls-without [] = refl
  calls-without (stop id name parent i ∷ fs) = other-stays (stop id name parent i) fs refl (λ gs. refl) (calls-without fs) (anyb p fs) refl
  calls-without (rule i ∷ fs) = other-stays (rule i) fs refl (λ gs. refl) (calls-without fs) (anyb p fs) refl
  calls-without (service name weekdays start end ∷ fs) =
      other-stays (service name weekdays start end) fs refl (λ gs. refl) (calls-without fs) (anyb p fs) refl
  calls-without (exception name date kind ∷ fs) =
      other-stays (exception name date kind) fs refl (λ gs. refl) (calls-without fs) (anyb p fs) refl
  calls-without (call name i ∷ fs) = go (anyb p fs) (anyb (named_in z h k) (calls_in fs)) (any-calls fs) (named_in z h k i)
      (calls-without fs)
    where
      go : (b c : Bool) → b ≡ c → (d : Bool) → calls_in (without_last p fs) ≡ without_last (named_in z h k) (calls_in fs)
          → calls_in (cond b (call name i ∷ without_last p fs) (cond d fs (call name i ∷ fs)))
          ≡ cond c (i ∷ without_last (named_in z h k) (calls_in fs)) (cond d (calls_in fs) (i ∷ calls_in fs))
      go true true e d ih = ap {B = List CallInput} (λ r. i ∷ r) ih
      go true false e d ih = absurd (true≢false e)
      go false true e d ih = absurd (false≢true e)
      go false false e true ih = refl
      go false false e false ih = refl

-- ---- the test decides what is stated

module _ (s : Settings) (o : Opened s) (h : ℕ) (k : CallKey) where
  abbrev z : Settings
  z = canonical_of s

  shown-such : (i : CallInput) (v : Option Call) → window s h i ≡ v → shown_key k v ≡ true → HasKey k i × InTable s h i
  shown-such i (Some c) e q =
      let w = window-seen s h i c e in
      let (a, b, d) = key_in k c q in
      (record { trip = sym w.trip ∙ a; day = sym w.day ∙ b; sequence = sym w.sequence ∙ d }, (c, w))
  shown-such i None e q = absurd (false≢true q)

  same-named : (i : CallInput) → named_in z h k i ≡ shown_key k (window s h i)
  same-named i = ap (shown_key k) (window_same s h i)

  pub dec-such : (i : CallInput) → i.day ≤ 2 → Decides (named_in z h k i) (HasKey k i × InTable s h i)
  dec-such i d = (
    λ e. shown-such i (window s h i) refl (sym (same-named i) ∙ e),
    λ (q, (c, w)). same-named i ∙ ap (shown_key k) (seen-shown s h i (o.clock i.day d) c w)
        ∙ key-out k c (w.trip ∙ q.trip) (w.day ∙ q.day) (w.sequence ∙ q.sequence),
  )

  pub dec-none : (is : List CallInput) → ((j : CallInput) → Memᴰ j is → j.day ≤ 2)
      → Decides (not (anyb (named_in z h k) is)) (NoneSuch s h k is)
  dec-none is days = (
    λ e i m q t. true≢false (sym ((dec-such i (days i m)).1 (q, t)) ∙ anyb-not (named_in z h k) (of-not (anyb (named_in z h k) is) e) m),
    λ f. ap not (not-true (anyb (named_in z h k) is)
        (λ e. let (i, m, q) = anyb-mem (named_in z h k) is e in let (a, b) = (dec-such i (days i m)).0 q in f i m a b)),
  )

  -- the last of them goes
  pub gone-is : (t : State) → t.horizon ≡ h → ((j : CallInput) → Memᴰ j (calls_in t.taken) → j.day ≤ 2)
      → anyb (named_filling z h k) t.taken ≡ true
      → Withdrawn s t k (keeping t (without_last (named_filling z h k) t.taken))
  gone-is t eh days e = by w.gone refl w.passes
    where
      w : LastGoes (named_filling z h k) t.taken
      w = goes (named_filling z h k) t.taken e

      by : (g : FillStep) → w.gone ≡ g → named_filling z h k g ≡ true
          → Withdrawn s t k (keeping t (without_last (named_filling z h k) t.taken))
      by (stop id name parent i) q x = absurd (false≢true x)
      by (rule i) q x = absurd (false≢true x)
      by (service name weekdays start end) q x = absurd (false≢true x)
      by (exception name date kind) q x = absurd (false≢true x)
      by (call name i) q x =
          let whole : t.taken ≡ w.before ++ call name i ∷ w.behind = w.whole ∙ ap (λ (g : FillStep). w.before ++ g ∷ w.behind) q in
          let split : calls_in t.taken ≡ calls_in w.before ++ i ∷ calls_in w.behind =
          ap calls_in whole ∙ calls-append w.before (call name i ∷ w.behind) in
          let here : Memᴰ i (calls_in t.taken) = subst (Memᴰ i) (sym split)
          (mathlib.Core.List.Memᴰ.append_right (calls_in w.before) (mathlib.Core.List.Memᴰ.head refl)) in
          let behind : (j : CallInput) → Memᴰ j (calls_in w.behind) → j.day ≤ 2 =
          λ j m. days j (subst (Memᴰ j) (sym split)
          (mathlib.Core.List.Memᴰ.append_right (calls_in w.before) (mathlib.Core.List.Memᴰ.tail m))) in
          let such = (dec-such i (days i here)).0 x in
          record {
            before = w.before;
            name = name;
            gone = i;
            behind = w.behind;
            whole = whole;
            key = such.0;
            there = subst (λ (g : ℕ). InTable s g i) (sym eh) such.1;
            last = subst (λ (g : ℕ). NoneSuch s g k (calls_in w.behind)) (sym eh)
                ((dec-none (calls_in w.behind) behind).0 (ap not (sym (any-calls z h k w.behind) ∙ w.last)));
            left = ap (keeping t) w.left;
          }

-- ---- one call goes

abbrev behind_of : List FillStep → List FillStep
behind_of [] = []
behind_of (x ∷ xs) = xs

abbrev front_of : FillStep → List FillStep → FillStep
front_of d [] = d
front_of d (x ∷ xs) = x

-- a list is split at the last that has the property in one way
module _ (P : FillStep → Type 0) where
  one_last : (b b' : List FillStep) (x x' : FillStep) (c c' : List FillStep) → b ++ x ∷ c ≡ b' ++ x' ∷ c' → P x → P x'
      → ((y : FillStep) → Memᴰ y c → P y → ⊥) → ((y : FillStep) → Memᴰ y c' → P y → ⊥) → b ++ c ≡ b' ++ c'
  one_last [] [] x x' c c' e v v' n n' = ap behind_of e
  one_last [] (y ∷ b') x x' c c' e v v' n n' = absurd
      (n x' (subst (Memᴰ x') (sym (ap behind_of e)) (mathlib.Core.List.Memᴰ.append_right b' (mathlib.Core.List.Memᴰ.head refl))) v')
  one_last (y ∷ b) [] x x' c c' e v v' n n' = absurd
      (n' x (subst (Memᴰ x) (ap behind_of e) (mathlib.Core.List.Memᴰ.append_right b (mathlib.Core.List.Memᴰ.head refl))) v)
  one_last (y ∷ b) (y' ∷ b') x x' c c' e v v' n n' =
      let f : y ≡ y' = ap (front_of y) e in
      let g = one_last b b' x x' c c' (ap behind_of e) v v' n n' in
      λ j. f j ∷ g j

abbrev SuchFilling : Settings → ℕ → CallKey → FillStep → Type 0
SuchFilling s h k (stop id name parent i) = ⊥
SuchFilling s h k (call name i) = HasKey k i × InTable s h i
SuchFilling s h k (rule i) = ⊥
SuchFilling s h k (service name weekdays start end) = ⊥
SuchFilling s h k (exception name date kind) = ⊥

none-behind : (s : Settings) (h : ℕ) (k : CallKey) (fs : List FillStep) → NoneSuch s h k (calls_in fs) → (y : FillStep) → Memᴰ y fs
    → SuchFilling s h k y → ⊥
none-behind s h k fs n (stop id name parent i) m v = v
none-behind s h k fs n (call name i) m (q, t) = n i (call-in fs name i m) q t
none-behind s h k fs n (rule i) m v = v
none-behind s h k fs n (service name weekdays start end) m v = v
none-behind s h k fs n (exception name date kind) m v = v

pub one-withdrawn : (s : Settings) (t : State) (k : CallKey) (u v : State) → Withdrawn s t k u → Withdrawn s t k v → u ≡ v
one-withdrawn s t k u v a b =
    a.left
    ∙ ap (keeping t) (one_last (SuchFilling s t.horizon k) a.before b.before (call a.name a.gone) (call b.name b.gone) a.behind b.behind
    (sym a.whole ∙ b.whole) (a.key, a.there) (b.key, b.there)
    (none-behind s t.horizon k a.behind a.last) (none-behind s t.horizon k b.behind b.last))
    ∙ sym b.left
