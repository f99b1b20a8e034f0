-- The answers are a function of the list: a call fits in one way, a step leaves one state, and a list is answered in one way.
use Rattle.refusal.specs.First.{Answer}
use Rattle.std.specs.Prelude.{None, Option, Some}
use Prim.Native.Nat.{ℕ, ◌-◌, ◌/◌}
use mathlib.Core.Path.{◌≡◌, refl, sym, ap, subst, ◌∙◌}
use mathlib.Core.Bool.{Bool}
use Rattle.laws.proofs.Options.{none-ne-some}
use mathlib.Core.List.{List, ◌∷◌}
use native.Mathlib.Omega.{arith}
use lib.ListN.{length}
use Rattle.settings.specs.declared.Settings.{Settings}
use Rattle.calls.specs.declared.CallInput.{CallInput}
use Rattle.calls.specs.declared.Call.{Call}
use Rattle.load.specs.FillStep.{call}
use Rattle.steps.specs.Steps.{Step}
use Rattle.comparison.specs.Window.{Shown}
use Rattle.comparison.specs.Taken.{calls_in, State, more, up_to, limited_to, shut}
use Rattle.comparison.specs.Feeds.{feed_of}
use Rattle.comparison.specs.Events.{Within}
use Rattle.comparison.specs.Horizon.{Fits, outside, room, full, cut}
use Rattle.comparison.specs.Causes.{causes_of}
use Rattle.comparison.specs.Runs as runs
use Rattle.comparison.specs.Runs.{Again, in_full, within, After, sent_back, a_stop, a_rule, a_call, resting, a_service, an_exception}
use Rattle.comparison.specs.Runs.{a_withdrawal, a_search, a_limited, Runs, end, step}
use Rattle.comparison.proofs.WindowLaws.{one-shown}
use Rattle.comparison.proofs.GoneLaws.{one-withdrawn}
use Rattle.comparison.proofs.Deciding.{one-first}
use Rattle.comparison.proofs.WithinLaws.{one-within}

-- one answer, one horizon and one mark
pub record Alike (a b : Answer) (g k m n : ℕ) : Type 0 where
  pub answer : a ≡ b
  pub horizon : g ≡ k
  pub mark : m ≡ n

same_length : (s : Settings) (h : ℕ) (is : List CallInput) (cs ds : List Call) → Shown s h is cs → Shown s h is ds → length cs ≡ length ds
same_length s h is cs ds v w = ap length (one-shown s h is cs ds v w)

pub one-fits : (s : Settings) (is : List CallInput) (i : CallInput) (h l : ℕ) (a b : Answer) (g k m n : ℕ) → Fits s is i h l a g m
    → Fits s is i h l b k n → Alike a b g k m n
one-fits s is i h l _ _ _ _ _ _ (outside f) (outside f') = record { answer = refl; horizon = refl; mark = refl }
one-fits s is i h l _ _ _ _ _ _ (outside f) (room {c = c} v w q) = absurd (f c v)
one-fits s is i h l _ _ _ _ _ _ (outside f) (full {c = c} v w q r) = absurd (f c v)
one-fits s is i h l _ _ _ _ _ _ (outside f) (cut {c = c} v w q r z) = absurd (f c v)
one-fits s is i h l _ _ _ _ _ _ (room {c = c} v w q) (outside f) = absurd (f c v)
one-fits s is i h l _ _ _ _ _ _ (room v w q) (room v' w' q') = record { answer = refl; horizon = refl; mark = refl }
one-fits s is i h l _ _ _ _ _ _ (room v w q) (full v' w' q' r) = absurd (omega (arith, same_length s h is _ _ w w'))
one-fits s is i h l _ _ _ _ _ _ (room v w q) (cut v' w' q' r z) = absurd (omega (arith, same_length s h is _ _ w w'))
one-fits s is i h l _ _ _ _ _ _ (full {c = c} v w q r) (outside f) = absurd (f c v)
one-fits s is i h l _ _ _ _ _ _ (full v w q r) (room v' w' q') = absurd (omega (arith, same_length s h is _ _ w w'))
one-fits s is i h l _ _ _ _ _ _ (full v w q r) (full v' w' q' r') = record { answer = refl; horizon = refl; mark = refl }
one-fits s is i h l _ _ _ _ _ _ (full v w q r) (cut v' w' q' r' z) = absurd (omega arith)
one-fits s is i h l _ _ _ _ _ _ (cut {c = c} v w q r z) (outside f) = absurd (f c v)
one-fits s is i h l _ _ _ _ _ _ (cut v w q r z) (room v' w' q') = absurd (omega (arith, same_length s h is _ _ w w'))
one-fits s is i h l _ _ _ _ _ _ (cut v w q r z) (full v' w' q' r') = absurd (omega arith)
one-fits s is i h l a b g k m n (cut v w q r z) (cut v' w' q' r' z') = one-fits s is i (h - h / 4) 1 a b g k m n z z'

-- one search again
abbrev limit_in : ℕ → Option ℕ → ℕ
limit_in d None = d
limit_in d (Some n) = n

pub one_again : (s : Settings) (t u v : State) → Again s t u → Again s t v → u ≡ v
one_again s t _ _ (in_full e) (in_full q) = refl
one_again s t _ _ (in_full e) (within {n = n} q w) = absurd (none-ne-some n (sym e ∙ q))
one_again s t _ _ (within {n = n} q w) (in_full e) = absurd (none-ne-some n (sym e ∙ q))
one_again s t _ _ (within {n = n} {tested = k} {os = os} {finishes = f} e w) (within {n = m} {tested = i} {os = ps} {finishes = g} q x) =
    let r : n ≡ m = ap (limit_in n) (sym e ∙ q) in
    let z = (one-within (feed_of s t) n os ps k i f g w (subst (λ (y : ℕ). Within (feed_of s t) y ps i g) (sym r) x)).finishes in
    λ j. limited_to (r j) (z j) t

pub one-after : (s : Settings) (t : State) (x : Step) (a : Answer) (u v : State) → After s t x a u → After s t x a v → u ≡ v
one-after s t _ _ _ _ sent_back sent_back = refl
one-after s t _ _ _ _ a_stop a_stop = refl
one-after s t _ _ _ _ a_rule a_rule = refl
one-after s t _ _ _ _ (a_call {name = name} {i = i} {h = h} {m = m} {u = u} f g) (a_call {h = k} {m = n} {u = v} f' g') =
    let w = one-fits s (calls_in t.taken) i t.horizon t.limits _ _ h k m n f f' in
    let q : up_to (more t (call name i)) h m ≡ up_to (more t (call name i)) k n =
    λ j. up_to (more t (call name i)) (w.horizon j) (w.mark j) in
    ap shut (one_again s (up_to (more t (call name i)) k n) u v (subst (λ (x : State). Again s x u) q g) g')
one-after s t _ _ _ _ (resting r) (resting r') = refl
one-after s t _ _ _ _ (resting r) (runs.outside n f g) = absurd (n r)
one-after s t _ _ _ _ (runs.outside n f g) (resting r) = absurd (n r)
one-after s t _ _ _ _ (runs.outside {i = i} {h = h} {m = m} {u = u} r f g) (runs.outside {h = k} {m = n} {u = v} r' f' g') =
    let w = one-fits s (calls_in t.taken) i t.horizon t.limits _ _ h k m n f f' in
    let q : up_to t h m ≡ up_to t k n = λ j. up_to t (w.horizon j) (w.mark j) in
    ap shut (one_again s (up_to t k n) u v (subst (λ (x : State). Again s x u) q g) g')
one-after s t _ _ _ _ a_service a_service = refl
one-after s t _ _ _ _ an_exception an_exception = refl
one-after s t _ _ u v (a_withdrawal {k = k} {u = x} w g) (a_withdrawal {u = y} w' g') =
    one_again s y u v (subst (λ (z : State). Again s z u) (one-withdrawn s t k x y w w') g) g'
one-after s t _ _ _ _ a_search a_search = refl
one-after s t _ _ _ _ (a_limited {n = n} {tested = k} {os = os} {finishes = f} w) (a_limited {tested = i} {os = ps} {finishes = g} x) =
    ap (λ (b : Bool). limited_to n b t) (one-within (feed_of s t) n os ps k i f g w x).finishes

-- a list of steps has one list of answers, and leaves one state
pub one-runs : (s : Settings) (t : State) (xs : List Step) (rs qs : List Answer) (u v : State) → Runs s t xs rs u → Runs s t xs qs v
    → (rs ≡ qs) × (u ≡ v)
one-runs s t _ _ _ _ _ end end = (refl, refl)
one-runs s t _ _ _ u v (step {u = w} {x = x} {xs = xs} {a = a} {rs = rs} f g r) (step {u = w'} {a = b} {rs = qs} f' g' r') =
    let e : b ≡ a = one-first (causes_of s t x) b a f' f in
    let q : w' ≡ w = one-after s t x a w' w (subst (λ (c : Answer). After s t x c w') e g') g in
    let z = one-runs s w xs rs qs u v r (subst (λ (y : State). Runs s y xs qs v) q r') in
    (λ k. sym e k ∷ z.0 k, z.1)
