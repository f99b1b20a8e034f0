-- Of a file of bytes: no search is stopped, the horizon falls, and the figures of the journeys admitted have five digits at most.
use Rattle.refusal.specs.First.{Answer}
use Rattle.std.specs.Prelude.{None}
use mathlib.Core.Path.{◌≡◌, refl, sym, ap, ◌∙◌}
use mathlib.Core.Logic.{◌⊎◌, inl, inr}
use mathlib.Core.Bool.{Bool, true, false}
use Rattle.laws.proofs.Options.{none-ne-some}
use mathlib.Core.List.{List, [], ◌∷◌, ◌++◌}
use Prim.Native.Nat.{ℕ, zero, suc, ◌+◌, ◌≤◌, ◌<◌}
use native.Mathlib.Omega.{arith}
use lib.ListN.{get_or}
use lib.IntN.{ℤ, pos, negsuc}
use Rattle.settings.specs.declared.Settings.{Settings}
use Rattle.calls.specs.declared.Call.{Call}
use Rattle.profile.specs.declared.Journey.{Journey}
use Rattle.fields.specs.Numbers.{byte_at}
use Rattle.fields.specs.Records.{walks_at, settings_in}
use Rattle.fields.specs.Second.{second_settings_in, settings_by}
use Rattle.steps.specs.Steps.{Step, filling, withdraw, search, limited}
use Rattle.comparison.specs.Taken.{State}
use Rattle.comparison.specs.Window.{time, Held}
use Rattle.comparison.specs.Kept.{Holds}
use Rattle.comparison.specs.Falls as falling
use Rattle.comparison.specs.Admitted.{Feed, Leg, Between, Admits}
use Rattle.comparison.specs.Runs as runs
use Rattle.tutor.specs.Paper.{Bytes, Records, one_more, Says, a_stop, a_call, a_rule, a_search, EachSays, no_step, a_step}
use Rattle.tutor.proofs.PrintedLaws.{Small}

-- ---- no search that was stopped

again-none : {s : Settings} {t u : State} → runs.Again s t u → t.stopped ≡ None → u.stopped ≡ None
again-none (runs.in_full e) q = q
again-none (runs.within e w) q = absurd (none-ne-some _ (sym q ∙ e))

-- a file says no withdrawal and no limited search
abbrev FromFile : Step → Type 0
FromFile (filling x) = Unit {0}
FromFile (withdraw k) = ⊥
FromFile search = Unit {0}
FromFile (limited n) = ⊥

from-file : {b : List ℕ} {x : Step} → Says b x → FromFile x
from-file (a_stop e f) = tt
from-file (a_call e f) = tt
from-file (a_rule e f) = tt
from-file (a_search e f) = tt

after_none : {s : Settings} {t u : State} {b : List ℕ} {x : Step} {a : Answer} → Says b x → runs.After s t x a u → t.stopped ≡ None
    → u.stopped ≡ None
after_none p runs.sent_back q = q
after_none p runs.a_stop q = q
after_none p runs.a_rule q = q
after_none p (runs.a_call f w) q = again-none w q
after_none p (runs.resting r) q = q
after_none p (runs.outside n f w) q = again-none w q
after_none p runs.a_service q = q
after_none p runs.an_exception q = q
after_none p (runs.a_withdrawal d w) q = absurd (from-file p)
after_none p runs.a_search q = refl
after_none p (runs.a_limited w) q = absurd (from-file p)

pub never-stopped : {s : Settings} {t v : State} {bs : List (List ℕ)} {xs : List Step} {rs : List Answer} → EachSays bs xs
    → runs.Runs s t xs rs v → t.stopped ≡ None → v.stopped ≡ None
never-stopped no_step runs.end q = q
never-stopped (a_step p ps) (runs.step f w r) q = never-stopped ps r (after_none p w q)

-- ---- the horizon falls, and the mark is the one before or 1

abbrev Low : ℕ → ℕ → falling.End → Type 0
Low h m (falling.at g n) = (g ≤ h) × ((n ≡ m) ⊎ (n ≡ 1))
Low h m falling.below = Unit {0}

lower : (h g m : ℕ) (e : falling.End) → g ≤ h → Low g 1 e → Low h m e
lower h g m (falling.at k n) a (b, c) = (omega arith, inr (one c))
  where
    one : (n ≡ 1) ⊎ (n ≡ 1) → n ≡ 1
    one (inl q) = q
    one (inr q) = q
lower h g m falling.below a w = tt

latest-due : (h a : ℕ) (os ks : List Journey) → Holds h os ks → falling.Latest ks a → a ≤ h
latest-due h a os ks w l =
    let (i, s, e) = (w.exactly l.one).0 l.there in
    let due = s.due in
    let same = ap (λ (j : Journey). j.arrival) e in
    omega (arith, due, same, l.is)

pub fall-low : (pre os : List Journey) (h m : ℕ) (e : falling.End) → falling.Falls pre h m os e → Low h m e
fall-low pre os h m e falling.done = (omega arith, inl refl)
fall-low pre os h m e (falling.stays w n f) = fall-low _ _ h m e f
fall-low pre os h m e (falling.falls w n l b f) = lower h _ m e (let d = latest-due _ _ _ _ w l in omega (arith, d)) (fall-low _ _ _ 1 e f)
fall-low pre os h m e (falling.sinks w n l b) = tt

-- ---- the walks are bytes

taken-bytes : (xs ys : List ℕ) → Bytes (xs ++ ys) → Bytes xs × Bytes ys
taken-bytes [] ys p = (tt, p)
taken-bytes (x ∷ xs) ys (b, p) = let (q, r) = taken-bytes xs ys p in ((b, q), r)

pub body_bytes : (xs b : List ℕ) (bs : List (List ℕ)) → Records xs (b ∷ bs) → Bytes xs → Bytes b
body_bytes xs b bs (one_more {rest = rest} high low e w) (p, (q, r)) = (taken-bytes b rest r).0

byte_small : (b : List ℕ) → Bytes b → (i : ℕ) → byte_at b i < 256
byte_small [] p i = omega arith
byte_small (x ∷ xs) (p, q) zero = p
byte_small (x ∷ xs) (p, q) (suc i) = byte_small xs q i

walk-small : (b : List ℕ) → Bytes b → (at i : ℕ) → get_or (walks_at b at) i 0 < 256
unfolding walks_at
walk-small b p at zero = byte_small b p at
walk-small b p at (suc zero) = byte_small b p (at + 1)
walk-small b p at (suc (suc zero)) = byte_small b p (at + 2)
walk-small b p at (suc (suc (suc zero))) = byte_small b p (at + 3)
walk-small b p at (suc (suc (suc (suc i)))) = omega arith

pub origin_walk : (second : Bool) (b : List ℕ) → Bytes b → (i : ℕ) → get_or (settings_by second b).origin_walks i 0 < 256
unfolding settings_in second_settings_in
origin_walk true b p i = walk-small b p 3 i
origin_walk false b p i = walk-small b p 3 i

-- ---- the figures

held-due : (h : ℕ) (z : ℤ) (v : ℕ) → Held h z v → v ≤ h
held-due h (negsuc n) v e = omega (arith, e)
held-due h (pos n) v (inl (a, e)) = omega (arith, a, e)
held-due h (pos n) v (inr (a, e)) = omega (arith, a, e)

module _ (F : Feed) (near : F.horizon ≤ 21600) (few : F.settings.origins ≤ 4) (few' : F.settings.targets ≤ 4)
    (walks : (i : ℕ) → get_or F.settings.origin_walks i 0 < 256) (j : Journey) (due : j.arrival ≤ 21600) where
  small : (b a c : Call) → Leg F b c → Between F b a j → (r : ℕ) → j.rides ≡ r → r ≤ 3 → Small j
  small b a c leg w r e h =
      let at : b.departure ≤ F.horizon = held-due F.horizon (time F.settings leg.boards.day leg.seen.d) b.departure leg.seen.departure in
      let walk = walks j.origin in
      record {
        leave = omega (arith, w.leave, at, near);
        arrival = omega (arith, due);
        rides = omega (arith, e, h);
        walk = omega (arith, w.walk, walk);
        origin = omega (arith, w.origin, few);
        target = omega (arith, w.target, few');
      }

  pub admitted-small : Admits F j → Small j
  admitted-small (inl d) = small d.b d.a d.a d.leg d.between 1 d.rides (omega arith)
  admitted-small (inr (inl d)) = small d.b d.d d.a d.leg d.between 2 d.rides (omega arith)
  admitted-small (inr (inr d)) = small d.b d.g d.a d.leg d.between 3 d.rides (omega arith)
