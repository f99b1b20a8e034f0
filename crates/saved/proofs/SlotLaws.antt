-- An array whose first elements are taken and whose others are blank, as it is filled.
use Rattle.std.specs.Prelude.{None}
use mathlib.Core.Path.{◌≡◌, refl, sym, ap, ◌∙◌}
use mathlib.Core.Bool.{Bool, false}
use mathlib.Core.List.{List, [], ◌∷◌, ◌++◌}
use Prim.Native.Nat.{ℕ, zero, suc, ◌-◌, ◌≤◌, ◌<◌}
use native.Mathlib.Omega.{arith}
use lib.ListN.{length, get_or, take, drop, set, replicate, length-take, take-append-drop}
use lib.Seq.{take-suc, take_at}
use Rattle.laws.specs.Lists.{padded, anyb}
use Rattle.laws.proofs.Pack.{padded-more}
use Rattle.laws.proofs.Bools.{or-not}
use Rattle.settings.specs.declared.Settings.{Settings}
use Rattle.stops.specs.declared.Stop.{Stop}
use Rattle.calls.specs.declared.Call.{Call}
use Rattle.rules.specs.declared.Rule.{Rule}
use Rattle.profile.specs.Journeys.{no_journey}
use Rattle.week.specs.Weeks.{undated_week}
use Rattle.load.specs.declared.Load.{Load}

-- the first k elements, and blanks
abbrev pub up_to : {A : Type 0} → A → ℕ → List A → ℕ → List A
up_to b size xs k = padded b size (take k xs)

module _ {A : Type 0} (b : A) (size : ℕ) (xs : List A) (long : length xs ≡ size) where
  taken-long : (k : ℕ) → k ≤ size → length (take k xs) ≡ k
  taken-long k h = simp length-take (omega arith)

  pub up_none : up_to b size xs 0 ≡ replicate size b
  up_none = let e : size - 0 ≡ size = omega arith in ap (λ (n : ℕ). replicate n b) e

  pub up_more : (k : ℕ) (d : A) → k < size → set (up_to b size xs k) k (get_or xs k d) ≡ up_to b size xs (suc k)
  up_more k d h =
      let here : k < length xs = omega arith in
      padded-more b (take k xs) (get_or xs k d) k size (taken-long k (omega arith)) h ∙ ap (padded b size) (sym (take-suc xs k d here))

  pub up-taken : (k : ℕ) → k ≤ size → take k (up_to b size xs k) ≡ take k xs
  up-taken k h = take_at (take k xs) (replicate (size - length (take k xs)) b) k (taken-long k h)

  pub up-all : (n : ℕ) → n ≤ size → drop n xs ≡ replicate (size - n) b → up_to b size xs n ≡ xs
  up-all n h e = ap (λ (k : ℕ). take n xs ++ replicate (size - k) b) (taken-long n h) ∙ ap (λ (r : List A). take n xs ++ r) (sym e)
      ∙ take-append-drop n xs

-- none of the first k has a property
pub none_below : {A : Type 0} (p : A → Bool) (xs : List A) (d : A) (k : ℕ) → k ≤ length xs → ((j : ℕ) → j < k → p (get_or xs j d) ≡ false)
    → anyb p (take k xs) ≡ false
none_below p xs d zero h n = refl
none_below p [] d (suc k) h n = absurd (omega arith)
none_below p (x ∷ xs) d (suc k) h n = or-not _ (n 0 (omega arith)) ∙ none_below p xs d k (omega arith) (λ j g. n (suc j) (omega arith))

-- a load without dates that was not searched, of a table that was never cut
abbrev pub load_of : Settings → List Stop → ℕ → List Rule → ℕ → List Call → ℕ → Load
load_of s stops stopCount rules ruleCount calls callCount = record {
  settings = s;
  stops = stops;
  stop_count = stopCount;
  calls = calls;
  call_count = callCount;
  rules = rules;
  rule_count = ruleCount;
  journeys = replicate 64 no_journey;
  journey_count = 0;
  table_horizon = 21600;
  table_limits = 0;
  horizon = 21600;
  limits = 0;
  searched = false;
  limit = None;
  week = undated_week;
}
