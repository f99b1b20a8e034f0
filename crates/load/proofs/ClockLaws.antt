-- What settings that open have passed, and the time of a call from their start.
use Rattle.std.specs.Prelude.{None, Option, Some}
use Prim.Native.Nat.{ℕ, zero, suc, ◌≤◌}
use mathlib.Core.Path.{◌≡◌, refl}
use mathlib.Core.Bool.{true, false, not, ◌&&◌}
use mathlib.Core.List.{List, ◌++◌}
use native.Mathlib.Omega.{arith}
use lib.IntN.{pos}
use lib.ListN.{get_or}
use borrow.Author.Tests.{not-false}
use Rattle.laws.proofs.Bools.{and-true, and-true-left, and-true-right, cond-by}
use Rattle.refusal.proofs.FirstLaws.{answer-is-first, takes_none, first_taken}
use Rattle.settings.specs.declared.Settings.{Settings}
use Rattle.settings.specs.Settings.{near, all_near, over_counts, settings_tests, canonical_of}
use Rattle.calls.specs.Windows.{time_after}
use Rattle.load.specs.Load.{empty_of}
use Rattle.load.specs.Steps.{Opening, date_tests, open_tests, open_answer}
use Rattle.load.specs.Sound.{Opens}
use Rattle.load.specs.Clock.{OpenedTime}

-- no test of an opening answers `Taken`
pub opening-tests : (o : Opening) → takes_none (open_tests o) ≡ true
unfolding settings_tests
opening-tests o = go o.dates
  where
    go : (d : Option (List ℕ)) → takes_none (settings_tests o.settings ++ date_tests d) ≡ true
    go None = refl
    go (Some dates) = refl

pub open-fails : (o : Opening) → Opens o
    → (over_counts o.settings.origins o.settings.targets o.settings.max_transfers o.settings.transfer_seconds ≡ false)
    × (not (all_near o.settings.now o.settings.epochs) ≡ false)
unfolding open_answer settings_tests
open-fails o w = let f = first_taken _ (open_tests o) (opening-tests o) (answer-is-first (open_tests o)) w.0 in (f.0, f.1.0)

pub clock-near : (s : Settings) → all_near s.now s.epochs ≡ true → (day : ℕ) → day ≤ 2
    → (near (get_or s.epochs day (pos 0)) && near s.now) ≡ true
unfolding all_near
clock-near s e day h = and-true _ _ (go day h) now
  where
    now : near s.now ≡ true
    now = and-true-left _ _ e

    rest : (near (get_or s.epochs 0 (pos 0)) && (near (get_or s.epochs 1 (pos 0)) && near (get_or s.epochs 2 (pos 0)))) ≡ true
    rest = and-true-right (near s.now) _ e

    go : (d : ℕ) → d ≤ 2 → near (get_or s.epochs d (pos 0)) ≡ true
    go zero l = and-true-left _ _ rest
    go (suc zero) l = and-true-left _ _ (and-true-right (near (get_or s.epochs 0 (pos 0))) _ rest)
    go (suc (suc zero)) l = and-true-right (near (get_or s.epochs 1 (pos 0))) _ (and-true-right (near (get_or s.epochs 0 (pos 0))) _ rest)
    go (suc (suc (suc d))) l = absurd (omega arith)

pub opened-time : OpenedTime
unfolding time_after empty_of canonical_of
opened-time o w i h t = cond-by _ _ (clock-near o.settings (not-false _ (open-fails o w).1) i.day h)
