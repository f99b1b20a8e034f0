-- **Settings** of a load (RULES 2): which are sent back, with 1 or 2, and how a load holds the others.
use Rattle.refusal.specs.First.{Answer}
use Rattle.std.specs.Prelude.{ℕ, Bool, not, cond, ◌&&◌, ◌||◌, List, [], ◌∷◌, ltb, ℤ, pos, negsuc, get_or, Err}
use Rattle.std.specs.Int.Signed.{lt_z, le_z}
use Rattle.refusal.specs.declared.Refusal.TheVariants.{SettingsRange, ClockRange}
use Rattle.settings.specs.declared.Settings.{Settings}

-- a count above 4, `max_transfers` above 2, a change time above 15300 seconds
unfoldable pub over_counts : ℕ → ℕ → ℕ → ℕ → Bool
over_counts origins targets transfers seconds = ltb 4 origins || (ltb 4 targets || (ltb 2 transfers || ltb 15300 seconds))

-- at most 2^40 in size
unfoldable pub near : ℤ → Bool
near z = not (lt_z z (negsuc 1099511627775)) && le_z z (pos 1099511627776)

-- the start and the three epochs
unfoldable pub all_near : ℤ → List ℤ → Bool
all_near now epochs = near now && (near (get_or epochs 0 (pos 0)) && (near (get_or epochs 1 (pos 0)) && near (get_or epochs 2 (pos 0))))

-- why settings are sent back, in the order of RULES 16.2: 1, 2
unfoldable pub settings_tests : Settings → List (Bool × Answer)
settings_tests s =
    (over_counts s.origins s.targets s.max_transfers s.transfer_seconds, Err SettingsRange)
    ∷ (not (all_near s.now s.epochs), Err ClockRange)
    ∷ []

-- a walk past the count is 0
abbrev pub kept_walk : ℕ → ℕ → ℕ → ℕ
kept_walk count i walk = cond (ltb i count) walk 0

unfoldable pub walks_of : ℕ → List ℕ → List ℕ
walks_of n w = kept_walk n 0 (get_or w 0 0) ∷ kept_walk n 1 (get_or w 1 0) ∷ kept_walk n 2 (get_or w 2 0) ∷ kept_walk n 3 (get_or w 3 0)
    ∷ []

-- the settings as a load holds them
unfoldable pub canonical_of : Settings → Settings
canonical_of s = record {
  origins = s.origins;
  targets = s.targets;
  origin_walks = walks_of s.origins s.origin_walks;
  target_walks = walks_of s.targets s.target_walks;
  transfer_seconds = s.transfer_seconds;
  max_transfers = s.max_transfers;
  now = s.now;
  epochs = s.epochs;
}
