-- How the horizon falls, offer by offer, with the list of each moment told by `Holds`: a 65th journey makes it the latest arrival of the 65
-- less 1, and the mark 1; if it would fall below 3600, the search is sent back. RULES 8.6.
use Rattle.std.specs.Prelude.{◌≡◌, ℕ, ◌+◌, ◌-◌, ◌≤◌, ◌<◌, length}
use mathlib.Core.List.{List, [], ◌∷◌, ◌++◌, Memᴰ}
use Rattle.profile.specs.declared.Journey.{Journey}
use Rattle.comparison.specs.Kept.{Holds}
use Rattle.profile.specs.Sizes.{kept_room, least_horizon}

-- a is the latest arrival of the list
pub record Latest (ks : List Journey) (a : ℕ) : Type 0 where
  pub one : Journey
  pub there : Memᴰ one ks
  pub is : one.arrival ≡ a
  pub top : (k : Journey) → Memᴰ k ks → k.arrival ≤ a

-- where the offers lead: to a horizon and a mark; or the horizon would fall below 3600
pub data End : Type 0 where
  at : ℕ → ℕ → End
  below : End

-- `Falls pre h m os e`: from the horizon h and the mark m, when `pre` has been offered, the offers `os` lead to the end e
pub data Falls : List Journey → ℕ → ℕ → List Journey → End → Type 0 where
  done : {pre : List Journey} {h m : ℕ} → Falls pre h m [] (at h m)
  -- with o there are at most 64: nothing falls
  stays : {pre os ks : List Journey} {o : Journey} {h m : ℕ} {e : End} → Holds h (pre ++ o ∷ []) ks → length ks ≤ kept_room
      → Falls (pre ++ o ∷ []) h m os e → Falls pre h m (o ∷ os) e
  -- with o there are 65, the latest due at a
  falls : {pre os ks : List Journey} {o : Journey} {h m a : ℕ} {e : End} → Holds h (pre ++ o ∷ []) ks → length ks ≡ kept_room + 1
      → Latest ks a → least_horizon ≤ a - 1 → Falls (pre ++ o ∷ []) (a - 1) 1 os e → Falls pre h m (o ∷ os) e
  -- with o there are 65, and the horizon would fall below 3600
  sinks : {pre os ks : List Journey} {o : Journey} {h m a : ℕ} → Holds h (pre ++ o ∷ []) ks → length ks ≡ kept_room + 1
      → Latest ks a → a - 1 < least_horizon → Falls pre h m (o ∷ os) below
