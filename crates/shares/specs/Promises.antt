-- What is claimed of the shares, of any four lengths or fewer. Together these fix them.
use Rattle.std.specs.Prelude.{◌≡◌, List, [], ◌∷◌, ℕ, ◌≤◌, ◌<◌, length, get_or}
use Rattle.shares.specs.Shares.{shown_room, at_first_of, total, shares_of}

-- the length of group i's list, and its share
abbrev pub length_at : List ℕ → ℕ → ℕ
length_at ns i = get_or ns i 0

abbrev pub share_at : List ℕ → ℕ → ℕ
share_at ns i = get_or (shares_of ns) i 0

pub record Shared (ns : List ℕ) : Type 0 where
  pub each : length (shares_of ns) ≡ length ns
  -- at least the smaller of 16 and the list, and no more than the list
  pub least : (i : ℕ) → at_first_of (length_at ns i) ≤ share_at ns i
  pub most : (i : ℕ) → share_at ns i ≤ length_at ns i
  -- in all at most 64
  pub fit : total (shares_of ns) ≤ shown_room
  -- the rest in number order: where a group gets more than at first, those before it have all that their lists need
  pub in_order : (i k : ℕ) → i < k → at_first_of (length_at ns k) < share_at ns k → share_at ns i ≡ length_at ns i
  -- nothing is left over while a list needs more
  pub used : (i : ℕ) → share_at ns i < length_at ns i → total (shares_of ns) ≡ shown_room

abbrev pub SharesRight : Type 0
SharesRight = (ns : List ℕ) → length ns ≤ 4 → Shared ns

-- lists of 16, 40, none and 64 get 16, 32, 0 and 16; two of 64 get 48 and 16
pub record SharesMarked : Type 0 where
  pub three : shares_of (16 ∷ 40 ∷ 0 ∷ 64 ∷ []) ≡ 16 ∷ 32 ∷ 0 ∷ 16 ∷ []
  pub two : shares_of (64 ∷ 64 ∷ 0 ∷ 0 ∷ []) ≡ 48 ∷ 16 ∷ 0 ∷ 0 ∷ []
  pub four : shares_of (64 ∷ 64 ∷ 64 ∷ 64 ∷ []) ≡ 16 ∷ 16 ∷ 16 ∷ 16 ∷ []
