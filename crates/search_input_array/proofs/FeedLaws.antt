-- Calls, members and walks written as numbers are read back.
use mathlib.Core.Path.{◌≡◌, refl, ap, ◌∙◌}
use mathlib.Core.Bool.{Bool, true, false}
use mathlib.Core.List.{List, [], ◌∷◌}
use Prim.Native.Nat.{ℕ, zero, suc, ◌+◌, ◌*◌, ◌/◌, ◌%◌, ◌^◌, min, ◌≤◌, ◌<◌}
use native.Mathlib.Nat.{mod-lt, min-le_right}
use native.Mathlib.Omega.{arith}
use lib.Dec.{eqb}
use lib.ListN.{length, get_or, set, get_or-eq_default}
use Rattle.laws.specs.Arrays.{puts}
use Rattle.settings.specs.declared.Settings.{Settings}
use Rattle.stops.specs.declared.Stop.{Stop}
use Rattle.stops.specs.Sound.{stop_at}
use Rattle.stops.specs.Taken.{blank_stop}
use Rattle.calls.specs.declared.Call.{Call}
use Rattle.calls.specs.Tables.{blank_call}
use Rattle.laws.specs.Regions.{Region, Blocks}
use Rattle.search_input_array.specs.Feeds.{stop_number, flags_of, six_of, masked_of, Feeds}
use Rattle.laws.proofs.Regions.{region-puts}

-- ---- a call

board-flag : (b a : Bool) → eqb (flags_of b a % 2) 1 ≡ b
unfolding flags_of
board-flag true true = refl
board-flag true false = refl
board-flag false true = refl
board-flag false false = refl

alight-flag : (b a : Bool) → eqb (flags_of b a / 2 % 2) 1 ≡ a
unfolding flags_of
alight-flag true true = refl
alight-flag true false = refl
alight-flag false true = refl
alight-flag false false = refl

pub six-region : (l : List ℕ) (i : ℕ) (c : Call) (s g : ℕ) → s ≡ stop_number c.stop → g ≡ flags_of c.board c.alight → i * 6 + 6 ≤ length l
    → Region (λ k. get_or (six_of c) k 0) (i * 6) 6 l (puts (set l (i * 6) c.trip) (i * 6) 1 (c.day ∷ s ∷ c.arrival ∷ c.departure ∷ g ∷ []))
unfolding six_of
six-region l i c s g es eg h =
    rw (es, eg) (region-puts l (i * 6) c.trip (c.day ∷ stop_number c.stop ∷ c.arrival ∷ c.departure ∷ flags_of c.board c.alight ∷ [])
    (omega arith))

-- ---- members

powers : (k : ℕ) → k ≤ 4 → (0 < 2 ^ k) × (2 ^ k ≤ 16)
powers zero h = (omega arith, omega arith)
powers (suc zero) h = (omega arith, omega arith)
powers (suc (suc zero)) h = (omega arith, omega arith)
powers (suc (suc (suc zero))) h = (omega arith, omega arith)
powers (suc (suc (suc (suc zero)))) h = (omega arith, omega arith)
powers (suc (suc (suc (suc (suc k))))) h = absurd (omega arith)

-- the lowest digits, at most 4, are below 16
digits : (n m : ℕ) → m % 2 ^ min n 4 < 16
digits n m =
    let p = powers (min n 4) (min-le_right n 4) in
    omega (arith, mod-lt m p.0, p.1)

halves : (l h : ℕ) → l < 16 → h < 16 → ((l + h * 16) % 16 ≡ l) × ((l + h * 16) / 16 % 16 ≡ h)
halves l h a b = (omega arith, omega arith)

masked : (o t m : ℕ) → (masked_of o t m % 16 ≡ m % 2 ^ min o 4) × (masked_of o t m / 16 % 16 ≡ m / 16 % 2 ^ min t 4)
unfolding masked_of
masked o t m = halves (m % 2 ^ min o 4) (m / 16 % 2 ^ min t 4) (digits o m) (digits t (m / 16))

-- ---- the whole

module _ (calls : List Call) (n : ℕ) (stops : List Stop) (s : Settings) (l₀ l₁ l₂ l₃ l₄ : List ℕ)
    (cs : Blocks 6 (λ i k. get_or (six_of (get_or calls i blank_call)) k 0) (min n 512) l₀ l₁)
    (ms : Region (λ k. masked_of s.origins s.targets (stop_at stops k).members) 3072 128 l₁ l₂)
    (os : Region (λ k. get_or s.origin_walks k 0) 3200 4 l₂ l₃)
    (ts : Region (λ k. get_or s.target_walks k 0) 3204 4 l₃ l₄) (few : length stops ≡ 128)
  where
    -- past the end stands a blank stop
    past-end : (k : ℕ) → 128 ≤ k → (stop_at stops k).members ≡ 0
    unfolding stop_at
    past-end k h = ap (λ (x : Stop). x.members) (get_or-eq_default stops blank_stop (omega arith))

    number : (i k : ℕ) → i < min n 512 → k < 6 → get_or l₄ (i * 6 + k) 0 ≡ get_or (six_of (get_or calls i blank_call)) k 0
    number i k h b =
        ts.low (i * 6 + k) (omega arith) ∙ os.low (i * 6 + k) (omega arith) ∙ ms.low (i * 6 + k) (omega arith) ∙ cs.here i k h b

    member : (k : ℕ) → k < 128 → get_or l₄ (3072 + k) 0 ≡ masked_of s.origins s.targets (stop_at stops k).members
    member k h = ts.low (3072 + k) (omega arith) ∙ os.low (3072 + k) (omega arith) ∙ ms.here k h

    pub feeds : Feeds l₄ calls (min n 512) stops s
    unfolding six_of stop_number
    feeds = record {
      trip = λ i h. let e : i * 6 ≡ i * 6 + 0 = omega arith in ap (λ (x : ℕ). get_or l₄ x 0) e ∙ number i 0 h (omega arith);
      day = λ i h. number i 1 h (omega arith);
      stop = λ i h. number i 2 h (omega arith);
      arrival = λ i h. number i 3 h (omega arith);
      departure = λ i h. number i 4 h (omega arith);
      board =
          λ i h. ap (λ (x : ℕ). eqb (x % 2) 1) (number i 5 h (omega arith))
          ∙ board-flag (get_or calls i blank_call).board (get_or calls i blank_call).alight;
      alight =
          λ i h. ap (λ (x : ℕ). eqb (x / 2 % 2) 1) (number i 5 h (omega arith))
          ∙ alight-flag (get_or calls i blank_call).board (get_or calls i blank_call).alight;
      origins = λ k h. ap (λ (x : ℕ). x % 16) (member k h) ∙ (masked s.origins s.targets (stop_at stops k).members).0;
      targets = λ k h. ap (λ (x : ℕ). x / 16 % 16) (member k h) ∙ (masked s.origins s.targets (stop_at stops k).members).1;
      past = past-end;
      origin_walk = λ o h. ts.low (3200 + o) (omega arith) ∙ os.here o h;
      target_walk = λ x h. ts.here x h;
    }
