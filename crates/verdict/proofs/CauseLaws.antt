-- The causes, part by part.
use mathlib.Core.Path.{◌≡◌, ap, ◌∙◌}
use mathlib.Core.Bool.{Bool}
use mathlib.Core.List.{List, ◌++◌}
use Prim.Native.Nat.{ℕ}
use lib.Dec.{leb}
use lib.ListN.{take, get_or}
use Rattle.std.specs.Prelude.{Option}
use Rattle.std.specs.Option.{option_or}
use Rattle.std.proofs.Common.{append_assoc}
use Rattle.settings.specs.declared.Settings.{Settings}
use Rattle.stops.specs.declared.Stop.{Stop}
use Rattle.stops.specs.Sound.{stop_at}
use Rattle.rules.specs.declared.Rule.{Rule}
use Rattle.calls.specs.declared.Call.{Call}
use Rattle.places.specs.Places.{places_of}
use Rattle.transfer.specs.Copied.{parents_of}
use Rattle.connection.specs.declared.Connection.{Connection}
use Rattle.connection.specs.declared.Cause.{Cause}
use Rattle.connection.specs.declared.FoundLeg.{FoundLeg}
use Rattle.connection.specs.declared.Way.{Way}
use Rattle.connection.specs.Tests.{first_of, asking}
use Rattle.connection.specs.Find.{boards, alights}
use Rattle.connection.specs.Legs.{ride_tests, legs_tests}
use Rattle.connection.specs.Ends.{end_tests, count_tests}
use Rattle.connection.specs.Changes.{change_tests}
use Rattle.connection.proofs.TestLaws.{first-two}
use Rattle.verdict.specs.Verdicts.{last_leg, ends_asked, changes_asked, causes_by}

module _ (stops : List Stop) (count : ℕ) (rs : List Rule) (seconds n : ℕ) (w : Way) where
  -- by the rules, the parents and the places
  abbrev pub earlier : List Rule → List ℕ → List ℕ → List (Bool × Cause)
  earlier rules parents places =
      asking (leb 2 n) (change_tests 0 rules parents places seconds (boards w.first) (alights w.first) (boards w.second))

  abbrev pub later : List Rule → List ℕ → List ℕ → List (Bool × Cause)
  later rules parents places =
      asking (leb 3 n) (change_tests 1 rules parents places seconds (boards w.second) (alights w.second) (boards w.third))

  pub changes-chain : (rules : List Rule) (parents places : List ℕ) (r₁ r₂ r : Option Cause)
      → rules ≡ rs → parents ≡ parents_of stops → places ≡ places_of (take count stops)
      → r₁ ≡ first_of (earlier rules parents places) → r₂ ≡ first_of (later rules parents places)
      → r ≡ option_or r₁ r₂ → r ≡ first_of (changes_asked stops count rs seconds n w)
  unfolding changes_asked
  changes-chain rules parents places r₁ r₂ r er ep eq e₁ e₂ e =
      first-two (earlier rs (parents_of stops) (places_of (take count stops))) (later rs (parents_of stops) (places_of (take count stops)))
      (e₁ ∙ (λ i. first_of (earlier (er i) (ep i) (eq i)))) (e₂ ∙ (λ i. first_of (later (er i) (ep i) (eq i)))) e

module _ (s : Settings) (stops : List Stop) (c : Connection) (w : Way) where
  pub ends-chain : (start end : Call) (leg : FoundLeg) (r : Option Cause)
      → start ≡ boards w.first → leg ≡ last_leg c.rides w → end ≡ alights leg
      → r ≡ first_of (end_tests s.origins s.targets c.origin c.target (stop_at stops start.stop).members (stop_at stops end.stop).members
      (get_or s.origin_walks c.origin 0) start.departure)
      → r ≡ first_of (ends_asked s stops c w)
  unfolding ends_asked
  ends-chain start end leg r es el ee e =
      let end-is : end ≡ alights (last_leg c.rides w) = ee ∙ ap alights el in
      e ∙ (λ i. first_of (end_tests s.origins s.targets c.origin c.target (stop_at stops (es i).stop).members
      (stop_at stops (end-is i).stop).members
      (get_or s.origin_walks c.origin 0) (es i).departure))

  pub cause-chain : (count : ℕ) (rs : List Rule) (r₁ r₂ r₃ r₄ r₅ o₁ o₂ o₃ r : Option Cause)
      → r₁ ≡ first_of (ride_tests c.rides) → r₂ ≡ first_of (legs_tests c.rides c.legs w) → o₁ ≡ option_or r₁ r₂
      → r₃ ≡ first_of (ends_asked s stops c w) → o₂ ≡ option_or o₁ r₃
      → r₄ ≡ first_of (count_tests c.rides s.max_transfers) → o₃ ≡ option_or o₂ r₄
      → r₅ ≡ first_of (changes_asked stops count rs s.transfer_seconds c.rides w) → r ≡ option_or o₃ r₅
      → r ≡ first_of (causes_by s stops count rs c w)
  unfolding causes_by
  cause-chain count rs r₁ r₂ r₃ r₄ r₅ o₁ o₂ o₃ r e₁ e₂ p₁ e₃ p₂ e₄ p₃ e₅ p₄ =
      let az = ride_tests c.rides in
      let bs = legs_tests c.rides c.legs w in
      let cs = ends_asked s stops c w in
      let ds = count_tests c.rides s.max_transfers in
      let es = changes_asked stops count rs s.transfer_seconds c.rides w in
      first-two (((az ++ bs) ++ cs) ++ ds) es (first-two ((az ++ bs) ++ cs) ds
      (first-two (az ++ bs) cs (first-two az bs e₁ e₂ p₁) e₃ p₂) e₄ p₃) e₅ p₄
      ∙ ap first_of (from-left az bs cs ds es)
    where
      from-left : (az bs cs ds es : List (Bool × Cause)) → (((az ++ bs) ++ cs) ++ ds) ++ es ≡ az ++ (bs ++ (cs ++ (ds ++ es)))
      from-left az bs cs ds es = simp append_assoc
