-- The nine starred instances, in the order of the table in docs/PROMISES.md, "Instances, computed".
-- RULES 5, 6, 8.
use Rattle.std.specs.Prelude.{◌≡◌, Bool, true, false, [], ◌∷◌, map, ℕ, take, drop}
use Rattle.time.specs.Promises.{marked, AnsweredSo}
use Rattle.calls.specs.declared.Call.{Call}
use Rattle.calls.specs.Marked.{started, marked_call}
use Rattle.profile.specs.Instances.{figures_of, a_second_apart}
use Rattle.offers.specs.Marked.{journey_with, number_for}
use Rattle.search.specs.Marked.{MarkedJoins}
use Rattle.comparison.specs.Order.{EqualsOrBeats, Beats}
use Rattle.comparison.specs.Falls.{Falls, at, below}
use Rattle.comparison.specs.Window.{Seen}
use Rattle.comparison.specs.Admitted.{Feed, Joins}
use Rattle.comparison.specs.Witness.{some_settings, one_trip, kept_figures}

-- a call at stop 0 as it is seen
abbrev pub seen_at : ℕ → ℕ → ℕ → Bool → Bool → Call
seen_at trip arrives departs may-board may-alight = record {
  trip = trip;
  day = 0;
  sequence = 1;
  stop = 0;
  arrival = arrives;
  departure = departs;
  board = may-board;
  alight = may-alight;
  board_request = false;
  alight_request = false;
}

-- a change time of 3 minutes, and no rule
abbrev pub no_rule_of : Feed
no_rule_of = record { settings = some_settings; stops = []; rules = []; calls = []; horizon = 21600; Place = λ x y. ⊥ }

-- trip 1 arrives at 1000 and joins trip 2, which departs so at the same stop
abbrev pub JoinsAt : ℕ → Type 0
JoinsAt departs = Joins no_rule_of (seen_at 1 1000 1000 true true) (seen_at 2 departs departs true true)

pub record Starred : Type 0 where
  -- "Walk 5, target walk 2; trip 1 departs 600, arrives 1200: 300, 1320, 1 ride, walk 5": through opening, stops, calls and search
  pub one : kept_figures (one_trip 600 1200) ≡ figures_of 300 1320 1 5 ∷ []
  -- "Walk 5: departure 300 leaves at 0; 299 isn't boarded"
  pub two : (kept_figures (one_trip 300 1200) ≡ figures_of 0 1320 1 5 ∷ []) × (kept_figures (one_trip 299 1200) ≡ [])
  -- "Target walk 2: alighting 21480 is kept, 21481 isn't"
  pub three : (kept_figures (one_trip 600 21480) ≡ figures_of 300 21600 1 5 ∷ []) × (kept_figures (one_trip 600 21481) ≡ [])
  -- "Same stop, 3 minutes: arrival 1000 joins 1180, not 1179"; and of every load
  pub four : JoinsAt 1180 × (JoinsAt 1179 → ⊥)
  pub four_loads : MarkedJoins
  -- "(300, 1319, 2 rides) beats (300, 1320, 1 ride); (301, 1320, 2) stands beside (300, 1320, 1)": whatever they walk
  pub five : (w v : ℕ) → Beats (journey_with (figures_of 300 1319 2 w)) (journey_with (figures_of 300 1320 1 v))
  pub beside : (w v : ℕ) → EqualsOrBeats (journey_with (figures_of 301 1320 2 w)) (journey_with (figures_of 300 1320 1 v)) → ⊥
  pub beside' : (w v : ℕ) → EqualsOrBeats (journey_with (figures_of 300 1320 1 v)) (journey_with (figures_of 301 1320 2 w)) → ⊥
  -- "Call −10 to 0: boardable, not alightable; departure −1: outside"
  pub six : Seen started 21600 (marked_call 990 1000) (seen_at 1 0 0 true false)
  pub gone : (c : Call) → Seen started 21600 (marked_call 990 999) c → ⊥
  -- "'24:00:00' is 86400; '7:05:00' is 25500; '07:5:00' gives 16"
  pub seven : AnsweredSo (take 3 marked)
  -- "'1193046:28:15' is 4294967295; one second more gives 16"
  pub eight : AnsweredSo (drop 3 marked)
  -- "65 unbeaten, latest 3601: horizon 3600. Latest 3600: 11"
  pub nine : Falls [] 21600 0 (map journey_with (a_second_apart 537 65)) (at 3600 1)
  pub below_3600 : Falls [] 21600 0 (map journey_with (a_second_apart 536 65)) below
  pub eleven : number_for (a_second_apart 536 65) ≡ 11
