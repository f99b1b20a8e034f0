-- The premises of the demands can be met, by lists that keep a journey: of one ride, of two that a rule joins, of three, of a service with
-- dates, of one that is added after the search and withdrawn again, of searches that a limit stops and not. Each by computation.
-- RULES 15.
use Rattle.refusal.specs.First.{Answer}
use Rattle.refusal.specs.declared.Accepted.TheVariants.{Taken}
use Rattle.std.specs.Prelude.{◌≡◌, true, List, [], ◌∷◌, ◌++◌, map, ℕ, pos, None, Some, Ok}
use Rattle.settings.specs.declared.Settings.{Settings}
use Rattle.stops.specs.declared.StopInput.{StopInput}
use Rattle.calls.specs.declared.CallInput.{CallInput}
use Rattle.profile.specs.declared.Journey.{Journey}
use Rattle.profile.specs.declared.figures.Figures.{Figures}
use Rattle.profile.specs.Journeys.{journey_figures}
use Rattle.profile.specs.Instances.{figures_of}
use Rattle.load.specs.Sound.{Opens}
use Rattle.load.specs.Steps.{Opening, undated, dated}
use Rattle.load.specs.FillStep.{stop, call, rule, service, exception}
use Rattle.best.specs.Best.{kept_of}
use Rattle.steps.specs.Steps.{Step, filling, withdraw, search, limited}
use Rattle.steps.specs.Lists.{end_of}
use Rattle.comparison.specs.Taken.{State, fresh}
use Rattle.comparison.specs.Runs.{Runs, Admitted, Finished}

-- walk 5, target walk 2, a change time of 3 minutes, so many changes
abbrev pub settings_with : ℕ → Settings
settings_with changes = record {
  origins = 1;
  targets = 1;
  origin_walks = 5 ∷ 0 ∷ 0 ∷ 0 ∷ [];
  target_walks = 2 ∷ 0 ∷ 0 ∷ 0 ∷ [];
  transfer_seconds = 180;
  max_transfers = changes;
  now = pos 0;
  epochs = pos 0 ∷ pos 0 ∷ pos 0 ∷ [];
}

abbrev pub some_settings : Settings
some_settings = settings_with 0

abbrev pub some_opening : Opening
some_opening = undated some_settings

-- a stop with these members, no name, no parent and no position
abbrev pub some_stop : ℕ → StopInput
some_stop m = record { location_type = 0; degrees = None; members = m }

-- a call of a trip at a stop and time
abbrev pub call_of : ℕ → ℕ → ℕ → ℕ → CallInput
call_of trip seq at time = record {
  trip = trip;
  day = 0;
  sequence = seq;
  stop = at;
  arrival = Some time;
  departure = Some time;
  pickup = 0;
  drop_off = 0;
}

-- stops of the origin and of the target, trip 1 that departs and arrives so, a search
abbrev pub one_trip : ℕ → ℕ → List Step
one_trip departs arrives =
    filling (stop (65 ∷ []) None None (some_stop 1))
    ∷ filling (stop (66 ∷ []) None None (some_stop 16))
    ∷ filling (call [] (call_of 1 1 0 departs))
    ∷ filling (call [] (call_of 1 2 1 arrives))
    ∷ search
    ∷ []

-- request 11: the search, and then trip 2, which departs later and arrives earlier, is added call by call
abbrev pub added_trip : List Step
added_trip = one_trip 600 1200 ++ filling (call [] (call_of 2 1 0 700)) ∷ filling (call [] (call_of 2 2 1 1100)) ∷ []

-- and the call where it departs is withdrawn
abbrev pub withdrawn_trip : List Step
withdrawn_trip = added_trip ++ withdraw (record { trip = 2; day = 0; sequence = 1 }) ∷ []

-- trip 1 from the origin to a stop, which it reaches at 1000; a rule of type 2 to another stop, 240 seconds; trip 2 from there to the
-- target, which departs so and arrives at 1500
abbrev pub two_trips : ℕ → List Step
two_trips departs =
    filling (stop (65 ∷ []) None None (some_stop 1))
    ∷ filling (stop (66 ∷ []) None None (some_stop 0))
    ∷ filling (stop (67 ∷ []) None None (some_stop 0))
    ∷ filling (stop (68 ∷ []) None None (some_stop 16))
    ∷ filling (rule (record { from = 1; to = 2; transfer_type = 2; seconds = Some 240 }))
    ∷ filling (call [] (call_of 1 1 0 600))
    ∷ filling (call [] (call_of 1 2 1 1000))
    ∷ filling (call [] (call_of 2 1 2 departs))
    ∷ filling (call [] (call_of 2 2 3 1500))
    ∷ search
    ∷ []

-- request 10: trip 1 from the origin to a stop, which it reaches at 1000; trip 2 from there, at 1240, to another, which it reaches at
-- 1500; trip 3 from there to the target, which departs so and arrives at 2000. At both stops a rule of type 2 asks for 240 seconds; two
-- of type 3 forbid changes that no journey here needs
abbrev pub three_trips : ℕ → List Step
three_trips departs =
    filling (stop (65 ∷ []) None None (some_stop 1))
    ∷ filling (stop (66 ∷ []) None None (some_stop 0))
    ∷ filling (stop (67 ∷ []) None None (some_stop 0))
    ∷ filling (stop (68 ∷ []) None None (some_stop 16))
    ∷ filling (rule (record { from = 1; to = 1; transfer_type = 2; seconds = Some 240 }))
    ∷ filling (rule (record { from = 2; to = 2; transfer_type = 2; seconds = Some 240 }))
    ∷ filling (rule (record { from = 1; to = 2; transfer_type = 3; seconds = Some 0 }))
    ∷ filling (rule (record { from = 2; to = 0; transfer_type = 3; seconds = Some 0 }))
    ∷ filling (call [] (call_of 1 1 0 600))
    ∷ filling (call [] (call_of 1 2 1 1000))
    ∷ filling (call [] (call_of 2 1 1 1240))
    ∷ filling (call [] (call_of 2 2 2 1500))
    ∷ filling (call [] (call_of 3 1 2 departs))
    ∷ filling (call [] (call_of 3 2 3 2000))
    ∷ search
    ∷ []

-- request 12: trips 1 and 2 of `added_trip`, in a search within a limit: two first rides and two rides, so four joins; a rule forbids the
-- change
abbrev pub limited_trips : ℕ → List Step
limited_trips n =
    filling (stop (65 ∷ []) None None (some_stop 1))
    ∷ filling (stop (66 ∷ []) None None (some_stop 16))
    ∷ filling (rule (record { from = 1; to = 0; transfer_type = 3; seconds = None }))
    ∷ filling (call [] (call_of 1 1 0 600))
    ∷ filling (call [] (call_of 1 2 1 1200))
    ∷ filling (call [] (call_of 2 1 0 700))
    ∷ filling (call [] (call_of 2 2 1 1100))
    ∷ limited n
    ∷ []

-- and the call where trip 2 departs is withdrawn: one join is left
abbrev pub limited_less : ℕ → List Step
limited_less n = limited_trips n ++ withdraw (record { trip = 2; day = 0; sequence = 1 }) ∷ []

-- the same trip on a dated load, whose three days are Monday 2 to Wednesday 4 January 2023: a service of Mondays that year, which an
-- exception may remove on the second; the calls name it
abbrev pub mondays : List ℕ
mondays = 77 ∷ []

abbrev pub some_dates : Opening
some_dates = dated some_settings (20230102 ∷ 20230103 ∷ 20230104 ∷ [])

abbrev pub dated_trip : ℕ → List Step
dated_trip removed =
    filling (service mondays 1 20230101 20231231)
    ∷ filling (exception mondays removed 2)
    ∷ filling (stop (65 ∷ []) None None (some_stop 1))
    ∷ filling (stop (66 ∷ []) None None (some_stop 16))
    ∷ filling (call mondays (call_of 1 1 0 600))
    ∷ filling (call mondays (call_of 1 2 1 1200))
    ∷ search
    ∷ []

-- the figures of the journeys kept
abbrev pub kept_by : Opening → List Step → List Figures
kept_by s xs = map journey_figures (kept_of (end_of s xs))

abbrev pub kept_figures : List Step → List Figures
kept_figures xs = kept_by some_opening xs

-- the list is taken whole
pub record AllTaken (xs : List Step) : Type 0 where
  pub end : State
  pub runs : Runs some_settings (fresh None) xs (Ok Taken ∷ Ok Taken ∷ Ok Taken ∷ Ok Taken ∷ Ok Taken ∷ []) end
  pub searched : end.searched ≡ true

-- a journey with these figures is admitted
pub record OneAdmitted (s : Opening) (xs : List Step) (f : Figures) : Type 0 where
  pub j : Journey
  pub figures : journey_figures j ≡ f
  pub admitted : Admitted s xs j

-- the search was stopped at the limit
pub record StoppedAt (o : Opening) (xs : List Step) (n : ℕ) : Type 0 where
  pub answers : List Answer
  pub end : State
  pub runs : Runs o.settings (fresh o.dates) xs answers end
  pub limit : end.stopped ≡ Some n

pub record Met : Type 0 where
  pub opens : Opens some_opening
  pub taken : AllTaken (one_trip 600 1200)
  pub admitted : OneAdmitted some_opening (one_trip 600 1200) (figures_of 300 1320 1 5)
  pub kept : kept_figures (one_trip 600 1200) ≡ figures_of 300 1320 1 5 ∷ []
  -- two rides: 1000 + 240 joins 1240, and not 1239
  pub opens_changing : Opens (undated (settings_with 1))
  pub admitted_changing : OneAdmitted (undated (settings_with 1)) (two_trips 1240) (figures_of 300 1620 2 5)
  pub kept_changing : kept_by (undated (settings_with 1)) (two_trips 1240) ≡ figures_of 300 1620 2 5 ∷ []
  pub missed : kept_by (undated (settings_with 1)) (two_trips 1239) ≡ []
  -- request 10: three rides with two changes; 1500 + 240 joins 1740, and not 1739; with one change, none
  pub opens_through : Opens (undated (settings_with 2))
  pub admitted_through : OneAdmitted (undated (settings_with 2)) (three_trips 1740) (figures_of 300 2120 3 5)
  pub kept_through : kept_by (undated (settings_with 2)) (three_trips 1740) ≡ figures_of 300 2120 3 5 ∷ []
  pub missed_through : kept_by (undated (settings_with 2)) (three_trips 1739) ≡ []
  pub one_change : kept_by (undated (settings_with 1)) (three_trips 1740) ≡ []
  -- with dates: the service runs on Monday 2 January, unless that date is removed
  pub opens_dated : Opens some_dates
  pub admitted_dated : OneAdmitted some_dates (dated_trip 20230109) (figures_of 300 1320 1 5)
  pub kept_dated : kept_by some_dates (dated_trip 20230109) ≡ figures_of 300 1320 1 5 ∷ []
  pub removed : kept_by some_dates (dated_trip 20230102) ≡ []
  -- request 11: trip 2, added after the search, beats trip 1; withdrawn, it doesn't
  pub admitted_added : OneAdmitted some_opening added_trip (figures_of 400 1220 1 5)
  pub kept_added : kept_figures added_trip ≡ figures_of 400 1220 1 5 ∷ []
  pub admitted_withdrawn : OneAdmitted some_opening withdrawn_trip (figures_of 300 1320 1 5)
  pub kept_withdrawn : kept_figures withdrawn_trip ≡ figures_of 300 1320 1 5 ∷ []
  -- request 12: before any join is tested trip 1 is offered; trip 2, which beats it, after its two; all four are tested within 4.
  -- Searched again without trip 2, within 0 it is stopped again, and within 1 finished
  pub kept_none : kept_by (undated (settings_with 1)) (limited_trips 0) ≡ figures_of 300 1320 1 5 ∷ []
  pub kept_two : kept_by (undated (settings_with 1)) (limited_trips 2) ≡ figures_of 400 1220 1 5 ∷ []
  pub stopped_three : StoppedAt (undated (settings_with 1)) (limited_trips 3) 3
  pub finished_four : Finished (undated (settings_with 1)) (limited_trips 4)
  pub stopped_less : StoppedAt (undated (settings_with 1)) (limited_less 0) 0
  pub finished_less : Finished (undated (settings_with 1)) (limited_less 1)
