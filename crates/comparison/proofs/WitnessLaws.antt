-- By computation.
use Rattle.refusal.specs.declared.Accepted.TheVariants.{Taken}
use Rattle.std.specs.Prelude.{None, Some, Ok}
use Prim.Native.Nat.{ℕ}
use mathlib.Core.Path.{◌≡◌, refl, ap, subst}
use mathlib.Core.Bool.{true, false}
use mathlib.Core.List.{List, [], ◌∷◌, map, Memᴰ}
use lib.ListN.{get_or}
use Rattle.refusal.specs.First.{first_answer, Answer}
use Rattle.settings.specs.Settings.{over_counts, near, all_near, settings_tests, walks_of, canonical_of}
use Rattle.stops.specs.Answer.{station_of, id_wrong, is_known, type_wrong, name_needed, name_wrong, stop_tests}
use Rattle.stops.specs.Sound.{stop_at}
use Rattle.stops.specs.Taken.{stop_of}
use Rattle.texts.specs.Texts.{held}
use Rattle.calls.specs.Calls.{known, call_tests, call_fit, call_on}
use Rattle.calls.specs.Tables.{cut, fitted}
use Rattle.calls.specs.Windows.{time_after, seen_call, seen}
use Rattle.calendar.specs.Dates.{year_of, month_of, day_of, is_leap, months, month_days, is_date, year_days, months_days, day_number}
use Rattle.calendar.specs.Dates.{weekday_of}
use Rattle.services.specs.Wrong.{dates_wrong, span_wrong, exception_wrong}
use Rattle.services.specs.Exceptions.{mark, joined_on, excepted_of}
use Rattle.services.specs.Runs.{by_week, runs_by_of, runs_of}
use Rattle.week.specs.Weeks.{undated_week, dated_week, service_of, service_tests, service_on, exception_tests, exception_on, running}
use Rattle.load.specs.Load.{empty_of, stopped}
use Rattle.laws.specs.Tables.{table}
use Rattle.rules.specs.Rules.{rule_tests}
use Rattle.transfer.specs.Copied.{parents_of}
use Rattle.transfer.specs.Changes.{ends_of_of, transfer_of}
use Rattle.load.specs.Steps.{Opening, undated, open_answer, opened, stop_spec, plain_call, gate_answer, dated_call, call_spec, rule_spec}
use Rattle.load.specs.Steps.{service_spec, exception_spec}
use Rattle.load.specs.Sound.{Opens}
use Rattle.profile.specs.declared.Journey.{Journey}
use Rattle.profile.specs.declared.figures.Figures.{Figures}
use Rattle.profile.specs.Figures.{covᶠ, dueᶠ, lexb}
use Rattle.profile.specs.Journeys.{journey_figures}
use Rattle.profile.specs.Instances.{figures_of}
use Rattle.profile.specs.Front.{front}
use Rattle.profile.specs.Best.{sooner}
use Rattle.profile.proofs.FrontLaws.{after-mem}
use Rattle.laws.proofs.Sort.{sort-mem}
use Rattle.best.specs.Best.{kept_of}
use Rattle.steps.specs.Steps.{Step}
use Rattle.offers.specs.Order.{clash}
use Rattle.ways.specs.Rides.{rides, first_rides, joined_rides, directs}
use Rattle.ways.specs.Routes.{onward, pass, routes}
use Rattle.offers.specs.Offers.{network_of, offers}
use Rattle.offers.specs.Search.{search_of}
use Rattle.search.specs.Timetable.{timetable_of}
use Rattle.search.specs.Search.{outcome_of, search_spec}
use Rattle.withdrawal.specs.Removal.{has_key, key_known, withdrawn}
use Rattle.search.specs.Within.{outcome_within, finishes_in, within_spec}
use Rattle.counted.specs.Joins.{join_events, change_events, events}
use Rattle.limited.specs.Limited.{events_of, offers_within, joins_within, finished_within, search_within}
use Rattle.again.specs.Again.{unsearched_of, researched, again, added_to, add_spec_of, taken_out, withdraw_spec}
use Rattle.steps.specs.Lists.{end_of, offers_of}
use Rattle.steps.proofs.HeldLaws.{searched-holds}
use Rattle.comparison.specs.Taken.{fresh}
use Rattle.comparison.specs.Runs.{Runs, Admitted, Finished}
use Rattle.comparison.specs.Demands.{answers_from}
use Rattle.comparison.specs.Witness.{settings_with, some_settings, some_opening, some_dates, one_trip, added_trip, withdrawn_trip}
use Rattle.comparison.specs.Witness.{two_trips, three_trips, limited_trips, limited_less, dated_trip, kept_by, kept_figures, StoppedAt}
use Rattle.comparison.specs.Witness.{Met}
use Rattle.comparison.proofs.StartLaws.{}
use Rattle.comparison.proofs.DemandLaws.{ending, run, same-admitted}

-- what the program answers
pub record Computed : Type 0 where
  pub opens : Opens some_opening
  pub answers : answers_from (opened some_opening) (one_trip 600 1200) ≡ Ok Taken ∷ Ok Taken ∷ Ok Taken ∷ Ok Taken ∷ Ok Taken ∷ []
  pub searched : (end_of some_opening (one_trip 600 1200)).searched ≡ true
  pub finished : stopped (end_of some_opening (one_trip 600 1200)) ≡ false

pub record Kept : Type 0 where
  pub one-trip : kept_figures (one_trip 600 1200) ≡ figures_of 300 1320 1 5 ∷ []
  pub at_zero : kept_figures (one_trip 300 1200) ≡ figures_of 0 1320 1 5 ∷ []
  pub not_boarded : kept_figures (one_trip 299 1200) ≡ []
  pub at_horizon : kept_figures (one_trip 600 21480) ≡ figures_of 300 21600 1 5 ∷ []
  pub past_horizon : kept_figures (one_trip 600 21481) ≡ []

pub computed : Computed
unfolding first_answer over_counts near all_near settings_tests walks_of canonical_of station_of id_wrong is_known type_wrong name_needed
    name_wrong stop_tests stop_at stop_of held known call_tests call_fit call_on cut fitted time_after seen_call seen open_answer empty_of
    undated_week stop_spec plain_call call_spec add_spec_of lexb clash rides first_rides joined_rides network_of offers search_of
    timetable_of outcome_of search_spec onward pass routes
computed = record { opens = (refl, tt); answers = refl; searched = refl; finished = refl }

record Changed : Type 0 where
  finished : stopped (end_of (undated (settings_with 1)) (two_trips 1240)) ≡ false
  opens : Opens (undated (settings_with 1))
  searched : (end_of (undated (settings_with 1)) (two_trips 1240)).searched ≡ true
  kept : kept_by (undated (settings_with 1)) (two_trips 1240) ≡ figures_of 300 1620 2 5 ∷ []
  missed : kept_by (undated (settings_with 1)) (two_trips 1239) ≡ []

changed : Changed
unfolding first_answer over_counts near all_near settings_tests walks_of canonical_of station_of id_wrong is_known type_wrong name_needed
    name_wrong stop_tests stop_at stop_of held known call_tests call_fit call_on cut fitted time_after seen_call seen open_answer empty_of
    undated_week stop_spec plain_call call_spec add_spec_of rule_tests rule_spec table parents_of ends_of_of transfer_of lexb clash rides
    first_rides joined_rides network_of offers search_of timetable_of outcome_of search_spec onward pass routes
changed = record { finished = refl; opens = (refl, tt); searched = refl; kept = refl; missed = refl }

-- by two changes
record Through : Type 0 where
  finished : stopped (end_of (undated (settings_with 2)) (three_trips 1740)) ≡ false
  opens : Opens (undated (settings_with 2))
  searched : (end_of (undated (settings_with 2)) (three_trips 1740)).searched ≡ true
  kept : kept_by (undated (settings_with 2)) (three_trips 1740) ≡ figures_of 300 2120 3 5 ∷ []
  missed : kept_by (undated (settings_with 2)) (three_trips 1739) ≡ []
  one_change : kept_by (undated (settings_with 1)) (three_trips 1740) ≡ []

through : Through
unfolding first_answer over_counts near all_near settings_tests walks_of canonical_of station_of id_wrong is_known type_wrong name_needed
    name_wrong stop_tests stop_at stop_of held known call_tests call_fit call_on cut fitted time_after seen_call seen open_answer empty_of
    undated_week stop_spec plain_call call_spec add_spec_of rule_tests rule_spec table parents_of ends_of_of transfer_of lexb clash rides
    first_rides joined_rides network_of offers search_of timetable_of outcome_of search_spec onward pass routes
through = record { finished = refl; opens = (refl, tt); searched = refl; kept = refl; missed = refl; one_change = refl }

-- with dates
record Dated : Type 0 where
  finished : stopped (end_of some_dates (dated_trip 20230109)) ≡ false
  opens : Opens some_dates
  searched : (end_of some_dates (dated_trip 20230109)).searched ≡ true
  kept : kept_by some_dates (dated_trip 20230109) ≡ figures_of 300 1320 1 5 ∷ []
  removed : kept_by some_dates (dated_trip 20230102) ≡ []

in-dates : Dated
unfolding first_answer over_counts near all_near settings_tests walks_of canonical_of station_of id_wrong is_known type_wrong name_needed
    name_wrong stop_tests stop_at stop_of held known call_tests call_fit call_on cut fitted time_after seen_call seen open_answer empty_of
    dated_week dates_wrong year_of month_of day_of is_leap months month_days is_date year_days months_days day_number weekday_of
    span_wrong exception_wrong service_of service_tests service_on exception_tests mark joined_on excepted_of exception_on by_week
    runs_by_of runs_of running service_spec exception_spec stop_spec plain_call gate_answer dated_call call_spec add_spec_of lexb clash
    rides first_rides joined_rides network_of offers search_of timetable_of outcome_of search_spec onward pass routes
in-dates = record { finished = refl; opens = (refl, refl); searched = refl; kept = refl; removed = refl }

-- after the search
record Later : Type 0 where
  adding : (end_of some_opening added_trip).searched ≡ true
  added : stopped (end_of some_opening added_trip) ≡ false
  taken : stopped (end_of some_opening withdrawn_trip) ≡ false
  more : kept_figures added_trip ≡ figures_of 400 1220 1 5 ∷ []
  taking : (end_of some_opening withdrawn_trip).searched ≡ true
  less : kept_figures withdrawn_trip ≡ figures_of 300 1320 1 5 ∷ []

later : Later
unfolding first_answer over_counts near all_near settings_tests walks_of canonical_of station_of id_wrong is_known type_wrong name_needed
    name_wrong stop_tests stop_at stop_of held known call_tests call_fit call_on cut fitted time_after seen_call seen open_answer empty_of
    undated_week stop_spec plain_call call_spec add_spec_of lexb clash rides first_rides joined_rides network_of offers search_of
    timetable_of outcome_of search_spec added_to researched again unsearched_of has_key key_known withdrawn taken_out withdraw_spec onward
    routes pass
later = record { adding = refl; added = refl; taken = refl; more = refl; taking = refl; less = refl }

-- within a limit
record Limited : Type 0 where
  none-tested : kept_by (undated (settings_with 1)) (limited_trips 0) ≡ figures_of 300 1320 1 5 ∷ []
  two_tested : kept_by (undated (settings_with 1)) (limited_trips 2) ≡ figures_of 400 1220 1 5 ∷ []
  three : (end_of (undated (settings_with 1)) (limited_trips 3)).limit ≡ Some 3
  four : (end_of (undated (settings_with 1)) (limited_trips 4)).limit ≡ None
  less : (end_of (undated (settings_with 1)) (limited_less 0)).limit ≡ Some 0
  one_left : (end_of (undated (settings_with 1)) (limited_less 1)).limit ≡ None

within-limits : Limited
unfolding first_answer over_counts near all_near settings_tests walks_of canonical_of station_of id_wrong is_known type_wrong name_needed
    name_wrong stop_tests stop_at stop_of held known call_tests call_fit call_on cut fitted time_after seen_call seen open_answer empty_of
    undated_week stop_spec plain_call call_spec add_spec_of lexb clash rides first_rides joined_rides network_of offers search_of
    timetable_of outcome_of search_spec added_to researched again unsearched_of has_key key_known withdrawn taken_out withdraw_spec onward
    routes pass rule_tests rule_spec table parents_of ends_of_of transfer_of directs join_events change_events events events_of
    offers_within joins_within finished_within search_within outcome_within finishes_in within_spec
within-limits = record { none-tested = refl; two_tested = refl; three = refl; four = refl; less = refl; one_left = refl }

-- what the load says was taken
stopped-at : (o : Opening) (w : Opens o) (xs : List Step) (n : ℕ) → (end_of o xs).limit ≡ Some n → StoppedAt o xs n
stopped-at o w xs n e = record { answers = answers_from (opened o) xs; end = ending o w xs; runs = run o w xs; limit = e }

finished-so : (o : Opening) (w : Opens o) (xs : List Step) → (end_of o xs).limit ≡ None → Finished o xs
finished-so o w xs e = record { answers = answers_from (opened o) xs; end = ending o w xs; runs = run o w xs; finished = e }

pub kept : Kept
unfolding first_answer over_counts near all_near settings_tests walks_of canonical_of station_of id_wrong is_known type_wrong name_needed
    name_wrong stop_tests stop_at stop_of held known call_tests call_fit call_on cut fitted time_after seen_call seen open_answer empty_of
    undated_week stop_spec plain_call call_spec add_spec_of lexb clash rides first_rides joined_rides network_of offers search_of
    timetable_of outcome_of search_spec onward pass routes
kept = record { one-trip = refl; at_zero = refl; not_boarded = refl; at_horizon = refl; past_horizon = refl }

-- a list of one by its figures
one-of : (ks : List Journey) (f : Figures) → map journey_figures ks ≡ f ∷ [] → (j : Journey) × Memᴰ j ks × (journey_figures j ≡ f)
one-of [] f e = absurd (cc)
one-of (k ∷ ks) f e = (k, Memᴰ.head refl, ap (λ (l : List Figures). get_or l 0 f) e)

one_kept : (s : Opening) (xs : List Step) → (o : Opens s) → (end_of s xs).searched ≡ true → stopped (end_of s xs) ≡ false → (j : Journey)
    → Memᴰ j (kept_of (end_of s xs)) → Admitted s xs j
one_kept s xs o d f j m =
    let w = searched-holds s xs o d f in
    let n = after-mem (covᶠ journey_figures) (dueᶠ journey_figures) (end_of s xs).horizon [] (offers_of s xs)
    (sort-mem (sooner journey_figures) (front (covᶠ journey_figures) (dueᶠ journey_figures) (end_of s xs).horizon (offers_of s xs))
    (subst (Memᴰ j) w.unbeaten m)) in
    (same-admitted s xs o j).0 ((w.admitted j).0 n.0)

pub met : Met
met =
    let o = computed.opens in
    let xs = one_trip 600 1200 in
    let (j, m, e) = one-of (kept_of (end_of some_opening xs)) (figures_of 300 1320 1 5) kept.one-trip in
    let (k, l, g) = one-of (kept_of (end_of some_dates (dated_trip 20230109))) (figures_of 300 1320 1 5) in-dates.kept in
    let (i, n, f) = one-of (kept_of (end_of (undated (settings_with 1)) (two_trips 1240))) (figures_of 300 1620 2 5) changed.kept in
    let (x, y, z) = one-of (kept_of (end_of (undated (settings_with 2)) (three_trips 1740))) (figures_of 300 2120 3 5) through.kept in
    let (a, b, c) = one-of (kept_of (end_of some_opening added_trip)) (figures_of 400 1220 1 5) later.more in
    let (p, q, r) = one-of (kept_of (end_of some_opening withdrawn_trip)) (figures_of 300 1320 1 5) later.less in
    record {
      opens = o;
      taken = record {
        end = ending some_opening o xs;
        runs = subst (λ (rs : List Answer). Runs some_settings (fresh None) xs rs (ending some_opening o xs)) computed.answers
            (run some_opening o xs);
        searched = computed.searched;
      };
      admitted = record { j = j; figures = e; admitted = one_kept some_opening xs o computed.searched computed.finished j m };
      kept = kept.one-trip;
      opens_changing = changed.opens;
      admitted_changing = record {
        j = i;
        figures = f;
        admitted = one_kept (undated (settings_with 1)) (two_trips 1240) changed.opens changed.searched changed.finished i n;
      };
      kept_changing = changed.kept;
      missed = changed.missed;
      opens_through = through.opens;
      admitted_through = record {
        j = x;
        figures = z;
        admitted = one_kept (undated (settings_with 2)) (three_trips 1740) through.opens through.searched through.finished x y;
      };
      kept_through = through.kept;
      missed_through = through.missed;
      one_change = through.one_change;
      opens_dated = in-dates.opens;
      admitted_dated = record {
        j = k;
        figures = g;
        admitted = one_kept some_dates (dated_trip 20230109) in-dates.opens in-dates.searched in-dates.finished k l;
      };
      kept_dated = in-dates.kept;
      removed = in-dates.removed;
      admitted_added = record { j = a; figures = c; admitted = one_kept some_opening added_trip o later.adding later.added a b };
      kept_added = later.more;
      admitted_withdrawn = record { j = p; figures = r; admitted = one_kept some_opening withdrawn_trip o later.taking later.taken p q };
      kept_withdrawn = later.less;
      kept_none = within-limits.none-tested;
      kept_two = within-limits.two_tested;
      stopped_three = stopped-at (undated (settings_with 1)) changed.opens (limited_trips 3) 3 within-limits.three;
      finished_four = finished-so (undated (settings_with 1)) changed.opens (limited_trips 4) within-limits.four;
      stopped_less = stopped-at (undated (settings_with 1)) changed.opens (limited_less 0) 0 within-limits.less;
      finished_less = finished-so (undated (settings_with 1)) changed.opens (limited_less 1) within-limits.one_left;
    }
