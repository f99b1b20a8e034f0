-- The state of a search over calls in places, every offer made, and the load that is given what a state keeps.
use Rattle.std.specs.Prelude.{true, List, map, ℕ, min, get_or, Option}
use Rattle.laws.specs.Lists.{padded}
use Rattle.calls.specs.declared.Call.{Call}
use Rattle.calls.specs.Tables.{blank_call}
use Rattle.profile.specs.Found.{Row}
use Rattle.profile.specs.Best.{ordered}
use Rattle.profile.specs.Journeys.{no_journey, row_figures}
use Rattle.profile.specs.Kept.{SearchState, searched}
use Rattle.search_state.specs.View.{count_of, kept_of, horizon_of, limits_of}
use Rattle.kept_journeys.specs.Kept.{journey_of}
use Rattle.load.specs.declared.Load.{Load}
use Rattle.load.specs.Load.{with_seen}
use Rattle.search.specs.Timetable.{timetable_of}
use Rattle.search.specs.Rows.{row_offers}
use Rattle.calls.specs.Sizes.{call_room}
use Rattle.profile.specs.Sizes.{kept_room, least_horizon}

-- the call at a place
abbrev pub placed : List Call → ℕ → Call
placed calls i = get_or calls i blank_call

unfoldable pub offered_of : Load → List Call → SearchState Row
offered_of l calls = searched row_figures kept_room least_horizon l.table_horizon l.table_limits
    (row_offers (timetable_of l) (placed calls) (min l.call_count call_room))

-- the load with these calls, searched: with what the state keeps, and the limit at which the search was stopped, if it was
abbrev pub found_in : Load → List Call → List ℕ → Option ℕ → Load
found_in l calls st n =
    with_seen l (record { calls = calls; count = l.call_count; horizon = l.table_horizon; limits = l.table_limits })
    (record {
      journeys = padded no_journey kept_room (map (journey_of calls) (ordered row_figures (kept_of st)));
      count = count_of st;
      horizon = horizon_of st;
      limits = limits_of st;
      searched = true;
      limit = n;
    })
