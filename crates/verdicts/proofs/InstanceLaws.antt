-- By computation.
use mathlib.Core.Path.{refl}
use Rattle.refusal.specs.First.{first_answer}
use Rattle.laws.specs.Tables.{table}
use Rattle.settings.specs.Settings.{over_counts, near, all_near, settings_tests, walks_of, canonical_of}
use Rattle.stops.specs.Answer.{station_of, id_wrong, is_known, type_wrong, name_needed, name_wrong, stop_tests}
use Rattle.stops.specs.Sound.{stop_at}
use Rattle.stops.specs.Taken.{stop_of}
use Rattle.texts.specs.Texts.{held}
use Rattle.calls.specs.Calls.{known, call_tests, call_fit, call_on}
use Rattle.calls.specs.Tables.{cut, fitted}
use Rattle.calls.specs.Windows.{time_after, seen_call, seen}
use Rattle.week.specs.Weeks.{undated_week}
use Rattle.rules.specs.Rules.{rule_tests}
use Rattle.places.specs.Places.{has_key as keyed, id_less, id_order, groups_of, places_of}
use Rattle.transfer.specs.Copied.{parents_of}
use Rattle.transfer.specs.Changes.{ends_of_of, transfer_of}
use Rattle.load.specs.Load.{empty_of}
use Rattle.load.specs.Steps.{open_answer, stop_spec, plain_call, call_spec, rule_spec}
use Rattle.profile.specs.Figures.{lexb}
use Rattle.offers.specs.Order.{clash}
use Rattle.ways.specs.Rides.{rides, first_rides, joined_rides}
use Rattle.ways.specs.Routes.{onward, pass, routes}
use Rattle.offers.specs.Offers.{network_of, offers}
use Rattle.offers.specs.Search.{search_of}
use Rattle.search.specs.Timetable.{timetable_of}
use Rattle.search.specs.Search.{outcome_of, search_spec}
use Rattle.withdrawal.specs.Removal.{has_key}
use Rattle.again.specs.Again.{add_spec_of}
use Rattle.connection.specs.Find.{find_in, find_leg, way_of}
use Rattle.connection.specs.Legs.{ride_right}
use Rattle.connection.specs.Ends.{low_digit, is_member_of}
use Rattle.connection.specs.Changes.{in_reach, change_tests}
use Rattle.listing.specs.Same.{same_ride, same_figures, same_journey}
use Rattle.listing.specs.Listed.{listed_in_of, judged_in}
use Rattle.verdict.specs.Verdicts.{ride_found, last_leg, middle_ride, last_ride, journey_on, ends_asked, changes_asked, causes_by}
use Rattle.verdict.specs.Verdicts.{finished_by, verdict_of}
use Rattle.verdicts.specs.Instances.{Instances}

pub instances : Instances
unfolding first_answer over_counts near all_near settings_tests walks_of canonical_of station_of id_wrong is_known type_wrong name_needed
    name_wrong stop_tests stop_at stop_of held known call_tests call_fit call_on cut fitted time_after seen_call seen open_answer empty_of
    undated_week stop_spec plain_call call_spec add_spec_of rule_tests rule_spec table parents_of keyed id_less id_order groups_of
    places_of ends_of_of transfer_of lexb clash rides first_rides joined_rides network_of offers search_of timetable_of outcome_of
    search_spec onward pass routes has_key find_in find_leg way_of ride_right low_digit is_member_of in_reach change_tests same_ride
    same_figures same_journey listed_in_of judged_in ride_found last_leg middle_ride last_ride journey_on ends_asked changes_asked
    causes_by verdict_of finished_by
instances = record { opens = (refl, tt); finished = refl; each = refl; none = refl }
