-- By computation.
use mathlib.Core.Path.{◌≡◌, refl}
use mathlib.Core.Bool.{true}
use mathlib.Core.List.{[], ◌∷◌}
use Rattle.std.specs.Prelude.{pos, ℕ}
use Rattle.refusal.specs.First.{first_answer}
use Rattle.settings.specs.Settings.{over_counts, near, all_near, settings_tests, walks_of, canonical_of}
use Rattle.stops.specs.Answer.{station_of, id_wrong, is_known, type_wrong, name_needed, name_wrong, stop_tests}
use Rattle.stops.specs.Sound.{stop_at}
use Rattle.stops.specs.Taken.{stop_of}
use Rattle.texts.specs.Texts.{held}
use Rattle.calls.specs.Calls.{known, call_tests, call_fit, call_on}
use Rattle.calls.specs.Tables.{cut, fitted}
use Rattle.calls.specs.Windows.{time_after, seen_call, seen}
use Rattle.week.specs.Weeks.{undated_week}
use Rattle.load.specs.Load.{empty_of}
use Rattle.load.specs.Sound.{Opens}
use Rattle.laws.specs.Tables.{table}
use Rattle.rules.specs.Rules.{rule_tests}
use Rattle.transfer.specs.Copied.{parents_of}
use Rattle.transfer.specs.Changes.{ends_of_of, transfer_of}
use Rattle.load.specs.Steps.{open_answer, stop_spec, plain_call, call_spec, rule_spec}
use Rattle.profile.specs.Figures.{lexb}
use Rattle.offers.specs.Order.{clash}
use Rattle.ways.specs.Rides.{rides, first_rides, joined_rides}
use Rattle.ways.specs.Routes.{onward, pass, routes}
use Rattle.offers.specs.Offers.{network_of, offers}
use Rattle.offers.specs.Search.{search_of}
use Rattle.search.specs.Timetable.{timetable_of}
use Rattle.search.specs.Search.{outcome_of, search_spec}
use Rattle.again.specs.Again.{add_spec_of}
use Rattle.written.specs.Keeps.{AllGive}
use Rattle.written.proofs.EndLaws.{end_whole}
use Rattle.codec.specs.Parts.{at_start}
use Rattle.writer.specs.Wrote.{unwritable}
use Rattle.saved.specs.Saved.{load_at_start, Passes}
use Rattle.saved.specs.Witness.{other_opening, saved_opening, some_steps, saved_load, other_load, Met}
use Rattle.saved.specs.Proved.{Proved}
use Rattle.saved.proofs.SearchedLaws.{records-taken, file-is, reads-back, one-file, one-file-back}
use Rattle.saved.proofs.EndLaws.{passes-writable, end-reads-back}

-- what is computed
record Computed : Type 0 where
  opens : Opens saved_opening
  other : Opens other_opening
  passes : Passes saved_load
  passes_other : Passes other_load
  stops : saved_load.stop_count ≡ 3
  rules : saved_load.rule_count ≡ 1
  calls : saved_load.call_count ≡ 2
  searched : saved_load.searched ≡ true
  journeys : saved_load.journey_count ≡ 1
  epochs : saved_load.settings.epochs ≡ pos 0 ∷ pos 60 ∷ pos 600 ∷ []
  one : load_at_start saved_load ≡ load_at_start other_load

computed : Computed
unfolding first_answer over_counts near all_near settings_tests walks_of canonical_of station_of id_wrong is_known type_wrong name_needed
    name_wrong stop_tests stop_at stop_of held known call_tests call_fit call_on cut fitted time_after seen_call seen open_answer empty_of
    undated_week stop_spec plain_call call_spec add_spec_of rule_tests rule_spec table parents_of ends_of_of transfer_of lexb clash rides
    first_rides joined_rides network_of offers search_of timetable_of outcome_of search_spec onward pass routes
    unwritable load_at_start at_start
computed = record {
  opens = (refl, tt);
  other = (refl, tt);
  passes = refl;
  passes_other = refl;
  stops = refl;
  rules = refl;
  calls = refl;
  searched = refl;
  journeys = refl;
  epochs = refl;
  one = refl;
}

gives : (before : ℕ) → AllGive (some_steps before)
gives before = (tt, (tt, (tt, (tt, (tt, (tt, tt))))))

pub met : Met
met = record {
  opens = computed.opens;
  gives = gives 600;
  passes = computed.passes;
  stops = computed.stops;
  rules = computed.rules;
  calls = computed.calls;
  searched = computed.searched;
  journeys = computed.journeys;
  read = end-reads-back saved_opening (some_steps 600) computed.opens (gives 600) computed.passes;
  epochs = computed.epochs;
  writable = passes-writable saved_load (end_whole saved_opening (some_steps 600) computed.opens (gives 600)) computed.passes;
  other = passes-writable other_load (end_whole other_opening (some_steps 0) computed.other (gives 0)) computed.passes_other;
  one = one-file-back saved_load other_load computed.one;
}

pub proved : Proved
proved = record {
  file = file-is;
  records = records-taken;
  reads = reads-back;
  ending = end-reads-back;
  one_file = one-file;
  back = one-file-back;
  met = met;
}
