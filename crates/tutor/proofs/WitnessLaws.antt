-- By computation.
use mathlib.Core.Path.{◌≡◌, refl, sym, ap, ◌∙◌}
use mathlib.Core.Bool.{Bool, true, false, ◌&&◌}
use mathlib.Core.List.{List, [], ◌∷◌, ◌++◌}
use Prim.Native.Nat.{ℕ, ◌<◌}
use native.Mathlib.Omega.{arith}
use lib.ListN.{get_or}
use lib.Dec.{ltb}
use borrow.Author.Tests.{ltb-true}
use Rattle.laws.proofs.Bools.{and-true-left, and-true-right}
use Rattle.refusal.specs.First.{first_answer}
use Rattle.settings.specs.Settings.{over_counts, near, all_near, settings_tests, walks_of, canonical_of}
use Rattle.stops.specs.Answer.{station_of, id_wrong, is_known, type_wrong, name_needed, name_wrong, stop_tests}
use Rattle.stops.specs.Sound.{stop_at}
use Rattle.stops.specs.Taken.{stop_of}
use Rattle.texts.specs.Texts.{held}
use Rattle.calls.specs.Calls.{known, call_tests, call_fit, call_on}
use Rattle.calls.specs.Tables.{cut, fitted}
use Rattle.calls.specs.Windows.{time_after, seen_call, seen}
use Rattle.week.specs.Weeks.{undated_week}
use Rattle.load.specs.Load.{empty_of}
use Rattle.load.specs.Steps.{open_answer, open_spec_of, stop_spec, plain_call, call_spec}
use Rattle.profile.specs.Figures.{lexb}
use Rattle.offers.specs.Order.{clash}
use Rattle.ways.specs.Rides.{rides, first_rides, joined_rides}
use Rattle.ways.specs.Routes.{onward, pass, routes}
use Rattle.offers.specs.Offers.{network_of, offers}
use Rattle.offers.specs.Search.{search_of}
use Rattle.search.specs.Timetable.{timetable_of}
use Rattle.search.specs.Search.{outcome_of, search_spec}
use Rattle.again.specs.Again.{add_spec_of}
use Rattle.fields.specs.Numbers.{u16_at, u32_at, u64_at, signed_of}
use Rattle.fields.specs.Layout.{option_end, option_text_end, option_text_at, settings_filled_of, stop_filled_of, call_filled_of}
use Rattle.fields.specs.Layout.{search_filled_of}
use Rattle.fields.specs.Records.{walks_at, settings_in, degrees_at, stop_in, seconds_at, call_in}
use Rattle.file.specs.Record.{fresh_reader, kind_right, filled, record_tests, step_in, stepped_by, settled, record_spec}
use Rattle.file.specs.File.{version_answer, starts_whole, fed_by, fed_spec, end_answer, read_spec_of}
use Rattle.lines.specs.Decimal.{decimal_by, decimal, spaced}
use Rattle.lines.specs.Lines.{journey_text, journey_line_of, horizon_line_of, load_lines, lines_of}
use Rattle.lines.specs.Marked.{first_journey, first_horizon}
use Rattle.tutor.specs.Paper.{Bytes}
use Rattle.tutor.specs.Printed.{RefusedLine, refused_line, HorizonLine, horizon_line, Lines, last}
use Rattle.tutor.specs.Tutor.{printed, Answers}
use Rattle.tutor.specs.Witness.{first_load, Met, Proved}
use Rattle.tutor.proofs.TutorLaws.{tutors-answer}

first-printed : printed first_load ≡ first_journey ++ first_horizon
unfolding first_answer over_counts near all_near settings_tests walks_of canonical_of station_of id_wrong is_known type_wrong name_needed
    name_wrong stop_tests stop_at stop_of held known call_tests call_fit call_on cut fitted time_after seen_call seen open_answer
    open_spec_of empty_of undated_week stop_spec plain_call call_spec add_spec_of lexb clash rides first_rides joined_rides network_of
    offers search_of timetable_of outcome_of search_spec onward pass routes u16_at u32_at u64_at signed_of option_end option_text_end
    option_text_at settings_filled_of stop_filled_of call_filled_of search_filled_of walks_at settings_in degrees_at stop_in seconds_at
    call_in fresh_reader kind_right filled record_tests step_in stepped_by settled record_spec version_answer starts_whole fed_by fed_spec
    end_answer read_spec_of decimal_by decimal spaced journey_text journey_line_of horizon_line_of load_lines lines_of
first-printed = refl

-- the first letter of a line tells which it is
refused-starts : (n : ℕ) (xs : List ℕ) → RefusedLine n xs → get_or xs 0 0 ≡ 114
refused-starts n xs (refused_line w) = refl

horizon-starts : (h m : ℕ) (xs : List ℕ) → HorizonLine h m xs → get_or xs 0 0 ≡ 104
horizon-starts h m xs (horizon_line w r) = refl

no-journey : (h m : ℕ) (xs : List ℕ) → Lines [] h m xs → get_or xs 0 0 ≡ 104
no-journey h m xs (last w) = horizon-starts h m xs w

first-starts : get_or (printed first_load) 0 0 ≡ 106
first-starts = ap (λ (xs : List ℕ). get_or xs 0 0) first-printed

-- each byte, by a test
abbrev all_small : List ℕ → Bool
all_small [] = true
all_small (x ∷ xs) = ltb x 256 && all_small xs

small_bytes : (xs : List ℕ) → all_small xs ≡ true → Bytes xs
small_bytes [] e = tt
small_bytes (x ∷ xs) e = (
  ltb-true x 256 (and-true-left (ltb x 256) (all_small xs) e),
  small_bytes xs (and-true-right (ltb x 256) (all_small xs) e),
)

met : Met
met = record {
  bytes = small_bytes first_load refl;
  prints = first-printed;
  not_refused = λ n w. differ 106 114 (sym first-starts ∙ refused-starts n (printed first_load) w) (omega arith);
  searched = λ a. go a a.end.searched refl;
}
  where
    differ : (x y : ℕ) → x ≡ y → x < y → ⊥
    differ x y e h = absurd (omega arith)

    go : (a : Answers first_load (printed first_load)) (b : Bool) → a.end.searched ≡ b → b ≡ true
    go a true e = refl
    go a false e =
        let w = no-journey a.end.horizon a.end.limits (printed first_load) (a.unsearched e) in
        absurd (differ 104 106 (sym w ∙ first-starts) (omega arith))

pub proved : Proved
proved = record { answer = tutors-answer; met = met }
