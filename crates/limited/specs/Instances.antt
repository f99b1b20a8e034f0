-- A search within limits 0 to 5, by computation: two rides from the origin to the target, of trip 1 from 10 to 90 and of trip 2 from 20
-- to 80; and the margin where another trip reaches the target without an origin, and a call at it is alighted by no ride.
use Rattle.std.specs.Prelude.{◌≡◌, true, false, cond, List, [], ◌∷◌, ℕ, eqb, None, Some}
use Rattle.calls.specs.declared.Call.{Call}
use Rattle.profile.specs.declared.figures.Figures.{Figures}
use Rattle.profile.specs.Instances.{figures_of}
use Rattle.offers.specs.Offers.{Timetable}
use Rattle.offers.specs.Marked.{call_at, kept_by}
use Rattle.limited.specs.Limited.{joins_within, finished_within, search_within}
use Rattle.limited.specs.Margin.{margin_within}

-- stop 0 is of the one origin, stop 1 of the one target; no walk, and no ride joins another
abbrev pub table_of : ℕ → List Call → Timetable
table_of depth cs =
    record {
      calls = cs;
      members = λ s. cond (eqb s 0) 1 (cond (eqb s 1) 16 0);
      origins = 1;
      targets = 1;
      origin_walk = λ o. 0;
      target_walk = λ k. 0;
      max_transfers = depth;
      joins = λ f c. false;
    }

abbrev pub two : List Call
two = call_at 1 1 0 10 ∷ call_at 1 2 1 90 ∷ call_at 2 1 0 20 ∷ call_at 2 2 1 80 ∷ []

-- trip 3 goes from stop 2 to the target, from 30 to 70; trip 4 starts at the target, at 60
abbrev pub four : List Call
four = call_at 3 1 2 30 ∷ call_at 3 2 1 70 ∷ call_at 4 1 1 60 ∷ call_at 4 2 2 65 ∷ two

-- the figures kept within the limit n
abbrev pub kept_within : ℕ → List Figures
kept_within n = kept_by (search_within n (table_of 1 two) 21600 0)

pub record WithinLimits : Type 0 where
  -- limit 0: the first direct journey is offered before any join
  pub zero_kept : kept_within 0 ≡ figures_of 10 90 1 0 ∷ []
  pub zero_stopped : finished_within 0 (table_of 1 two) ≡ false
  -- 1 of 4: the same; 2 of 4: the second too, and it beats the first
  pub one_kept : kept_within 1 ≡ figures_of 10 90 1 0 ∷ []
  pub two_kept : kept_within 2 ≡ figures_of 20 80 1 0 ∷ []
  pub two_tested : joins_within 2 (table_of 1 two) ≡ 2
  -- 3 stopped, 4 finished, 5 finished, with four joins
  pub three_stopped : finished_within 3 (table_of 1 two) ≡ false
  pub four_finished : finished_within 4 (table_of 1 two) ≡ true
  pub five_finished : finished_within 5 (table_of 1 two) ≡ true
  pub five_tested : joins_within 5 (table_of 1 two) ≡ 4
  -- max_transfers 0: no join, and finished with limit 0
  pub direct_tested : joins_within 0 (table_of 0 two) ≡ 0
  pub direct_finished : finished_within 0 (table_of 0 two) ≡ true
  -- the margin: 90 less 80; less 70, of a ride from no origin, and not less 60, of a call that no ride alights at; none once finished
  pub margin_two : margin_within 0 (table_of 1 two) 21600 0 ≡ Some 10
  pub margin_four : margin_within 0 (table_of 1 four) 21600 0 ≡ Some 20
  pub margin_finished : margin_within 4 (table_of 1 two) 21600 0 ≡ None
  -- with nothing found yet there is none: trip 1 ends at stop 2, and the search stops at its first join
  pub margin_nothing : margin_within 0 (table_of 1 (call_at 1 1 0 10 ∷ call_at 1 2 2 90 ∷ call_at 2 1 0 20 ∷ call_at 2 2 1 80 ∷ [])) 21600
      0 ≡ None
