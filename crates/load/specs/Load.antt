-- The parts of a load, and a load with some of them changed. Two definitions name every field, `empty_with` and `remade`: a field that is
-- added touches these.
use Rattle.std.specs.Prelude.{ℕ, Bool, false, List, [], ◌∷◌, pos, replicate, None, Option, is_some}
use Rattle.settings.specs.declared.Settings.{Settings}
use Rattle.calls.specs.declared.Call.{Call}
use Rattle.calls.specs.declared.Table.{Table}
use Rattle.calls.specs.Tables.{blank_call}
use Rattle.rules.specs.declared.Rule.{Rule}
use Rattle.rules.specs.Rules.{blank_rule}
use Rattle.stops.specs.declared.Stop.{Stop}
use Rattle.stops.specs.Taken.{blank_stop}
use Rattle.profile.specs.declared.Journey.{Journey}
use Rattle.profile.specs.Journeys.{no_journey}
use Rattle.week.specs.declared.Week.{Week}
use Rattle.week.specs.Weeks.{undated_week}
use Rattle.load.specs.declared.Load.{Load}
use Rattle.stops.specs.Sizes.{stop_room}
use Rattle.calls.specs.Sizes.{call_room, longest_horizon}
use Rattle.rules.specs.Sizes.{rule_room}
use Rattle.profile.specs.Sizes.{kept_room}

-- nothing taken yet, every slot the record given for it: horizon 21600, limits 0
abbrev pub empty_with : Settings → Stop → Call → Rule → Journey → Week → Load
empty_with s a b r j w = record {
  settings = s;
  stops = replicate stop_room a;
  stop_count = 0;
  calls = replicate call_room b;
  call_count = 0;
  rules = replicate rule_room r;
  rule_count = 0;
  journeys = replicate kept_room j;
  journey_count = 0;
  table_horizon = longest_horizon;
  table_limits = 0;
  horizon = longest_horizon;
  limits = 0;
  searched = false;
  limit = None;
  week = w;
}

unfoldable pub empty_of : Settings → Week → Load
empty_of s w = empty_with s blank_stop blank_call blank_rule no_journey w

-- without dates
abbrev pub empty_load : Settings → Load
empty_load s = empty_of s undated_week

-- the settings of the load that stands beside a refused opening
abbrev pub blank_settings : Settings
blank_settings = record {
  origins = 0;
  targets = 0;
  origin_walks = 0 ∷ 0 ∷ 0 ∷ 0 ∷ [];
  target_walks = 0 ∷ 0 ∷ 0 ∷ 0 ∷ [];
  transfer_seconds = 0;
  max_transfers = 0;
  now = pos 0;
  epochs = pos 0 ∷ pos 0 ∷ pos 0 ∷ [];
}

-- the call table of a load
abbrev pub table_of : Load → Table
table_of l = record { calls = l.calls; count = l.call_count; horizon = l.table_horizon; limits = l.table_limits }

-- the search was stopped at a limit
abbrev pub stopped : Load → Bool
stopped l = is_some l.limit

-- what a query sees: the journeys, of which so many are kept, the horizon, the mark, whether the load is searched, and the limit at which
-- that search was stopped, if it was
pub record Seen : Type 0 where
  pub journeys : List Journey
  pub count : ℕ
  pub horizon : ℕ
  pub limits : ℕ
  pub searched : Bool
  pub limit : Option ℕ

abbrev pub seen_of : Load → Seen
seen_of l = record {
  journeys = l.journeys;
  count = l.journey_count;
  horizon = l.horizon;
  limits = l.limits;
  searched = l.searched;
  limit = l.limit;
}

-- the load with these stops, of which n are taken, this table, these rules, of which m are taken, this to be seen and this week; the
-- settings are l's
abbrev pub remade : Load → List Stop → ℕ → Table → List Rule → ℕ → Seen → Week → Load
remade l ss n t rs m k w = record {
  settings = l.settings;
  stops = ss;
  stop_count = n;
  calls = t.calls;
  call_count = t.count;
  rules = rs;
  rule_count = m;
  journeys = k.journeys;
  journey_count = k.count;
  table_horizon = t.horizon;
  table_limits = t.limits;
  horizon = k.horizon;
  limits = k.limits;
  searched = k.searched;
  limit = k.limit;
  week = w;
}

-- the same, with l's stops, rules and week
abbrev pub with_seen : Load → Table → Seen → Load
with_seen l t k = remade l l.stops l.stop_count t l.rules l.rule_count k l.week

-- the load with this table; until the search its horizon and limits are the table's
abbrev pub with_table : Load → Table → Load
with_table l t =
    with_seen l t (record {
      journeys = l.journeys;
      count = l.journey_count;
      horizon = t.horizon;
      limits = t.limits;
      searched = l.searched;
      limit = l.limit;
    })

-- the load with these stops, of which n are taken
abbrev pub with_stops : Load → List Stop → ℕ → Load
with_stops l ss n = remade l ss n (table_of l) l.rules l.rule_count (seen_of l) l.week

-- the load with these rules, of which n are taken
abbrev pub with_rules : Load → List Rule → ℕ → Load
with_rules l rs n = remade l l.stops l.stop_count (table_of l) rs n (seen_of l) l.week

-- the load with this week
abbrev pub with_week : Load → Week → Load
with_week l w = remade l l.stops l.stop_count (table_of l) l.rules l.rule_count (seen_of l) w
