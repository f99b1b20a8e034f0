-- What a search is given, as a `Feed`: the settings and what stands taken. RULES 8.
use Rattle.settings.specs.declared.Settings.{Settings}
use Rattle.comparison.specs.Taken.{stops_in, calls_in, rules_in, State}
use Rattle.comparison.specs.Admitted.{Feed}
use Rattle.comparison.specs.Places.{OnePlace}

-- its horizon is the table's
abbrev pub feed_of : Settings → State → Feed
feed_of s t = record {
  settings = s;
  stops = stops_in t.taken;
  rules = rules_in t.taken;
  calls = calls_in t.taken;
  horizon = t.horizon;
  Place = OnePlace (stops_in t.taken);
}
