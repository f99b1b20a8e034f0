-- The load and its steps as a machine of crate `offers`, over which demands 2 and 3 are proved.
use Rattle.std.specs.Prelude.{not, ◌&&◌}
use Rattle.offers.specs.Machine.{Machine}
use Rattle.load.specs.declared.Load.{Load}
use Rattle.load.specs.Load.{stopped}
use Rattle.load.specs.Steps.{Opening, opened}
use Rattle.load.specs.Sound.{Opens}
use Rattle.search.specs.Timetable.{timetable_of}
use Rattle.best.specs.Best.{answer_of, kept_of, best_spec}
use Rattle.steps.specs.Steps.{Step}
use Rattle.steps.specs.Lists.{next, ran}

abbrev pub machine : Machine
machine = record {
  Settings = Opening;
  Load = Load;
  Step = Step;
  Opens = Opens;
  now = λ o. o.settings.now;
  opened = opened;
  step = next;
  ran = ran;
  done = λ l. l.searched;
  finished = λ l. l.searched && not (stopped l);
  timetable = timetable_of;
  table_horizon = λ l. l.table_horizon;
  table_limits = λ l. l.table_limits;
  kept = kept_of;
  horizon = λ l. l.horizon;
  limits = λ l. l.limits;
  best = λ l z. answer_of (best_spec l z);
}
