-- "A stopped answer for second 0 also gives a margin: its arrival less the earliest arrival, walk included, of any ride in the table at a
-- target .. With nothing found yet there is no margin."
use Rattle.profile.specs.declared.Journey.{Journey}
use Rattle.std.specs.Prelude.{cond, ◌-◌, pos, None, Option, Some, ℕ}
use Rattle.offers.specs.Offers.{Timetable}
use Rattle.limited.specs.Margin.{earliest}
use Rattle.load.specs.declared.Load.{Load}
use Rattle.load.specs.Load.{stopped}
use Rattle.search.specs.Timetable.{timetable_of}
use Rattle.best.specs.Best.{best_spec}

-- the arrival of what was found less the earliest
unfoldable pub margin_from : Timetable → Option Journey → Option ℕ
margin_from t (Some j) = Some (j.arrival - earliest t)
margin_from t None = None

-- none of a load that is not stopped
unfoldable pub margin_spec : Load → Option ℕ
margin_spec l = cond (stopped l) (margin_from (timetable_of l) (best_spec l (pos 0))) None
