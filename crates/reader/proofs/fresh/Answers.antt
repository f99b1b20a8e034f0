-- The empty load of blank settings, not open.
use mathlib.Core.Path.{ap}
use mathlib.Core.Bool.{Bool, false}
use Rattle.load.specs.declared.Load.{Load}
use Rattle.file.specs.declared.Reader.{Reader}
use Rattle.file.specs.Record.{fresh_reader}
use Rattle.reader.proofs.fresh.Goals as goal

closed : Bool → Load → Reader
closed second l = record { opened = false; second = second; load = l }

pub returns : goal.returns
unfolding fresh_reader closed
returns c = ap (closed _) c.blank.ensures
