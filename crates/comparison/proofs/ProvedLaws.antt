-- All of it.
use Rattle.comparison.specs.Proved.{Proved}
use Rattle.comparison.proofs.DemandLaws.{demand-1, demand-2, demand-3}
use Rattle.comparison.proofs.OnlyRunningLaws.{only-running}
use Rattle.steps.proofs.DatedLaws.{dated-same, late-services, name-unread}
use Rattle.comparison.proofs.AgainLaws.{withdrawals}
use Rattle.comparison.proofs.LimitedLaws.{limits}
use Rattle.comparison.proofs.DisplayLaws.{displays}
use Rattle.comparison.proofs.WitnessLaws.{met}
use Rattle.comparison.proofs.MarkedLaws.{starred}

pub proved : Proved
proved = record {
  first = demand-1;
  second = demand-2;
  running = only-running;
  dated = dated-same;
  late = late-services;
  unread = name-unread;
  third = demand-3;
  withdrawals = withdrawals;
  limits = limits;
  displays = displays;
  met = met;
  starred = starred;
}
