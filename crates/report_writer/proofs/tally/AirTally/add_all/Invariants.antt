use Rattle.std.proofs.Common.{◌≡◌, ◌≤◌, ◌+◌, ◌++◌, List, take}
use Rattle.mate_journal.specs.declared.air.Aired.{Aired}
use Rattle.report_writer.specs.declared.kinds.AirKind.{AirKind}
use Rattle.report_writer.specs.Tally.{air_counted, IsAirTally}
use Rattle.report_writer.proofs.tally.AirTally.add_all.Given as goal

abbrev pub invariant-loop-aired : goal.invariant-loop-aired
invariant-loop-aired l = record {
  tallies : (front : List Aired) → IsAirTally l.initial.self front → IsAirTally l.self (front ++ take l.aired-index l.air);
  records : l.self.records ≡ l.initial.self.records + l.aired-index;
  counts : (k : AirKind) → air_counted k l.self ≤ air_counted k l.initial.self + l.aired-index;
}
