use Rattle.std.proofs.Common.{◌≡◌, ◌≤◌, ◌+◌, ◌++◌, ℕ, List, take}
use Rattle.mate_journal.specs.declared.entry.Stamped.{Stamped}
use Rattle.report_writer.specs.declared.kinds.EntryKind.{EntryKind}
use Rattle.report_writer.specs.Tally.{entries_counted, IsLogTally}
use Rattle.report_writer.proofs.tally.LogTally.add_all.Given as goal

abbrev pub invariant-loop-stamped : goal.invariant-loop-stamped
invariant-loop-stamped l = record {
  tallies : (handlers : ℕ) (front : List Stamped) → IsLogTally handlers l.initial.self front → IsLogTally handlers l.self (front ++ take l.stamped-index l.entries);
  entries : l.self.entries ≡ l.initial.self.entries + l.stamped-index;
  counts : (k : EntryKind) → entries_counted k l.self.counts ≤ entries_counted k l.initial.self.counts + l.stamped-index;
}
