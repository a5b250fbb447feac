use Rattle.std.proofs.Common.{◌≡◌, ◌*◌, ◌^◌, take}
use Rattle.report_writer.specs.Brief.{entries_of}
use Rattle.report_writer.specs.Tally.{entries_counted, CountsUpTo}
use Rattle.report_writer.specs.declared.kinds.EntryKind.{EntryKind}
use Rattle.report_writer.proofs.counts.entry_counts.Given as goal

abbrev pub invariant-loop-log : goal.invariant-loop-log
invariant-loop-log l = record {
  value : (k : EntryKind) → entries_counted k l.counts ≡ entries_of k (take l.log-index l.logs);
  fits : CountsUpTo (l.log-index * 2 ^ 57) l.counts;
}
