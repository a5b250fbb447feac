use Rattle.report_writer.specs.Brief.{is_entry}
use Rattle.report_writer.specs.Tally.{entries_counted}
use Rattle.report_writer.specs.declared.kinds.EntryKind.{EntryKind}
use Rattle.report_writer.proofs.EntryCountLemmas.{AreCounted}
use Rattle.report_writer.proofs.counts.add_entries.Given as goal

abbrev pub invariant-loop-stamped : goal.invariant-loop-stamped
invariant-loop-stamped l = (k : EntryKind) → AreCounted (λ e. is_entry k e.entry) l.entries l.stamped-index (entries_counted k l.initial.counts) (entries_counted k l.counts)
