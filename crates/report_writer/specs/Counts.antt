-- What the entries of logs are counted into.
use Rattle.std.specs.Prelude.{◌≡◌, ℕ, ◌+◌, ◌==◌, if◌then◌else◌, List, count_by}
use Rattle.mate_journal.specs.declared.entry.Stamped.{Stamped}
use Rattle.report_writer.specs.Brief.{is_entry, one_if}
use Rattle.report_writer.specs.declared.kinds.EntryKind.{EntryKind}
use Rattle.report_writer.specs.Tally.{entries_counted}
use Rattle.report_writer.specs.declared.tally.EntryCounts.{EntryCounts}

-- entries are added to the counts, each to that of its kind
abbrev pub CountsEntries : EntryCounts → EntryCounts → List Stamped → Type 0
CountsEntries old new es = (k : EntryKind) → entries_counted k new ≡ entries_counted k old + count_by (λ e. is_entry k e.entry) es

-- how many nodes have a handler's newest version as their last one, with a node more: `held` have `before`, the newest
-- one so far
abbrev pub holders_after : ℕ → ℕ → ℕ → ℕ → ℕ
holders_after before held now last = (if now == before then held else 0) + one_if (last == now)
