use Rattle.std.proofs.Common.{◌≡◌, length}
use Rattle.std.specs.List.{All}
use Rattle.report_writer.specs.Tally.{versions_none}
use Rattle.report_writer.specs.declared.tally.Versions.{Versions}
use Rattle.report_writer.proofs.tally.LogTally.new.Given as goal

abbrev pub invariant-loop-handler : goal.invariant-loop-handler
invariant-loop-handler l = record { count : length l.versions.items ≡ l._handler; none : All (λ (v : Versions). v ≡ versions_none) l.versions.items }
