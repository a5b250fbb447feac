use Rattle.std.proofs.Common.{◌≡◌, length, []}
use Rattle.std.specs.Prelude.{All}
use Rattle.report_writer.specs.Tally.{IsLogTally}
use Rattle.report_writer.specs.declared.tally.LogTally.{LogTally}
use Rattle.report_writer.proofs.summary.RunTally.new.Given as goal

abbrev pub invariant-loop-node : goal.invariant-loop-node
invariant-loop-node l = record { count : length l.tallies.items ≡ l._node; none : All (λ (a : LogTally). IsLogTally l.handlers a []) l.tallies.items }
