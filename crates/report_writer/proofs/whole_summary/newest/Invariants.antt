use Rattle.std.proofs.Common.{◌≡◌, ◌==◌, ◌≤◌, take}
use Rattle.std.specs.Prelude.{count_by}
use Rattle.report_writer.specs.Brief.{newest, last}
use Rattle.report_writer.proofs.whole_summary.newest.Given as goal

abbrev pub invariant-loop-log : goal.invariant-loop-log
invariant-loop-log l = record {
  version : l.version ≡ newest l.handler.0 (take l.log-index l.logs);
  holders : l.holders ≡ count_by (λ x. last l.handler.0 x == newest l.handler.0 (take l.log-index l.logs)) (take l.log-index l.logs);
  within : l.holders ≤ l.log-index;
}
