use Rattle.std.proofs.Common.{◌≡◌, ◌≤◌, ◌*◌, ◌^◌, length, sum_by, take}
use Rattle.report_writer.proofs.counts.count_entries.Given as goal

abbrev pub invariant-loop-log : goal.invariant-loop-log
invariant-loop-log l = record { value : l.count ≡ sum_by (λ x. length x.entries) (take l.log-index l.logs); fits : l.count ≤ l.log-index * 2 ^ 57 }
