use Rattle.std.proofs.Common.{◌≡◌, ◌≤◌, ◌*◌, ◌^◌, sum_by, take}
use Rattle.report_writer.proofs.summary.entries.Given as goal

abbrev pub invariant-loop-tally : goal.invariant-loop-tally
invariant-loop-tally l = record { value : l.count ≡ sum_by (λ x. x.entries) (take l.tally-index l.nodes); fits : l.count ≤ l.tally-index * (3 * 2 ^ 56) }
