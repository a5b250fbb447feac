use Rattle.std.proofs.Common.{◌≡◌, ◌≤◌, ◌*◌, ◌^◌, take}
use Rattle.report_writer.specs.Summary.{entries_summed}
use Rattle.report_writer.proofs.summary.entries_of.Given as goal

abbrev pub invariant-loop-tally : goal.invariant-loop-tally
invariant-loop-tally l = record { value : l.count ≡ entries_summed l.kind (take l.tally-index l.nodes); fits : l.count ≤ l.tally-index * (3 * 2 ^ 56) }
