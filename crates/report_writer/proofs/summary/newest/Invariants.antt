use Rattle.std.proofs.Common.{◌≡◌, take}
use Rattle.report_writer.specs.Summary.{newest_counted}
use Rattle.report_writer.proofs.summary.newest.Given as goal

abbrev pub invariant-loop-tally : goal.invariant-loop-tally
invariant-loop-tally l = l.version ≡ newest_counted l.handler.0 (take l.tally-index l.nodes)
