use Rattle.std.proofs.Common.{◌≡◌, ◌≤◌, ◌==◌, take, count_by}
use Rattle.report_writer.specs.Tally.{versions_at}
use Rattle.report_writer.proofs.summary.holding.Given as goal

abbrev pub invariant-loop-tally : goal.invariant-loop-tally
invariant-loop-tally l = record {
  value : l.count ≡ count_by (λ t. (versions_at l.handler.0 t.versions.items).last == l.version) (take l.tally-index l.nodes);
  most : l.count ≤ l.tally-index;
}
