use Rattle.std.proofs.Common.{◌≡◌, take, max, ℕ}
use Rattle.std.specs.Prelude.{fold, filter_map}
use Rattle.report_writer.specs.Brief.{installed}
use Rattle.report_writer.proofs.whole_summary.versions_in.Given as goal

abbrev pub invariant-loop-stamped : goal.invariant-loop-stamped
invariant-loop-stamped l = record {
  newest : l.newest ≡ fold max l.initial.newest (filter_map (λ e. installed l.handler.0 e.entry) (take l.stamped-index l.log.entries));
  last : l.last ≡ fold (λ (before version : ℕ). version) 0 (filter_map (λ e. installed l.handler.0 e.entry) (take l.stamped-index l.log.entries));
}
