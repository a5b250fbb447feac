use Rattle.std.proofs.Common.{◌≡◌, take}
use Rattle.report_writer.specs.Writing.{HasWritten}
use Rattle.report_writer.specs.Text.{lines}
use Rattle.node_runs.specs.Running.{HasRun}
use Rattle.node_runs.specs.Keeping.{StaysAsToldTo}
use Rattle.node_runs.proofs.WrittenLemmas.{one}
use Rattle.node_runs.proofs.writing.write_run.Given as goal

abbrev pub invariant-loop-step : goal.invariant-loop-step
invariant-loop-step g l = record {
  run : HasRun l.desc l.programs (take l.step-index l.list) l.node;
  count : l.events ≡ l.step-index;
  written : HasWritten (g.S.Sink.written l.fn.out) (g.S.Sink.faults l.fn.out) (g.S.Sink.written l.out) (g.S.Sink.faults l.out) (lines l.desc (one l.node.log));
  gone : StaysAsToldTo l.written l.fn.node.gone l.node.gone;
}
