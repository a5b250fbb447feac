use Rattle.std.proofs.Common.{◌≡◌, take, length}
use Rattle.report_writer.specs.Tally.{IsLogTally}
use Rattle.node_runs.specs.Running.{HasRun}
use Rattle.node_runs.proofs.counting.sum_steps.Given as goal

abbrev pub invariant-loop-step : goal.invariant-loop-step
invariant-loop-step l = record {
  run : HasRun l.desc l.programs (take l.step-index l.list) l.node;
  count : l.events ≡ l.step-index;
  tallies : IsLogTally (length l.desc.handlers.items) l.tally (take l.node.gone.entries l.node.log.entries);
}
