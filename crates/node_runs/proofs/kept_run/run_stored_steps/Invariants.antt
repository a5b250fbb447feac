use Rattle.std.proofs.Common.{◌≡◌, take, length}
use Rattle.mate_journal.specs.OpenLog.{nothing_gone}
use Rattle.node_runs.specs.Running.{HasRun}
use Rattle.node_runs.proofs.kept_run.run_stored_steps.Given as goal

abbrev pub invariant-loop-step : goal.invariant-loop-step
invariant-loop-step l = record {
  run : HasRun l.desc l.programs (take l.step-index l.list) l.node;
  count : l.events ≡ l.step-index;
  gone : l.node.gone ≡ nothing_gone;
  one : length l.logs ≡ 1;
}
