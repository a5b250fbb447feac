-- The report of a world is tidy.
use Rattle.std.proofs.Common.{◌≡◌, ℕ, ◌+◌, ◌<◌, ◌≤◌, length, sym, subst, arith}
use Rattle.std.specs.Prelude.{All, IsSomeAnd, slice_get}
use Rattle.std.proofs.lemmas.List.Elements.{All-same, All-weaker}
use Rattle.vm_shape.specs.declared.description.Description.{Description}
use Rattle.mate_journal.specs.Machine.{HeldProgram, Meaning}
use Rattle.mate_journal.specs.NodeScript.{RunEnd}
use Rattle.mate_journal.specs.Tidy.{EventsRise, IsTidyLog, HasFullImages}
use Rattle.mate_journal.specs.declared.air.Aired.{Aired}
use Rattle.mate_journal.specs.declared.report.Report.{Report}
use Rattle.report_writer.specs.Progress.{air_event}
use Rattle.report_writer.specs.Tidy.{IsTidy, IsAirInRange, AirNodesRise, Mark, marks, IsNoEarlier, AreOfOneNode}
use Rattle.script_steps.specs.declared.world.World.{World as Script}
use Rattle.script_steps.specs.World.{IsRightWorld}
use Rattle.world_rules.specs.World.{World, world_of}
use Rattle.world_rules.specs.Run.{airs}
use Rattle.world_rules.specs.Report.{IsWorldReport, IsLogOf}
use Rattle.world_run_laws.proofs.AirRecords.{HasAirInRange, IsAirOfRun, airs-of-run, script-air}
use Rattle.world_run_laws.proofs.AirOrder.{airs-rise, airs-nodes}
use Rattle.world_run_laws.proofs.Marks.{AreLogsFrom, IsMarkOfRun, each-log, run-marks, no-earlier, one-node}

logs-from : (w : World) (how : RunEnd) (r : Report) (is : IsWorldReport w how r) → AreLogsFrom w how is.moments 0 r.nodes
logs-from w how r is k below =
    let nodes = is.nodes in
    let same : k ≡ 0 + k = omega arith in
    subst (λ (i : ℕ). IsSomeAnd (slice_get r.nodes k) (IsLogOf w how is.moments i)) same (is.logs k (omega (arith, below, nodes)))

report-tidy : (w : World) (how : RunEnd) (r : Report) → w.nodes ≤ 64 → HasAirInRange w → IsWorldReport w how r → IsTidy w.description r
report-tidy w how r few fit is =
    let ms = is.moments in
    let nodes = is.nodes in
    let low = fit.nodes_low in
    let logs : AreLogsFrom w how ms 0 r.nodes = logs-from w how r is in
    let on_air : All (IsAirOfRun w ms) r.air = All-same (IsAirOfRun w ms) r.air (airs w ms) is.air (airs-of-run w ms fit is.come) in
    let of_run : All (IsMarkOfRun w ms) (marks r) = run-marks w how ms r on_air logs in
    record {
      nodes_low = omega (arith, nodes, low);
      nodes_high = omega (arith, nodes, few);
      logs = each-log (IsTidyLog w.description) w how ms 0 r.nodes (λ k l of. of.tidy) logs;
      images = each-log HasFullImages w how ms 0 r.nodes (λ k l of. of.images) logs;
      air_in_range = All-weaker (IsAirOfRun w ms) (λ (a : Aired). (a.node < length r.nodes) × IsAirInRange (length r.nodes) a.air)
          (λ a of. (subst (λ (n : ℕ). a.node < n) (sym nodes) of.node, subst (λ (n : ℕ). IsAirInRange n a.air) (sym nodes) of.in_range)) r.air on_air;
      air_ordered = subst (EventsRise air_event 0) (sym is.air) (airs-rise w ms fit is.come);
      air_nodes = subst AirNodesRise (sym is.air) (airs-nodes w ms fit is.come);
      in_time = All-weaker (IsMarkOfRun w ms) (λ (a : Mark). All (IsNoEarlier a) (marks r))
          (λ a p. All-weaker (IsMarkOfRun w ms) (IsNoEarlier a) (λ b q. no-earlier w ms a b low is.come p q) (marks r) of_run) (marks r) of_run;
      one_node = All-weaker (IsMarkOfRun w ms) (λ (a : Mark). All (AreOfOneNode (marks r) a) (marks r))
          (λ a p. All-weaker (IsMarkOfRun w ms) (AreOfOneNode (marks r) a) (λ b q. one-node w ms (marks r) a b of_run p q) (marks r) of_run) (marks r) of_run;
    }

pub world-tidy : (d : Description) (meaning : Meaning) (script : Script) (programs : ℕ → HeldProgram) (how : RunEnd) (r : Report)
    → IsRightWorld d script → IsWorldReport (world_of d meaning script programs) how r → IsTidy d r
world-tidy d meaning script programs how r right is = report-tidy (world_of d meaning script programs) how r right.nodes_high (script-air d meaning script programs right) is
