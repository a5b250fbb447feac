-- What was written of a world's run is what is promised.
use Rattle.std.proofs.Common.{ℕ, List, Option, refl}
use Rattle.mate_journal.specs.NodeScript.{RunEnd}
use Rattle.mate_journal.specs.Ranges.{HasReportRanges}
use Rattle.mate_journal.specs.declared.report.Report.{Report}
use Rattle.report_text.specs.Parts.{IsSameReport}
use Rattle.world_runs.proofs.RecordLemmas.{all-self}
use Rattle.mate_journal.specs.declared.program.Program.{Program}
use Rattle.node_programs.specs.WorldPrograms.{AreProgramsOfWorld}
use Rattle.world_runs.specs.declared.record.Record.{Record}
use Rattle.report_writer.specs.declared.pass.Pass.{Pass}
use Rattle.world_run_laws.specs.Promise.{IsReportOfWorld}
use Rattle.script_steps.specs.declared.world.World.{World as Script}
use Rattle.world_state.specs.Reporting.{told_report}
use Rattle.world_run_laws.specs.Coming.{code_world}
use Rattle.world_runs.specs.Writing.{WritesRecorded}
use Rattle.report_writer.specs.Writing.{WritesRun}
use Rattle.vm_shape.specs.declared.description.Description.{Description}
use Rattle.world_rules.specs.Report.{IsWorldReport}
use Rattle.world_runs.proofs.SameLemmas.{gives-as}

pub promised : (d : Description) (script : Script) (ps : List Program) (out out' : Option (List ℕ)) (f f' : ℕ) (pass : Pass) (kept : Option Record) → ((how : RunEnd) (r : Report) → AreProgramsOfWorld d script ps → IsWorldReport (code_world d script ps) how r → HasReportRanges r → IsReportOfWorld d script ps how r) → AreProgramsOfWorld d script ps
    → WritesRecorded d (IsWorldReport (code_world d script ps)) out out' f f' pass kept → WritesRun d (IsReportOfWorld d script ps) out out' f f' pass.result
promised d script ps out out' f f' pass kept keep right writes =
    let told : Report = told_report writes.ended pass.events pass.whole in
    let same : IsSameReport told told = record { nodes = all-self told.nodes; air = refl; events = refl; whole = refl } in
    record { report = told; gives = gives-as d (IsWorldReport (code_world d script ps)) (IsReportOfWorld d script ps) out out' told told same (λ how is. keep how told right is writes.ranges) f f' pass.result writes.gives }
