-- The report that is handed out is what is promised.
use Rattle.std.proofs.Common.{◌≡◌, ℕ, List, Option, Some, refl, sym, subst}
use Rattle.mate_journal.specs.NodeScript.{RunEnd}
use Rattle.mate_journal.specs.Ranges.{HasReportRanges}
use Rattle.mate_journal.specs.declared.report.Report.{Report}
use Rattle.report_text.specs.Parts.{IsSameReport}
use Rattle.mate_journal.specs.declared.program.Program.{Program}
use Rattle.node_programs.specs.WorldPrograms.{AreProgramsOfWorld}
use Rattle.world_runs.specs.declared.record.Record.{Record}
use Rattle.report_writer.specs.declared.pass.Pass.{Pass}
use Rattle.world_run_laws.specs.Promise.{IsReportOfWorld}
use Rattle.script_steps.specs.declared.world.World.{World as Script}
use Rattle.world_state.specs.Reporting.{told_report}
use Rattle.world_run_laws.specs.Coming.{code_world}
use Rattle.world_runs.specs.Writing.{WritesRecorded}
use Rattle.report_writer.specs.Writing.{WritesReport}
use Rattle.vm_shape.specs.declared.description.Description.{Description}
use Rattle.world_rules.specs.Report.{IsWorldReport}
use Rattle.world_runs.proofs.SameLemmas.{gives-as, report-as, ranges-as}

pub handed-out : (d : Description) (script : Script) (ps : List Program) (out out' : Option (List ℕ)) (f f' : ℕ) (pass : Pass) (kept : Record) (r : Report)
    → ((how : RunEnd) (x : Report) → AreProgramsOfWorld d script ps → IsWorldReport (code_world d script ps) how x → HasReportRanges x → IsReportOfWorld d script ps how x) → AreProgramsOfWorld d script ps
    → WritesRecorded d (IsWorldReport (code_world d script ps)) out out' f f' pass (Some kept) → r ≡ record { nodes = kept.logs.items; air = kept.air; events = pass.events; whole = pass.whole }
    → WritesReport d (IsReportOfWorld d script ps) out out' f f' pass.result r
handed-out d script ps out out' f f' pass kept r keep right writes is =
    let w = code_world d script ps in
    let told : Report = told_report writes.ended pass.events pass.whole in
    let same : IsSameReport r told = subst (λ (x : Report). IsSameReport x told) (sym is) (record { nodes = writes.recorded.logs; air = writes.recorded.air; events = refl; whole = refl }) in
    gives-as d (IsWorldReport w) (IsReportOfWorld d script ps) out out' r told same (λ how of. keep how r right (report-as w how r told same of) (ranges-as r told same writes.ranges)) f f' pass.result writes.gives
