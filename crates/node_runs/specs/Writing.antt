-- The run of a node script whose lines are written as its events end.
use Rattle.std.specs.Prelude.{ℕ, List, Option}
use Rattle.vm_shape.specs.declared.description.Description.{Description}
use Rattle.script_steps.specs.Steps.{NodeScript}
use Rattle.mate_journal.specs.Log.{Log}
use Rattle.mate_journal.specs.declared.program.Program.{Program}
use Rattle.node_runs.specs.Running.{IsReportOf, report_with}
use Rattle.report_writer.specs.Writing.{WritesReport}
use Rattle.report_writer.specs.declared.pass.Pass.{Pass}

-- the node's log is that of the report of a run that was written so
abbrev pub PassWrites : Description → NodeScript → List Program → Option (List ℕ) → Option (List ℕ) → ℕ → ℕ → Log → Pass → Type 0
PassWrites d script ps out out' before now l pass = WritesReport d (IsReportOf d script ps) out out' before now pass.result
    (report_with l pass.events pass.whole)
