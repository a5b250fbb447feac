-- The command `audit`: whether a report shows serial behaviour of what a script runs on a machine.
use Rattle.std.specs.Prelude.{ℕ, Bool, List, codes, Result, Ok, ⊤}
use Rattle.audit_rules.specs.Verdicts.{IsVerdict}
use Rattle.mate_journal.specs.declared.law.Law.{Law}
use Rattle.mate_journal.specs.declared.law.Verdict.TheVariants as verdict
use Rattle.command_documents.specs.Owed.{Owed, writes}
use Rattle.mate_journal.specs.declared.program.Program.{Program}
use Rattle.mate_journal.specs.declared.report.Report.{Report}
use Rattle.command_refusals.specs.declared.refusal.Refusal.{Refusal}
use Rattle.command_refusals.specs.declared.refusal.Refusal.TheVariants.{Refuted}
use Rattle.command_refusals.specs.declared.refutation.Refutation.TheVariants.{Line, Node}
use Rattle.command_steps.specs.Parts.{Folder, file, machine}
use Rattle.command_steps.specs.Steps.{judged, ◌▸◌}
use Rattle.report_text.specs.Reads.{ReadsReport, IsBadLine}
use Rattle.vm_shape.specs.declared.description.Description.{Description}
use Rattle.command_programs.specs.Named.{programs_named}

-- the report in the bytes; or the first line that fits no report
abbrev pub report_in : Description → List ℕ → Result Report Refusal → Type 0
report_in d bytes = judged (λ r. ReadsReport d bytes (Ok r)) (IsBadLine d bytes) (λ line. Refuted (Line line))

-- that of a file
abbrev pub report_of_file : Folder → Description → (name : List ℕ) → Result Report Refusal → Type 0
report_of_file f d name = file f name ▸ λ bytes. report_in d bytes.items

-- the report is serial for the programs; or the first law that the lowest node fails
abbrev pub serial : Description → List Program → Report → Result ⊤ Refusal → Type 0
serial d ps r = judged (λ _. IsVerdict d ps r verdict.Serial) (λ (it : ℕ × Law). IsVerdict d ps r (verdict.Refuted it.0 it.1))
    (λ it. Refuted (Node it.0 it.1))

-- what is said of the report in a file, for the programs
abbrev pub audit_of : Folder → Description → List Program → (report : List ℕ) → Result Owed Refusal → Type 0
audit_of f d ps report = report_of_file f d report ▸ λ r. serial d ps r ▸ λ _. writes (codes "serial\n")

-- for those that the script in a file names
abbrev pub audit_by : Folder → (fold : Bool) → Description → (script report : List ℕ) → Result Owed Refusal → Type 0
audit_by f fold d script report = programs_named f d fold script ▸ λ ps. audit_of f d ps report

abbrev pub audit : Folder → (fold : Bool) → (vm script report : List ℕ) → Result Owed Refusal → Type 0
audit f fold vm script report = machine f vm ▸ λ d. audit_by f fold d script report
