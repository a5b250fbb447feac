-- The verdict on a report that is read from its text.
use Rattle.std.specs.Prelude.{List, Result, Ok, Err, ⊤}
use Rattle.vm_shape.specs.declared.description.Description.{Description}
use Rattle.mate_journal.specs.declared.program.Program.{Program}
use Rattle.mate_journal.specs.declared.report.Report.{Report}
use Rattle.report_text.specs.declared.fault.TextFault.{TextFault}
use Rattle.report_text.specs.declared.fault.TextFault.TheVariants.{BadLine, NoMemory}
use Rattle.audit_rules.specs.Verdicts.{IsVerdict}
use Rattle.mate_journal.specs.declared.law.Verdict.{Verdict}

-- it is read, unless memory runs out, and has the verdict
abbrev pub IsReadWith : Description → List Program → Verdict → Result Report TextFault → Type 0
IsReadWith d ps v (Ok x) = IsVerdict d ps x v
IsReadWith d ps v (Err (BadLine line)) = ⊥
IsReadWith d ps v (Err NoMemory) = ⊤
