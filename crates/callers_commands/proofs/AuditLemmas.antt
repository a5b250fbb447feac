-- The one verdict on a report.
use Rattle.std.proofs.Common.{◌≡◌, ◌∙◌, List, Bool, true, false, ◌&&◌, Result, Ok, Err, sym, subst, refl}
use Rattle.std.specs.Prelude.{◌↔◌, IfOk}
use Rattle.vm_shape.specs.declared.description.Description.{Description}
use Rattle.mate_journal.specs.declared.program.Program.{Program}
use Rattle.mate_journal.specs.declared.report.Report.{Report}
use Rattle.audit_rules.specs.Verdicts.{IsSerialReport, IsVerdict}
use Rattle.mate_journal.specs.declared.law.Verdict.{Verdict}
use Rattle.mate_journal.specs.declared.law.Verdict.TheVariants.{Serial}

abbrev pub OneVerdict : Type 0
OneVerdict = (d : Description) (ps : List Program) (r : Report) (v w : Verdict) → IsVerdict d ps r v → IsVerdict d ps r w → v ≡ w

pub only : {E : Type 0} → OneVerdict → (d : Description) (ps : List Program) (r : Report) (w : Verdict) (result : Result Verdict E) → IsVerdict d ps r w → IfOk result (IsVerdict d ps r)
    → IfOk result (λ v. v ≡ w)
only one d ps r w (Ok v) told is = one d ps r v w is told
only one d ps r w (Err e) told is = tt

pub serial_alone : {E : Type 0} → OneVerdict → (d : Description) (ps : List Program) (r : Report) (result : Result Verdict E) → (IsVerdict d ps r Serial ↔ IsSerialReport d ps r)
    → IfOk result (IsVerdict d ps r) → IfOk result (λ v. (v ≡ Serial) ↔ IsSerialReport d ps r)
serial_alone one d ps r (Ok v) exactly is =
    (λ same. exactly.0 (subst (IsVerdict d ps r) same is), λ serial. one d ps r v Serial is (exactly.1 serial))
serial_alone one d ps r (Err e) exactly is = tt

pub and_false : (a b : Bool) → b ≡ false → (a && b) ≡ false
and_false true b is = is
and_false false b is = refl
