use Rattle.std.proofs.Common.{◌≡◌, sym, subst}
use Rattle.std.specs.Prelude.{IfOk, IsTrue}
use Rattle.mate_journal.specs.Journal.{journal_entry}
use Rattle.mate_journal.specs.declared.entry.Entry.{Entry}
use Rattle.audit_rules.specs.Rerun.{runs_right, serial_after}
use Rattle.audit_rules.specs.Shown.{HasLengthsOf}
use Rattle.audit_rules.specs.Tests.{conflict_of}
use Rattle.audit_rules.specs.Views.{roll_in}
use Rattle.audit_programs.specs.Trials.{machine_for}
use Rattle.report_audit.proofs.replay.run_at.Goals as goal

pub returns-in-Fault-clause-right : goal.returns-in-Fault-clause-right
returns-in-Fault-clause-right c =
    let t = c.args.trial.now in
    let m = machine_for t in
    let conflict = conflict_of t.desc.now in
    let x = roll_in t.log.now.images c.args.roll.now.roll in
    let store = c.args.store.now in
    let next = c.end_at-in-Fault.new.store in
    let E : Entry → Type 0 = λ e. IfOk c.end_at-in-Fault.result (λ right. (right ≡ runs_right m conflict x store (journal_entry t.log.now e))
    × (IsTrue right → (next ≡ serial_after m x store (journal_entry t.log.now e)) × HasLengthsOf m next)) in
    subst E (sym c.in-Fault.is) c.end_at-in-Fault.ensures.right
