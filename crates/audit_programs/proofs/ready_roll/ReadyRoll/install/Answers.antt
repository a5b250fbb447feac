use Rattle.std.proofs.Common.{subst, sym}
use Rattle.mate_journal.specs.Machine.{HeldProgram}
use Rattle.mate_journal.specs.declared.program.Program.{Program}
use Rattle.node_programs.specs.Sources.{held_as}
use Rattle.audit_programs.specs.Ready.{IsReadyAs, installed_programs}
use Rattle.audit_programs.specs.Naming.{named_program}
use Rattle.audit_programs.proofs.ReadyLemmas.{IsReadyAs-image}
use Rattle.audit_programs.proofs.TrialLemmas.{MakesReady-again, OnOk-map}
use Rattle.audit_programs.proofs.ready_roll.ReadyRoll.install.Goals as goal

pub returns-then-is_ready-clause-made : goal.returns-then-is_ready-clause-made
returns-then-is_ready-clause-made c =
    let p : HeldProgram = named_program c.args.trial.now.log.now c.args.handler c.args.version c.args.image in
    MakesReady-again c.args.trial.now.desc.now p (installed_programs c.args.self.now.ready) c.requires.kept (c.is_ready.ensures c.if-is_ready.true)

pub returns-clause-made : goal.returns-clause-made
returns-clause-made c =
    let d = c.args.trial.now.desc.now in
    let p : HeldProgram = named_program c.args.trial.now.log.now c.args.handler c.args.version c.args.image in
    let given : Program = c.program_named-program.result.now in
    OnOk-map c.install.result
    (λ after. record {
      made = c.of.result;
      ready = IsReadyAs-image d (held_as given) p c.of.result c.program_named-program.ensures.image c.of.ensures.ready;
      own = subst (λ (q : Program). IsReadyAs d (held_as q) c.of.result) (sym c.of.ensures.program) c.of.ensures.ready;
      after_is = after;
    }) c.install.ensures
