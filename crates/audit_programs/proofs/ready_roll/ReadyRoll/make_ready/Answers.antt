use Rattle.std.proofs.Common.{◌≡◌, ◌<◌, true, length, sym, subst, arith}
use Rattle.std.specs.Prelude.{nat_lt}
use Rattle.std.specs.List.{list_any}
use Rattle.std.proofs.lemmas.Bool.{and_parts}
use Rattle.mate_journal.specs.Journal.{journal_entry}
use Rattle.mate_journal.specs.Machine.{HeldProgram}
use Rattle.mate_journal.specs.Entries.{IsEntryInRange}
use Rattle.mate_journal.specs.declared.entry.Entry.{Entry}
use Rattle.journal_laws.specs.Growth.{IsNamedBelow}
use Rattle.node_programs.specs.Sources.{is_held_as}
use Rattle.audit_rules.specs.Roll as told
use Rattle.audit_rules.specs.Tests.{installs_right, version_installed}
use Rattle.audit_rules.specs.Views.{roll_in}
use Rattle.audit_programs.specs.Ready.{installed_programs}
use Rattle.audit_programs.specs.Naming.{named_program}
use Rattle.audit_programs.specs.Trials.{AreReady}
use Rattle.audit_programs.proofs.TrialLemmas.{HasKept-made, AreReady-kept, AreReady-made, OnOk-map}
use Rattle.audit_programs.proofs.ready_roll.ReadyRoll.make_ready.Goals as goal

pub returns-in-Install-clause-kept : goal.returns-in-Install-clause-kept
returns-in-Install-clause-kept c =
    let d = c.args.trial.now.desc.now in
    let h = c.in-Install.handler in
    let p : HeldProgram = named_program c.args.trial.now.log.now h c.in-Install.version c.in-Install.image in
    let low : h.0 < length d.handlers.items = subst (IsEntryInRange d) c.in-Install.is c.requires.range in
    let few = c.requires.tried.few in
    OnOk-map c.install.result (λ makes. HasKept-made d p c.args.self.now c.install.new.self (omega (arith, low, few)) c.requires.read.kept makes) c.install.ensures.made

pub returns-in-Install-clause-ready : goal.returns-in-Install-clause-ready
returns-in-Install-clause-ready c =
    let d = c.args.trial.now.desc.now in
    let l = c.args.trial.now.log.now in
    let x : told.Roll = roll_in l.images c.args.self.now.roll in
    let h = c.in-Install.handler in
    let p : HeldProgram = named_program l h c.in-Install.version c.in-Install.image in
    let E : Entry → Type 0 = λ e. AreReady d (told.rolled x (journal_entry l e)).installed (installed_programs c.install.new.self.ready) in
    let low : h.0 < length d.handlers.items = subst (IsEntryInRange d) c.in-Install.is c.requires.range in
    let few = c.requires.tried.few in
    let places = c.requires.read.kept.places in
    OnOk-map c.install.result
    (λ makes. subst E (sym c.in-Install.is)
    (AreReady-made d x p (installed_programs c.args.self.now.ready) (installed_programs c.install.new.self.ready) (omega (arith, low, few, places)) c.requires.read.ready makes)) c.install.ensures.made

pub install-requires-clause-known : goal.install-requires-clause-known
install-requires-clause-known c =
    let l = c.args.trial.now.log.now in
    subst (IsNamedBelow (length l.images) (length l.stores)) c.in-Install.is c.requires.named

pub install-requires-clause-within : goal.install-requires-clause-within
install-requires-clause-within c =
    let d = c.args.trial.now.desc.now in
    let low : c.in-Install.handler.0 < length d.handlers.items = subst (IsEntryInRange d) c.in-Install.is c.requires.range in
    let few = c.requires.tried.few in
    let places = c.requires.read.kept.places in
    omega (arith, low, few, places)

pub install-requires-clause-given : goal.install-requires-clause-given
install-requires-clause-given c =
    let l = c.args.trial.now.log.now in
    let ps = c.args.trial.now.programs.now in
    let x : told.Roll = roll_in l.images c.args.self.now.roll in
    let p : HeldProgram = named_program l c.in-Install.handler c.in-Install.version c.in-Install.image in
    (and_parts (list_any (is_held_as p) ps) (nat_lt (version_installed (x.installed p.handler)) p.version)
    (subst (λ (e : Entry). installs_right ps x (journal_entry l e) ≡ true) c.in-Install.is c.requires.given)).0

pub returns-in_default-clause-ready : goal.returns-in_default-clause-ready
returns-in_default-clause-ready c =
    let l = c.args.trial.now.log.now in
    AreReady-kept c.args.trial.now.desc.now l (roll_in l.images c.args.self.now.roll) c.args.entry.now (installed_programs c.args.self.now.ready) c.in_default.not-Install c.requires.read.ready
