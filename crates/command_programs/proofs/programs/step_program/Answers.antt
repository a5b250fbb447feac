use Rattle.std.proofs.Common.{ℕ, List, [], length, Option, Some, Ok, Err, refl, sym, ◌∙◌, subst}
use Rattle.std.proofs.lemmas.List.{get_or_default}
use Rattle.mate_journal.specs.declared.program.Program.{Program}
use Rattle.command_steps.specs.Parts.{Folder}
use Rattle.script_steps.specs.Steps.{IsRightStep}
use Rattle.script_steps.specs.declared.steps.Step.{Step}
use Rattle.command_steps.specs.Steps.{goes_on}
use Rattle.command_steps.proofs.Laws.{reads-as, reads-err}
use Rattle.command_programs.specs.Programs.{installed, loaded, name_at, step_program}
use Rattle.std.specs.Prelude.{IfSome}
use Rattle.node_programs.specs.Right.{IsRightProgram}
use Rattle.command_programs.proofs.ReadLemmas.{if-err}
use Rattle.command_programs.proofs.StepLaws.{gives-stops}
use Rattle.command_programs.proofs.programs.step_program.Goals as goal

pub returns-in_err-program-in-Install-clause-does : goal.returns-in_err-program-in-Install-clause-does
returns-in_err-program-in-Install-clause-does g c =
    let f : Folder = record { told = g.F.Files.contents c.args.files.now; steady = g.F.Files.steady c.args.files.now } in
    let names = c.args.names.now in
    let i = c.in-Install in
    let e = c.in_err-program-in-Install.field-0.0 in
    let right = subst (λ (s : Step). IsRightStep c.args.desc.now (length names) s) i.is c.requires.right in
    let name = c.as_str-name.ensures ∙ c.index-names-program.is ∙ get_or_default names i.program c.index-names-program.result [] right.program_high in
    let given = subst (λ (n : List ℕ). installed f c.args.desc.now c.args.fold i.handler i.version n (Err e)) name c.in_err-program-in-Install.ensures.does in
    subst (λ (s : Step). step_program f c.args.desc.now c.args.fold names s c.from_residual.result) (sym i.is)
    (gives-stops (installed f c.args.desc.now c.args.fold i.handler i.version (name_at names i.program)) e c.from_residual.result given c.from_residual.ensures.1)

pub returns-in_err-program-in-Load-clause-does : goal.returns-in_err-program-in-Load-clause-does
returns-in_err-program-in-Load-clause-does g c =
    let f : Folder = record { told = g.F.Files.contents c.args.files.now; steady = g.F.Files.steady c.args.files.now } in
    let names = c.args.names.now in
    let i = c.in-Load in
    let e = c.in_err-program-in-Load.field-0.0 in
    let answer = c.from_residual-in_err-program-in-Load.result in
    let right = subst (λ (s : Step). IsRightStep c.args.desc.now (length names) s) i.is c.requires.right in
    let name = c.as_str-name-in-Load.ensures ∙ c.index-names-program-in-Load.is ∙ get_or_default names i.program c.index-names-program-in-Load.result [] right in
    let given = subst (λ (n : List ℕ). loaded f c.args.desc.now n (Err e)) name c.in_err-program-in-Load.ensures.does in
    subst (λ (s : Step). step_program f c.args.desc.now c.args.fold names s answer) (sym i.is)
    (gives-stops (loaded f c.args.desc.now (name_at names i.program)) e answer given c.from_residual-in_err-program-in-Load.ensures.1)

pub returns-in_ok-program-in-Install-clause-does : goal.returns-in_ok-program-in-Install-clause-does
returns-in_ok-program-in-Install-clause-does g c =
    let f : Folder = record { told = g.F.Files.contents c.args.files.now; steady = g.F.Files.steady c.args.files.now } in
    let names = c.args.names.now in
    let i = c.in-Install in
    let p : Program = c.in_ok-program-in-Install.program in
    let right = subst (λ (s : Step). IsRightStep c.args.desc.now (length names) s) i.is c.requires.right in
    let name = c.as_str-name.ensures ∙ c.index-names-program.is ∙ get_or_default names i.program c.index-names-program.result [] right.program_high in
    subst (λ (s : Step). step_program f c.args.desc.now c.args.fold names s (Ok (Some p))) (sym i.is)
    (goes_on p (subst (λ (n : List ℕ). installed f c.args.desc.now c.args.fold i.handler i.version n (Ok p)) name c.in_ok-program-in-Install.ensures.does) refl)

pub returns-in_ok-program-in-Load-clause-does : goal.returns-in_ok-program-in-Load-clause-does
returns-in_ok-program-in-Load-clause-does g c =
    let f : Folder = record { told = g.F.Files.contents c.args.files.now; steady = g.F.Files.steady c.args.files.now } in
    let names = c.args.names.now in
    let i = c.in-Load in
    let p : Program = c.in_ok-program-in-Load.program in
    let right = subst (λ (s : Step). IsRightStep c.args.desc.now (length names) s) i.is c.requires.right in
    let name = c.as_str-name-in-Load.ensures ∙ c.index-names-program-in-Load.is ∙ get_or_default names i.program c.index-names-program-in-Load.result [] right in
    subst (λ (s : Step). step_program f c.args.desc.now c.args.fold names s (Ok (Some p))) (sym i.is)
    (goes_on p (subst (λ (n : List ℕ). loaded f c.args.desc.now n (Ok p)) name c.in_ok-program-in-Load.ensures.does) refl)

pub returns-in_err-program-in-Install-clause-reads : goal.returns-in_err-program-in-Install-clause-reads
returns-in_err-program-in-Install-clause-reads g c = reads-err c.in_err-program-in-Install.field-0.0 c.from_residual.result c.in_err-program-in-Install.ensures.reads c.from_residual.ensures.1

pub returns-in_err-program-in-Install-clause-right : goal.returns-in_err-program-in-Install-clause-right
returns-in_err-program-in-Install-clause-right g c = if-err (λ (o : Option Program). IfSome o (IsRightProgram c.args.desc.now)) c.in_err-program-in-Install.field-0.0 c.from_residual.result c.from_residual.ensures.1

pub returns-in_ok-program-in-Install-clause-reads : goal.returns-in_ok-program-in-Install-clause-reads
returns-in_ok-program-in-Install-clause-reads g c = reads-as c.in_ok-program-in-Install.ensures.reads (λ unread. unread)

pub returns-in_ok-program-in-Install-clause-right : goal.returns-in_ok-program-in-Install-clause-right
returns-in_ok-program-in-Install-clause-right g c = c.in_ok-program-in-Install.ensures.right

pub returns-in_err-program-in-Load-clause-reads : goal.returns-in_err-program-in-Load-clause-reads
returns-in_err-program-in-Load-clause-reads g c = reads-err c.in_err-program-in-Load.field-0.0 c.from_residual-in_err-program-in-Load.result c.in_err-program-in-Load.ensures.reads c.from_residual-in_err-program-in-Load.ensures.1

pub returns-in_err-program-in-Load-clause-right : goal.returns-in_err-program-in-Load-clause-right
returns-in_err-program-in-Load-clause-right g c = if-err (λ (o : Option Program). IfSome o (IsRightProgram c.args.desc.now)) c.in_err-program-in-Load.field-0.0 c.from_residual-in_err-program-in-Load.result c.from_residual-in_err-program-in-Load.ensures.1

pub returns-in_ok-program-in-Load-clause-reads : goal.returns-in_ok-program-in-Load-clause-reads
returns-in_ok-program-in-Load-clause-reads g c = reads-as c.in_ok-program-in-Load.ensures.reads (λ unread. unread)

pub returns-in_ok-program-in-Load-clause-right : goal.returns-in_ok-program-in-Load-clause-right
returns-in_ok-program-in-Load-clause-right g c = c.in_ok-program-in-Load.ensures.right

pub installed-requires-clause-handler : goal.installed-requires-clause-handler
installed-requires-clause-handler g c =
    let right = subst (λ (s : Step). IsRightStep c.args.desc.now (length c.args.names.now) s) c.in-Install.is c.requires.right in
    right.handler_high

pub installed-requires-clause-version : goal.installed-requires-clause-version
installed-requires-clause-version g c =
    let right = subst (λ (s : Step). IsRightStep c.args.desc.now (length c.args.names.now) s) c.in-Install.is c.requires.right in
    right.version_low

pub bounds-names-program : goal.bounds-names-program
bounds-names-program g c =
    let right = subst (λ (s : Step). IsRightStep c.args.desc.now (length c.args.names.now) s) c.in-Install.is c.requires.right in
    right.program_high

pub bounds-names-program-in-Load : goal.bounds-names-program-in-Load
bounds-names-program-in-Load g c = subst (λ (s : Step). IsRightStep c.args.desc.now (length c.args.names.now) s) c.in-Load.is c.requires.right
