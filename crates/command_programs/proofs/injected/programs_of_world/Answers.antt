use Rattle.std.proofs.Common.{sym, subst}
use Rattle.command_steps.specs.Parts.{Folder}
use Rattle.script_steps.specs.Steps.{NodeScript, IsRightSteps}
use Rattle.command_programs.proofs.InstallLemmas.{installs-right, if-programs, programs_want}
use Rattle.command_programs.proofs.injected.programs_of_world.Goals as goal

pub returns-in_default-clause-does : goal.returns-in_default-clause-does
returns-in_default-clause-does g c =
    let f : Folder = record { told = g.F.Files.contents c.args.files.now; steady = g.F.Files.steady c.args.files.now } in
    programs_want f c.args.desc.now c.args.fold c.args.world.now

pub programs_of-requires-clause-right : goal.programs_of-requires-clause-right
programs_of-requires-clause-right g c =
    subst (λ (s : NodeScript). IsRightSteps c.args.desc.now s) (sym c.in-Ok.ensures) (installs-right c.args.desc.now c.args.world.now c.requires.right)

pub returns-clause-programs : goal.returns-clause-programs
returns-clause-programs g c =
    if-programs c.args.desc.now c.args.world.now c.in-Ok.installs c.programs_of.result c.requires.right c.in-Ok.ensures c.programs_of.ensures.programs
