use Rattle.std.proofs.Common.{refl}
use Rattle.command_programs.proofs.MadeLemmas.{is-made, programs-are}
use Rattle.command_programs.proofs.made.made_world.Goals as goal

pub returns-clause-does : goal.returns-clause-does
returns-clause-does c =
    is-made c.args.desc.now c.args.fold c.in_ok-programs.programs c.in_ok-programs.ensures.programs c.args.number (record { world = c.in-Ok.generated.world; programs = c.in_ok-programs.programs }) c.in-Ok.ensures.world refl

pub returns-clause-programs : goal.returns-clause-programs
returns-clause-programs c =
    programs-are c.args.desc.now c.args.fold c.in_ok-programs.programs c.in_ok-programs.ensures.programs c.args.number (record { world = c.in-Ok.generated.world; programs = c.in_ok-programs.programs }) c.in-Ok.ensures.right
    c.in-Ok.ensures.world refl
