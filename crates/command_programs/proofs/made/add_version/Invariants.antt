use Rattle.command_programs.specs.Made.{AreOfVersion}
use Rattle.command_programs.proofs.made.add_version.Given as goal

abbrev pub invariant-loop-handler : goal.invariant-loop-handler
invariant-loop-handler l = AreOfVersion l.desc l.fold l.version l.source l.handler l.initial.programs l.programs
