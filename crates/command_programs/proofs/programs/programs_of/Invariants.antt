use Rattle.std.proofs.Common.{drop, Ok}
use Rattle.std.specs.Prelude.{All}
use Rattle.command_steps.specs.Parts.{ReadsFiles}
use Rattle.node_programs.specs.Right.{IsRightProgram}
use Rattle.command_programs.specs.Known.{AreKnown}
use Rattle.command_programs.specs.Programs.{Owing}
use Rattle.command_programs.proofs.programs.programs_of.Given as goal

abbrev pub invariant-loop-step : goal.invariant-loop-step
invariant-loop-step g l = record {
  owing : Owing (record { told = g.F.Files.contents l.fn.files; steady = g.F.Files.steady l.fn.files }) l.desc l.fold l.script l.programs (drop l.step-index l.script.steps);
  reads : ReadsFiles {A = Unit {0}} (g.F.Files.contents l.fn.files) (g.F.Files.steady l.fn.files) (g.F.Files.faults l.fn.files)
      (g.F.Files.contents l.files) (g.F.Files.steady l.files) (g.F.Files.faults l.files) (Ok (tt {0}));
  right : All (IsRightProgram l.desc) l.programs;
  known : AreKnown l.desc l.fold l.known;
}
