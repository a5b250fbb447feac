use Rattle.std.proofs.Common.{◌≡◌, ◌++◌, take}
use Rattle.command_programs.specs.Injected.{installs_in}
use Rattle.command_programs.proofs.injected.add_installs.Given as goal

abbrev pub invariant-loop-planned : goal.invariant-loop-planned
invariant-loop-planned l = record {
  steps : l.script.steps ≡ l.initial.script.steps ++ installs_in (take l.planned-index l.events);
  files : l.script.files ≡ l.initial.script.files;
}
