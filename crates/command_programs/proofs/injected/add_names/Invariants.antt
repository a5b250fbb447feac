use Rattle.std.proofs.Common.{◌≡◌, ◌++◌, take}
use Rattle.command_programs.proofs.injected.add_names.Given as goal

abbrev pub invariant-loop-name : goal.invariant-loop-name
invariant-loop-name l = record {
  steps : l.script.steps ≡ l.initial.script.steps;
  files : l.script.files ≡ l.initial.script.files ++ take l.name-index l.names;
}
