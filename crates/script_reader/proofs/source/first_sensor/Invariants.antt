use Rattle.std.proofs.Common.{◌≡◌, drop}
use Rattle.script_reader.specs.Source.{first_sensor}
use Rattle.script_reader.proofs.source.first_sensor.Given as goal

abbrev pub invariant-loop-function : goal.invariant-loop-function
invariant-loop-function l = first_sensor (drop l.function-index l.desc.functions.items) ≡ first_sensor l.desc.functions.items
