use Rattle.std.proofs.Common.{◌≡◌, drop}
use Rattle.script_reader.specs.WorldWords.{sensor_from}
use Rattle.script_reader.proofs.world_words.sensor_of.Given as goal

abbrev pub invariant-loop-index : goal.invariant-loop-index
invariant-loop-index l = sensor_from l.word l.index (drop l.index l.desc.functions.items) ≡ sensor_from l.word 0 l.desc.functions.items
