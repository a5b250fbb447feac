use Rattle.std.proofs.Common.{◌≡◌, ◌++◌, replicate}
use Rattle.script_reader.specs.Source.{source_of}
use Rattle.script_reader.proofs.made.add_sources.Given as goal

abbrev pub invariant-loop : goal.invariant-loop
invariant-loop l = l.sources ≡ l.initial.sources ++ replicate l.counter (source_of l.desc l.version)
