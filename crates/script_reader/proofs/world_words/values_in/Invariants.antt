use Rattle.std.proofs.Common.{length}
use Rattle.script_steps.specs.Lines.{split_words}
use Rattle.script_reader.proofs.ValueLemmas.{IsReadOn}
use Rattle.script_reader.proofs.world_words.values_in.Given as goal

abbrev pub invariant-values : goal.invariant-values
invariant-values l = IsReadOn (split_words l.initial.words) l.values (split_words l.words)

abbrev pub decreases-values : goal.decreases-values
decreases-values l = length (split_words l.words)
