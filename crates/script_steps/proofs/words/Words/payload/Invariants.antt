use Rattle.std.proofs.Common.{◌-◌, length}
use Rattle.script_steps.specs.Lines.{split_words}
use Rattle.script_steps.proofs.PayloadLemmas.{IsReadTo}
use Rattle.script_steps.proofs.words.Words.payload.Given as goal

abbrev pub invariant-values : goal.invariant-values
invariant-values l = IsReadTo (split_words l.initial.self) l.values.items (split_words l.self)

abbrev pub decreases-values : goal.decreases-values
decreases-values l = 10 - length l.values.items
