use Rattle.std.proofs.Common.{take}
use Rattle.std.specs.Prelude.{All, FitsSigned}
use Rattle.std.specs.Int.{w16}
use Rattle.mate_journal.proofs.entry.values_are_in_range.Given as goal

abbrev pub invariant-loop-value : goal.invariant-loop-value
invariant-loop-value l = All (λ v. FitsSigned w16 v) (take l.value-index l.values)
