use Rattle.std.proofs.Common.{◌≡◌, take, map}
use Rattle.mate_code.proofs.table.Table.of.Given as goal

abbrev pub invariant-loop-function : goal.invariant-loop-function
invariant-loop-function l = l.sends.items ≡ map (λ f. f.send) (take l.function-index l.function-items)
