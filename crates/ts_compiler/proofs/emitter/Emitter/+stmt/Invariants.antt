use Rattle.std.proofs.Common.{drop, map}
use Rattle.ts_checked.specs.TreeOf.{stmt_tree}
use Rattle.ts_compiler.proofs.PartLemmas.{BlockFrom}
use Rattle.ts_compiler.proofs.emitter.Emitter.+stmt.Given as goal

-- the code of the whole block is what was written and that of the rest
abbrev pub invariant-block-loop-stmt : goal.invariant-block-loop-stmt
invariant-block-loop-stmt l = BlockFrom l.initial.self l.self (map stmt_tree l.stmt-items) (map stmt_tree (drop l.stmt-index l.stmt-items))
