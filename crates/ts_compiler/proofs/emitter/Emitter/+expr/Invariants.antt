use Rattle.std.proofs.Common.{drop, map}
use Rattle.ts_checked.specs.TreeOf.{expr_tree}
use Rattle.ts_compiler.proofs.PartLemmas.{ArgsFrom}
use Rattle.ts_compiler.proofs.emitter.Emitter.+expr.Given as goal

-- the code of all arguments is what was written and that of the rest
abbrev pub invariant-args-loop-arg : goal.invariant-args-loop-arg
invariant-args-loop-arg l = ArgsFrom l.initial.self l.self (map expr_tree l.arg-items) (map expr_tree (drop l.arg-index l.arg-items))
