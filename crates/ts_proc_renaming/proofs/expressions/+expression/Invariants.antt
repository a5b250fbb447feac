use Rattle.std.proofs.Common.{◌≡◌, map, take}
use Rattle.ts_trees.specs.Seen.{tree_of}
use Rattle.ts_proc_renaming.specs.Renaming.{renamed_expr}
use Rattle.ts_proc_renaming.specs.Hidden.{hiding_of}
use Rattle.ts_proc_renaming.proofs.expressions.+expression.Given as goal

-- the arguments so far are renamed
abbrev pub invariant-arguments-loop-arg : goal.invariant-arguments-loop-arg
invariant-arguments-loop-arg l = map tree_of l.renamed ≡ map (λ e. renamed_expr (hiding_of l.hidden) (tree_of e)) (take l.arg-index l.args)
