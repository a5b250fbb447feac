-- The tree of an expression in a box.
use Rattle.std.specs.declared.alloc.Global.{Global}
use Rattle.std.specs.declared.boxed.Box.{Box}
use Rattle.ts_trees.specs.Seen.{tree_of}
use Rattle.ts_trees.specs.Tree.{Tree}
use Rattle.ts_trees.specs.declared.expr.Expr.{Expr}

abbrev pub boxed_tree : Box Expr Global → Tree
boxed_tree e = tree_of e.value
