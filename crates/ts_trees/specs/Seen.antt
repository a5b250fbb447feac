-- The trees of the program, seen without their places in memory.
use Rattle.std.specs.Prelude.{List, [], ◌∷◌, map, Option, Some, None}
use Rattle.ts_trees.specs.declared.expr.Expr.{Expr}
use Rattle.ts_trees.specs.declared.expr.Expr.TheOpen.{Expr-F}
use Rattle.ts_trees.specs.declared.expr.Expr.TheFolds.{fold-Expr}
use Rattle.ts_trees.specs.declared.stmt.Stmt.{Stmt}
use Rattle.ts_trees.specs.declared.stmt.Stmt.TheOpen.{Stmt-F}
use Rattle.ts_trees.specs.declared.stmt.Stmt.TheFolds.{fold-Stmt}
use Rattle.ts_trees.specs.declared.script.Script.{Script}
use Rattle.ts_trees.specs.declared.procedure.Proc.{Proc}
use Rattle.ts_trees.specs.declared.procedure.ProcScript.{ProcScript}
use Rattle.ts_trees.specs.Tree.{Tree, number, variable, item, size, message_item, message_size, call, negative, inverse, two, paren, Trees, no_trees, tree_then, Act, set, set_item, append, take_last, clear, call_alone, if_then, if_else, for_next, while_do, run_procedure, Acts, no_acts, act_then, Source, Procedure, ProcedureSource}

-- a list of expressions as arguments
abbrev pub trees : List Tree → Trees
trees [] = no_trees
trees (e ∷ es) = tree_then e (trees es)

-- one node, with the trees of its parts in their places
abbrev pub tree_step : Expr-F Tree → Tree
tree_step (Expr-F.Num n) = number n
tree_step (Expr-F.Var w) = variable w
tree_step (Expr-F.Item w e) = item w e.value
tree_step (Expr-F.Size w) = size w
tree_step (Expr-F.MsgItem e) = message_item e.value
tree_step Expr-F.MsgSize = message_size
tree_step (Expr-F.Call w es) = call w (trees es)
tree_step (Expr-F.Neg e) = negative e.value
tree_step (Expr-F.Not e) = inverse e.value
tree_step (Expr-F.Two o l r) = two o l.value r.value
tree_step (Expr-F.Paren e) = paren e.value

-- an expression, and the arguments of a call
abbrev pub tree_of : Expr → Tree
tree_of = fold-Expr Tree tree_step

abbrev pub trees_of : List Expr → Trees
trees_of es = trees (map tree_of es)

-- a list of statements as a block
abbrev pub acts : List Act → Acts
acts [] = no_acts
acts (a ∷ more) = act_then a (acts more)

-- an `if` with its `else`, or without
abbrev pub if_act : Tree → List Act → Option (List Act) → Act
if_act e a None = if_then e (acts a)
if_act e a (Some b) = if_else e (acts a) (acts b)

-- one statement, with the trees of its blocks in their places
abbrev pub act_step : Stmt-F Act → Act
act_step (Stmt-F.Set w e) = set w (tree_of e)
act_step (Stmt-F.SetItem w i e) = set_item w (tree_of i) (tree_of e)
act_step (Stmt-F.Append w e) = append w (tree_of e)
act_step (Stmt-F.Take w b) = take_last w b
act_step (Stmt-F.Clear w) = clear w
act_step (Stmt-F.Do w es) = call_alone w (trees_of es)
act_step (Stmt-F.If e a b) = if_act (tree_of e) a b
act_step (Stmt-F.For h a v) = for_next h.var (tree_of h.from) (tree_of h.to) h.step (acts a) v
act_step (Stmt-F.While e a) = while_do (tree_of e) (acts a)
act_step (Stmt-F.Run w es) = run_procedure w (trees_of es)

-- a statement, and a block
abbrev pub act_of : Stmt → Act
act_of = fold-Stmt Act act_step

abbrev pub acts_of : List Stmt → Acts
acts_of more = acts (map act_of more)

-- a script
abbrev pub source_seen : Script → Source
source_seen s = record { decls = s.decls; body = acts_of s.body }

-- a procedure, and a script with procedures
abbrev pub procedure_of : Proc → Procedure
procedure_of p = record { name = p.name; params = p.params; body = acts_of p.body }

abbrev pub procedure_source_of : ProcScript → ProcedureSource
procedure_source_of s = record { decls = s.decls; procs = map procedure_of s.procs; body = acts_of s.body }
