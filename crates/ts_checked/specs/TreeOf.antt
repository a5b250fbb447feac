-- The data of a checked tree.
use Rattle.std.specs.Prelude.{List, Option, Some, None}
use Rattle.ts_checked.specs.Expression.{Expression, arguments, Num, Shared, Private, Item, Size, MsgItem, MsgSize, Call, SendBuf, Neg, Not, Two}
use Rattle.ts_checked.specs.Statement.{Statement, Block, block, Set, SetItem, Append, Take, Clear, Do, DoSend, If, IfElse, For, While}
use Rattle.ts_checked.specs.declared.checked_expr.CExpr.{CExpr}
use Rattle.ts_checked.specs.declared.checked_expr.CArgs.{CArgs}
use Rattle.ts_checked.specs.declared.checked_expr.CExpr.TheOpen.{CExpr-F, CArgs-F}
use Rattle.ts_checked.specs.declared.checked_expr.CExpr.TheFolds.{fold-CExpr, fold-CArgs}
use Rattle.ts_checked.specs.declared.checked_stmt.CStmt.{CStmt}
use Rattle.ts_checked.specs.declared.checked_stmt.CBlock.{CBlock}
use Rattle.ts_checked.specs.declared.checked_stmt.CStmt.TheOpen.{CStmt-F, CBlock-F}
use Rattle.ts_checked.specs.declared.checked_stmt.CStmt.TheFolds.{fold-CStmt, fold-CBlock}

-- one node, with the data of its parts in their places
abbrev pub expr_step : CExpr-F Expression (List Expression) → Expression
expr_step (CExpr-F.Num n) = Num n
expr_step (CExpr-F.Shared v) = Shared v
expr_step (CExpr-F.Private i) = Private i
expr_step (CExpr-F.Item p e) = Item p e.value
expr_step (CExpr-F.Size p) = Size p
expr_step (CExpr-F.MsgItem e) = MsgItem e.value
expr_step CExpr-F.MsgSize = MsgSize
expr_step (CExpr-F.Call f args) = Call f (arguments args)
expr_step (CExpr-F.SendBuf f p) = SendBuf f p
expr_step (CExpr-F.Neg e) = Neg e.value
expr_step (CExpr-F.Not e) = Not e.value
expr_step (CExpr-F.Two op l r) = Two op l.value r.value

abbrev pub args_step : CArgs-F Expression (List Expression) → List Expression
args_step a = a.items.items

-- an expression, and the arguments of a call
abbrev pub expr_tree : CExpr → Expression
expr_tree = fold-CExpr Expression (List Expression) expr_step args_step

abbrev pub args_trees : CArgs → List Expression
args_trees = fold-CArgs Expression (List Expression) expr_step args_step

-- an `if` with its `else`, or without
abbrev pub if_tree : Expression → List Statement → Option (List Statement) → Statement
if_tree e a None = If e (block a)
if_tree e a (Some b) = IfElse e (block a) (block b)

abbrev pub stmt_step : CStmt-F Statement (List Statement) → Statement
stmt_step (CStmt-F.Set x e) = Set x (expr_tree e)
stmt_step (CStmt-F.SetItem p i e) = SetItem p (expr_tree i) (expr_tree e)
stmt_step (CStmt-F.Append p e) = Append p (expr_tree e)
stmt_step (CStmt-F.Take x p) = Take x p
stmt_step (CStmt-F.Clear p) = Clear p
stmt_step (CStmt-F.Do f args) = Do f (arguments (args_trees args))
stmt_step (CStmt-F.SendBuf f p) = DoSend f p
stmt_step (CStmt-F.If e a b) = if_tree (expr_tree e) a b
stmt_step (CStmt-F.For head a) = For head.var (expr_tree head.from) (expr_tree head.to) head.step (block a)
stmt_step (CStmt-F.While e a) = While (expr_tree e) (block a)

abbrev pub block_step : CBlock-F Statement (List Statement) → List Statement
block_step a = a.items.items

-- a statement, and a block's statements
abbrev pub stmt_tree : CStmt → Statement
stmt_tree = fold-CStmt Statement (List Statement) stmt_step block_step

abbrev pub block_trees : CBlock → List Statement
block_trees = fold-CBlock Statement (List Statement) stmt_step block_step

-- a block
abbrev pub block_tree : CBlock → Block
block_tree b = block (block_trees b)
