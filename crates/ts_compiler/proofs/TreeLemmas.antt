-- The trees of checked expressions and statements, variant by variant.
use Rattle.std.proofs.Common.{◌≡◌, ℕ, List, ap, sym, ◌∙◌}
use Rattle.mate_num.specs.declared.id.BufId.{BufId}
use Rattle.mate_num.specs.declared.id.FunId.{FunId}
use Rattle.mate_num.specs.declared.id.VarId.{VarId}
use Rattle.ts_checked.specs.Expression.{Expression, arguments, Shared, Private, Size, MsgSize, Call, SendBuf}
use Rattle.ts_checked.specs.Statement.{Statement, Set, SetItem, Append, Take, Clear, Do, DoSend, For, While}
use Rattle.ts_checked.specs.TreeOf.{expr_step, args_step, expr_tree, args_trees, stmt_step, block_step, stmt_tree, block_tree}
use Rattle.ts_checked.specs.declared.checked_expr.CExpr.{CExpr}
use Rattle.ts_checked.specs.declared.checked_expr.CArgs.{CArgs}
use Rattle.ts_checked.specs.declared.checked_expr.CExpr.TheFolds.{fold-roll-CExpr}
use Rattle.ts_checked.specs.declared.checked_expr.CExpr.TheOpen.{CExpr-F}
use Rattle.ts_checked.specs.declared.checked_expr.CExpr.TheVariants as expr
use Rattle.ts_checked.specs.declared.checked_stmt.CVar.{CVar}
use Rattle.ts_checked.specs.declared.checked_stmt.CForHead.{CForHead}
use Rattle.ts_checked.specs.declared.checked_stmt.CBlock.{CBlock}
use Rattle.ts_checked.specs.declared.checked_stmt.CStmt.TheFolds.{fold-roll-CStmt}
use Rattle.ts_checked.specs.declared.checked_stmt.CStmt.TheOpen.{CStmt-F}
use Rattle.ts_checked.specs.declared.checked_stmt.CStmt.TheVariants as stmt

pub tree-Shared : (v : VarId) → expr_tree (expr.Shared v) ≡ Shared v
tree-Shared v = ap expr_tree (sym (expr.rolls-Shared v)) ∙ fold-roll-CExpr Expression (List Expression) expr_step args_step (CExpr-F.Shared v)

pub tree-Private : (i : ℕ) → expr_tree (expr.Private i) ≡ Private i
tree-Private i = ap expr_tree (sym (expr.rolls-Private i)) ∙ fold-roll-CExpr Expression (List Expression) expr_step args_step (CExpr-F.Private i)

pub tree-Size : (p : BufId) → expr_tree (expr.Size p) ≡ Size p
tree-Size p = ap expr_tree (sym (expr.rolls-Size p)) ∙ fold-roll-CExpr Expression (List Expression) expr_step args_step (CExpr-F.Size p)

pub tree-MsgSize : expr_tree expr.MsgSize ≡ MsgSize
tree-MsgSize = ap expr_tree (sym expr.rolls-MsgSize) ∙ fold-roll-CExpr Expression (List Expression) expr_step args_step CExpr-F.MsgSize

pub tree-Call : (f : FunId) (args : CArgs) → expr_tree (expr.Call f args) ≡ Call f (arguments (args_trees args))
tree-Call f args = ap expr_tree (sym (expr.rolls-Call f args)) ∙ fold-roll-CExpr Expression (List Expression) expr_step args_step (CExpr-F.Call f args)

pub tree-SendBuf : (f : FunId) (p : BufId) → expr_tree (expr.SendBuf f p) ≡ SendBuf f p
tree-SendBuf f p = ap expr_tree (sym (expr.rolls-SendBuf f p)) ∙ fold-roll-CExpr Expression (List Expression) expr_step args_step (CExpr-F.SendBuf f p)

pub tree-Set : (x : CVar) (e : CExpr) → stmt_tree (stmt.Set x e) ≡ Set x (expr_tree e)
tree-Set x e = ap stmt_tree (sym (stmt.rolls-Set x e)) ∙ fold-roll-CStmt Statement (List Statement) stmt_step block_step (CStmt-F.Set x e)

pub tree-SetItem : (p : BufId) (i e : CExpr) → stmt_tree (stmt.SetItem p i e) ≡ SetItem p (expr_tree i) (expr_tree e)
tree-SetItem p i e = ap stmt_tree (sym (stmt.rolls-SetItem p i e)) ∙ fold-roll-CStmt Statement (List Statement) stmt_step block_step (CStmt-F.SetItem p i e)

pub tree-Append : (p : BufId) (e : CExpr) → stmt_tree (stmt.Append p e) ≡ Append p (expr_tree e)
tree-Append p e = ap stmt_tree (sym (stmt.rolls-Append p e)) ∙ fold-roll-CStmt Statement (List Statement) stmt_step block_step (CStmt-F.Append p e)

pub tree-Take : (x : CVar) (p : BufId) → stmt_tree (stmt.Take x p) ≡ Take x p
tree-Take x p = ap stmt_tree (sym (stmt.rolls-Take x p)) ∙ fold-roll-CStmt Statement (List Statement) stmt_step block_step (CStmt-F.Take x p)

pub tree-Clear : (p : BufId) → stmt_tree (stmt.Clear p) ≡ Clear p
tree-Clear p = ap stmt_tree (sym (stmt.rolls-Clear p)) ∙ fold-roll-CStmt Statement (List Statement) stmt_step block_step (CStmt-F.Clear p)

pub tree-Do : (f : FunId) (args : CArgs) → stmt_tree (stmt.Do f args) ≡ Do f (arguments (args_trees args))
tree-Do f args = ap stmt_tree (sym (stmt.rolls-Do f args)) ∙ fold-roll-CStmt Statement (List Statement) stmt_step block_step (CStmt-F.Do f args)

pub tree-DoSend : (f : FunId) (p : BufId) → stmt_tree (stmt.SendBuf f p) ≡ DoSend f p
tree-DoSend f p = ap stmt_tree (sym (stmt.rolls-SendBuf f p)) ∙ fold-roll-CStmt Statement (List Statement) stmt_step block_step (CStmt-F.SendBuf f p)

pub tree-For : (head : CForHead) (a : CBlock) → stmt_tree (stmt.For head a) ≡ For head.var (expr_tree head.from) (expr_tree head.to) head.step (block_tree a)
tree-For head a = ap stmt_tree (sym (stmt.rolls-For head a)) ∙ fold-roll-CStmt Statement (List Statement) stmt_step block_step (CStmt-F.For head a)

pub tree-While : (e : CExpr) (a : CBlock) → stmt_tree (stmt.While e a) ≡ While (expr_tree e) (block_tree a)
tree-While e a = ap stmt_tree (sym (stmt.rolls-While e a)) ∙ fold-roll-CStmt Statement (List Statement) stmt_step block_step (CStmt-F.While e a)
