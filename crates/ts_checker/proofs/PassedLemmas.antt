-- What a check gives if all its parts pass.
use Rattle.std.proofs.Common.{◌≡◌, ◌∙◌, Bool, true, List, Option, Ok, ap, sym}
use Rattle.std.specs.declared.alloc.Global.{Global}
use Rattle.std.specs.declared.boxed.Box.{Box}
use Rattle.mate_num.specs.declared.id.BufId.{BufId}
use Rattle.ts_checked.specs.declared.bin_op.BinOp.{BinOp}
use Rattle.ts_trees.specs.declared.word.Word.{Word}
use Rattle.ts_trees.specs.declared.stmt.Step.{Step}
use Rattle.ts_trees.specs.declared.expr.Expr.{Expr}
use Rattle.ts_trees.specs.declared.expr.Expr.TheVariants as of
use Rattle.ts_checked.specs.declared.checked_expr.CExpr.{CExpr}
use Rattle.ts_checked.specs.declared.checked_expr.CExpr.TheFolds.{fold-roll-CExpr}
use Rattle.ts_checked.specs.declared.checked_expr.CExpr.TheOpen.{CExpr-F}
use Rattle.ts_checked.specs.declared.checked_expr.CExpr.TheVariants as expr
use Rattle.ts_checked.specs.declared.checked_stmt.CBlock.{CBlock}
use Rattle.ts_checked.specs.declared.checked_stmt.CForHead.{CForHead}
use Rattle.ts_checked.specs.declared.checked_stmt.CStmt.TheFolds.{fold-roll-CStmt}
use Rattle.ts_checked.specs.declared.checked_stmt.CStmt.TheOpen.{CStmt-F}
use Rattle.ts_checked.specs.declared.checked_stmt.CStmt.TheVariants as stmt
use Rattle.ts_checked.specs.Expression.{Expression, Item, MsgItem, Neg, Not, Two}
use Rattle.ts_checked.specs.Statement.{Statement, For, While}
use Rattle.ts_trees.specs.Seen.{tree_of}
use Rattle.ts_trees.specs.Tree as given
use Rattle.ts_trees.specs.Tree.{Tree, Acts}
use Rattle.ts_checked.specs.TreeOf.{expr_step, args_step, expr_tree, stmt_step, block_step, stmt_tree, block_tree}
use Rattle.ts_trees.proofs.SeenLemmas.{tree_message_size, tree_two}
use Rattle.mate_num.specs.Results.{◌>>=◌}
use Rattle.ts_checker.specs.Names.{ScriptNames, buffer as buffer_at, closes_for}
use Rattle.ts_checker.specs.Checks.{checked_expr, checked_head, checked_stmt, checked_block}
use Rattle.ts_checker.specs.Seen.{checked_head_of}

-- an expression
pub message_size_passes : (n : ScriptNames) (calls : Bool) {e : Expr} → e ≡ of.MsgSize → checked_expr n calls (tree_of e) ≡ Ok (expr_tree expr.MsgSize)
message_size_passes n calls is =
    ap (λ x. checked_expr n calls (tree_of x)) is ∙ ap (checked_expr n calls) tree_message_size
    ∙ ap Ok (sym (ap expr_tree (sym expr.rolls-MsgSize) ∙ fold-roll-CExpr Expression (List Expression) expr_step args_step CExpr-F.MsgSize))

pub item_passes : (n : ScriptNames) (calls : Bool) (w : Word) (e : Tree) (p : BufId) (a : Box CExpr Global) → buffer_at n w ≡ Ok p
    → checked_expr n calls e ≡ Ok (expr_tree a.value) → checked_expr n calls (given.item w e) ≡ Ok (expr_tree (expr.Item p a))
item_passes n calls w e p a found passed =
    ap (λ r. r >>= (λ p. checked_expr n calls e >>= (λ i. Ok (Item p i)))) found ∙ ap (λ r. r >>= (λ i. Ok (Item p i))) passed
    ∙ ap Ok (sym (ap expr_tree (sym (expr.rolls-Item p a)) ∙ fold-roll-CExpr Expression (List Expression) expr_step args_step (CExpr-F.Item p a)))

pub message_item_passes : (n : ScriptNames) (calls : Bool) (e : Tree) (a : Box CExpr Global) → checked_expr n calls e ≡ Ok (expr_tree a.value)
    → checked_expr n calls (given.message_item e) ≡ Ok (expr_tree (expr.MsgItem a))
message_item_passes n calls e a passed =
    ap (λ r. r >>= (λ i. Ok (MsgItem i))) passed
    ∙ ap Ok (sym (ap expr_tree (sym (expr.rolls-MsgItem a)) ∙ fold-roll-CExpr Expression (List Expression) expr_step args_step (CExpr-F.MsgItem a)))

pub negative_passes : (n : ScriptNames) (calls : Bool) (e : Tree) (a : Box CExpr Global) → checked_expr n calls e ≡ Ok (expr_tree a.value)
    → checked_expr n calls (given.negative e) ≡ Ok (expr_tree (expr.Neg a))
negative_passes n calls e a passed =
    ap (λ r. r >>= (λ x. Ok (Neg x))) passed
    ∙ ap Ok (sym (ap expr_tree (sym (expr.rolls-Neg a)) ∙ fold-roll-CExpr Expression (List Expression) expr_step args_step (CExpr-F.Neg a)))

pub inverse_passes : (n : ScriptNames) (calls : Bool) (e : Tree) (a : Box CExpr Global) → checked_expr n calls e ≡ Ok (expr_tree a.value)
    → checked_expr n calls (given.inverse e) ≡ Ok (expr_tree (expr.Not a))
inverse_passes n calls e a passed =
    ap (λ r. r >>= (λ x. Ok (Not x))) passed
    ∙ ap Ok (sym (ap expr_tree (sym (expr.rolls-Not a)) ∙ fold-roll-CExpr Expression (List Expression) expr_step args_step (CExpr-F.Not a)))

pub two_pass : (n : ScriptNames) (calls : Bool) (o : BinOp) (l r : Box Expr Global) (left right : Expr) (a b : Box CExpr Global) {e : Expr} → e ≡ of.Two o l r
    → left ≡ l.value → right ≡ r.value → checked_expr n calls (tree_of left) ≡ Ok (expr_tree a.value) → checked_expr n calls (tree_of right) ≡ Ok (expr_tree b.value)
    → checked_expr n calls (tree_of e) ≡ Ok (expr_tree (expr.Two o a b))
two_pass n calls o l r left right a b is same also here there =
    ap (λ x. checked_expr n calls (tree_of x)) is ∙ ap (checked_expr n calls) (tree_two o l r)
    ∙ ap (λ x. x >>= (λ a. checked_expr n calls (tree_of r.value) >>= (λ b. Ok (Two o a b)))) (ap (λ x. checked_expr n calls (tree_of x)) (sym same) ∙ here)
    ∙ ap (λ x. x >>= (λ y. Ok (Two o (expr_tree a.value) y))) (ap (λ x. checked_expr n calls (tree_of x)) (sym also) ∙ there)
    ∙ ap Ok (sym (ap expr_tree (sym (expr.rolls-Two o a b)) ∙ fold-roll-CExpr Expression (List Expression) expr_step args_step (CExpr-F.Two o a b)))

-- a statement with a block
pub while_passes : (n : ScriptNames) (e : Tree) (xs : Acts) (test : CExpr) (body : CBlock) → checked_expr n true e ≡ Ok (expr_tree test) → checked_block n xs ≡ Ok (block_tree body)
    → checked_stmt n (given.while_do e xs) ≡ Ok (stmt_tree (stmt.While test body))
while_passes n e xs test body here there =
    ap (λ r. r >>= (λ t. checked_block n xs >>= (λ b. Ok (While t b)))) here ∙ ap (λ r. r >>= (λ b. Ok (While (expr_tree test) b))) there
    ∙ ap Ok (sym (ap stmt_tree (sym (stmt.rolls-While test body)) ∙ fold-roll-CStmt Statement (List Statement) stmt_step block_step (CStmt-F.While test body)))

pub for_passes : (n : ScriptNames) (w : Word) (from to : Tree) (step : Option Step) (xs : Acts) (next : Word) (head : CForHead) (body : CBlock)
    → checked_head n w from to step ≡ Ok (checked_head_of head) → checked_block n xs ≡ Ok (block_tree body) → closes_for n w next ≡ Ok tt
    → checked_stmt n (given.for_next w from to step xs next) ≡ Ok (stmt_tree (stmt.For head body))
for_passes n w from to step xs next head body first second closed =
    ap (λ r. r >>= (λ h. checked_block n xs >>= (λ b. closes_for n w next >>= (λ _. Ok (For h.var h.from h.to h.step b))))) first
    ∙ ap (λ r. r >>= (λ b. closes_for n w next >>= (λ _. Ok (For head.var (expr_tree head.from) (expr_tree head.to) head.step b)))) second
    ∙ ap (λ r. r >>= (λ _. Ok (For head.var (expr_tree head.from) (expr_tree head.to) head.step (block_tree body)))) closed
    ∙ ap Ok (sym (ap stmt_tree (sym (stmt.rolls-For head body)) ∙ fold-roll-CStmt Statement (List Statement) stmt_step block_step (CStmt-F.For head body)))
