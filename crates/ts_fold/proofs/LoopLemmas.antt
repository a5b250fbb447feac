-- Lists that are folded one item after another: what is folded so far, and the rest. An expression and a statement, by their folded parts.
use Rattle.std.proofs.Common.{◌≡◌, ℕ, ◌+◌, ◌<◌, ◌≤◌, List, [], ◌∷◌, ◌++◌, length, map, drop, get_or, ℤ, Bool, true, false, Option, Some, None, Result, Ok, Err, refl, ap, sym, subst, ◌∙◌, append_assoc}
use Rattle.std.specs.Prelude.{IfOk, OnOk}
use Rattle.std.proofs.lemmas.List.{drop_all, append-nil}
use Rattle.ts_checked.specs.Expression.{Expression, Arguments, no_arguments, argument, arguments, Call, Neg, Not, Two}
use Rattle.ts_checked.specs.Statement.{Statement, Block, block, If, IfElse, For, While}
use Rattle.ts_checked.specs.TreeOf.{expr_step, args_step, expr_tree, args_trees, stmt_step, block_step, stmt_tree, block_trees, block_tree}
use Rattle.std.specs.declared.alloc.Global.{Global}
use Rattle.std.specs.declared.boxed.Box.{Box}
use Rattle.mate_num.specs.declared.id.FunId.{FunId}
use Rattle.ts_checked.specs.declared.bin_op.BinOp.{BinOp}
use Rattle.ts_checked.specs.declared.checked_expr.CArgs.{CArgs}
use Rattle.ts_checked.specs.declared.checked_expr.CExpr.{CExpr}
use Rattle.ts_checked.specs.declared.checked_expr.CExpr.TheFolds.{fold-roll-CExpr}
use Rattle.ts_checked.specs.declared.checked_expr.CExpr.TheOpen.{CExpr-F}
use Rattle.ts_checked.specs.declared.checked_expr.CExpr.TheVariants as expr
use Rattle.ts_checked.specs.declared.checked_stmt.CBlock.{CBlock}
use Rattle.ts_checked.specs.declared.checked_stmt.CForHead.{CForHead}
use Rattle.ts_checked.specs.declared.checked_stmt.CVar.{CVar}
use Rattle.ts_checked.specs.declared.checked_stmt.CStmt.TheFolds.{fold-roll-CStmt}
use Rattle.ts_checked.specs.declared.checked_stmt.CStmt.TheOpen.{CStmt-F}
use Rattle.ts_checked.specs.declared.checked_stmt.CStmt.TheVariants as stmt
use Rattle.ts_checked.specs.declared.checked_stmt.CStmt.{CStmt}
use Rattle.ts_checked.proofs.ListLemmas.{drop_item}
use Rattle.ts_fold.specs.Folded.{negation, inverse, operation, decision, branch_left, if_left, if_else_left, folded_expr, folded_args, folded_stmt, folded_stmts}

-- arguments behind others
abbrev pub args_behind : List Expression → Arguments → Arguments
args_behind [] more = more
args_behind (e ∷ es) more = argument e (args_behind es more)

args_behind-push : (es : List Expression) (e : Expression) (more : Arguments) → args_behind es (argument e more) ≡ args_behind (es ++ e ∷ []) more
args_behind-push [] e more = refl
args_behind-push (d ∷ es) e more = ap (argument d) (args_behind-push es e more)

args_behind-none : (es : List Expression) → args_behind es no_arguments ≡ arguments es
args_behind-none [] = refl
args_behind-none (e ∷ es) = ap (argument e) (args_behind-none es)

-- one more argument is folded
pub args_next : (args : List CExpr) (i : ℕ) (arg : CExpr) (done more : List Expression) (e : Expression) → i < length args → arg ≡ get_or args i arg
    → e ≡ folded_expr (expr_tree arg) → more ≡ done ++ e ∷ []
    → args_behind done (folded_args (arguments (map expr_tree (drop i args)))) ≡ args_behind more (folded_args (arguments (map expr_tree (drop (i + 1) args))))
args_next args i arg done more e within item is pushed =
    ap (λ (xs : List CExpr). args_behind done (folded_args (arguments (map expr_tree xs)))) (drop_item args i arg within item)
    ∙ ap (λ (f : Expression). args_behind done (argument f (folded_args (arguments (map expr_tree (drop (i + 1) args)))))) (sym is)
    ∙ args_behind-push done e (folded_args (arguments (map expr_tree (drop (i + 1) args))))
    ∙ ap (λ (es : List Expression). args_behind es (folded_args (arguments (map expr_tree (drop (i + 1) args))))) (sym pushed)

-- all arguments are folded
pub args_end : (args : List CExpr) (i : ℕ) (done : List Expression) → length args ≤ i
    → args_behind done (folded_args (arguments (map expr_tree (drop i args)))) ≡ arguments done
args_end args i done past =
    ap (λ (xs : List CExpr). args_behind done (folded_args (arguments (map expr_tree xs)))) (drop_all i args past) ∙ args_behind-none done

-- one more statement is folded
pub stmts_next : (stmts : List CStmt) (i : ℕ) (stmt : CStmt) (done more : List Statement) → i < length stmts → stmt ≡ get_or stmts i stmt
    → more ≡ done ++ folded_stmt (stmt_tree stmt)
    → done ++ folded_stmts (block (map stmt_tree (drop i stmts))) ≡ more ++ folded_stmts (block (map stmt_tree (drop (i + 1) stmts)))
stmts_next stmts i stmt done more within item pushed =
    let rest : List Statement = folded_stmts (block (map stmt_tree (drop (i + 1) stmts))) in
    ap (λ (xs : List CStmt). done ++ folded_stmts (block (map stmt_tree xs))) (drop_item stmts i stmt within item)
    ∙ sym (append_assoc done (folded_stmt (stmt_tree stmt)) rest)
    ∙ ap (λ (xs : List Statement). xs ++ rest) (sym pushed)

-- all statements are folded
pub stmts_end : (stmts : List CStmt) (i : ℕ) (done : List Statement) → length stmts ≤ i
    → done ++ folded_stmts (block (map stmt_tree (drop i stmts))) ≡ done
stmts_end stmts i done past =
    ap (λ (xs : List CStmt). done ++ folded_stmts (block (map stmt_tree xs))) (drop_all i stmts past) ∙ append-nil done

-- a test that is decided, folded
pub decides : (e f : Expression) (o : Option Bool) (x b : Bool) → f ≡ folded_expr e → o ≡ decision f → o ≡ Some x → x ≡ b → decision (folded_expr e) ≡ Some b
decides e f o x b is tested some known = ap decision (sym is) ∙ sym tested ∙ some ∙ ap Some known

-- an `if` becomes its statements or nothing, where its test is decided
pub if_true : {A B : Type 0} (r : Result A B) (old new : List Statement) (e : Expression) (a : Block) → decision (folded_expr e) ≡ Some true
    → OnOk r (new ≡ old ++ folded_stmts a) → OnOk r (new ≡ old ++ folded_stmt (If e a))
if_true r old new e a known h =
    let P : List Statement → Type 0 = λ left. OnOk r (new ≡ old ++ left) in
    subst P (sym (ap (λ (o : Option Bool). branch_left o (folded_stmts a) [] (If (folded_expr e) (block (folded_stmts a)))) known)) h

pub if_false : (old : List Statement) (e : Expression) (a : Block) → decision (folded_expr e) ≡ Some false → old ≡ old ++ folded_stmt (If e a)
if_false old e a known =
    sym (append-nil old)
    ∙ ap (λ (xs : List Statement). old ++ xs) (sym (ap (λ (o : Option Bool). branch_left o (folded_stmts a) [] (If (folded_expr e) (block (folded_stmts a)))) known))

-- a `while` becomes nothing, where its test is decided
pub while_false : (old : List Statement) (e : Expression) (a : Block) → decision (folded_expr e) ≡ Some false → old ≡ old ++ folded_stmt (While e a)
while_false old e a known =
    let loop : Statement = While (folded_expr e) (block (folded_stmts a)) in
    sym (append-nil old) ∙ ap (λ (xs : List Statement). old ++ xs) (sym (ap (λ (o : Option Bool). branch_left o (loop ∷ []) [] loop) known))

-- an `if` whose test isn't decided, and a `for`, stay, with their parts folded
pub if_stays : {A B : Type 0} (r : Result A B) (old new : List Statement) (e : Expression) (a : Block) (test : CExpr) (body : CBlock)
    → expr_tree test ≡ folded_expr e → block_trees body ≡ folded_stmts a → decision (expr_tree test) ≡ None
    → OnOk r (new ≡ old ++ stmt_tree (stmt.If test body None) ∷ []) → OnOk r (new ≡ old ++ folded_stmt (If e a))
if_stays r old new e a test body is_e is_a open_test h =
    let P : List Statement → Type 0 = λ left. OnOk r (new ≡ old ++ left) in
    let tree : stmt_tree (stmt.If test body None) ≡ If (expr_tree test) (block_tree body) =
    ap stmt_tree (sym (stmt.rolls-If test body None)) ∙ fold-roll-CStmt Statement (List Statement) stmt_step block_step (CStmt-F.If test body None) in
    subst P (ap (λ (x : Statement). x ∷ []) tree
    ∙ sym (ap (λ (o : Option Bool). branch_left o (block_trees body) [] (If (expr_tree test) (block_tree body))) open_test)
    ∙ ap (λ (f : Expression). if_left f (block_trees body)) is_e
    ∙ ap (λ (xs : List Statement). if_left (folded_expr e) xs) is_a) h

pub for_stays : {A B : Type 0} (r : Result A B) (old new : List Statement) (from : CForHead) (a : Block) (head : CForHead) (body : CBlock)
    → head.var ≡ from.var → expr_tree head.from ≡ folded_expr (expr_tree from.from) → expr_tree head.to ≡ folded_expr (expr_tree from.to) → head.step ≡ from.step
    → block_trees body ≡ folded_stmts a → OnOk r (new ≡ old ++ stmt_tree (stmt.For head body) ∷ [])
    → OnOk r (new ≡ old ++ folded_stmt (For from.var (expr_tree from.from) (expr_tree from.to) from.step a))
for_stays r old new from a head body is_var is_from is_to is_step is_a h =
    let P : Statement → Type 0 = λ x. OnOk r (new ≡ old ++ x ∷ []) in
    let tree : stmt_tree (stmt.For head body) ≡ For head.var (expr_tree head.from) (expr_tree head.to) head.step (block_tree body) =
    ap stmt_tree (sym (stmt.rolls-For head body)) ∙ fold-roll-CStmt Statement (List Statement) stmt_step block_step (CStmt-F.For head body) in
    let first : Expression = folded_expr (expr_tree from.from) in
    let last : Expression = folded_expr (expr_tree from.to) in
    subst P (tree
    ∙ ap (λ (v : CVar). For v (expr_tree head.from) (expr_tree head.to) head.step (block_tree body)) is_var
    ∙ ap (λ (x : Expression). For from.var x (expr_tree head.to) head.step (block_tree body)) is_from
    ∙ ap (λ (x : Expression). For from.var first x head.step (block_tree body)) is_to
    ∙ ap (λ (i : ℤ). For from.var first last i (block_tree body)) is_step
    ∙ ap (λ (xs : List Statement). For from.var first last from.step (block xs)) is_a) h

-- an `if` with its `else` whose test isn't decided stays, with its parts folded
pub if_else_stays : (e f : Expression) (a b : Block) (c d done more : List Statement) → f ≡ folded_expr e → c ≡ folded_stmts a → d ≡ folded_stmts b
    → decision f ≡ None → more ≡ done ++ IfElse f (block c) (block d) ∷ [] → more ≡ done ++ folded_stmt (IfElse e a b)
if_else_stays e f a b c d done more is_e is_a is_b open_test pushed =
    pushed ∙ ap (λ (xs : List Statement). done ++ xs)
    (sym (ap (λ (o : Option Bool). branch_left o c d (IfElse f (block c) (block d))) open_test)
    ∙ ap (λ (f : Expression). if_else_left f c d) is_e
    ∙ ap (λ (xs : List Statement). if_else_left (folded_expr e) xs d) is_a
    ∙ ap (λ (xs : List Statement). if_else_left (folded_expr e) (folded_stmts a) xs) is_b)

-- an expression that folding leaves as it is
pub leaf_stays : (from to : CExpr) (x : Expression) → expr_tree to ≡ x → from ≡ to → folded_expr x ≡ x → expr_tree to ≡ folded_expr (expr_tree from)
leaf_stays from to x tree is kept = tree ∙ sym kept ∙ ap folded_expr (sym (ap expr_tree is ∙ tree))

-- an operation, with its operands folded
pub negation_folds : {B : Type 0} (r : Result CExpr B) (of : Box CExpr Global) (inner new : CExpr) {from : CExpr} → from ≡ expr.Neg of → inner ≡ of.value → expr_tree new ≡ folded_expr (expr_tree inner)
    → IfOk r (λ e. expr_tree e ≡ negation (expr_tree new)) → IfOk r (λ e. expr_tree e ≡ folded_expr (expr_tree from))
negation_folds r of inner new is same folds h =
    let P : Expression → Type 0 = λ x. IfOk r (λ e. expr_tree e ≡ x) in
    let seen : expr_tree (expr.Neg of) ≡ Neg (expr_tree of.value) =
    ap expr_tree (sym (expr.rolls-Neg of)) ∙ fold-roll-CExpr Expression (List Expression) expr_step args_step (CExpr-F.Neg of) in
    subst P (ap negation (folds ∙ ap (λ (e : CExpr). folded_expr (expr_tree e)) same) ∙ ap folded_expr (sym (ap expr_tree is ∙ seen))) h

pub inverse_folds : {B : Type 0} (r : Result CExpr B) (of : Box CExpr Global) (inner new : CExpr) {from : CExpr} → from ≡ expr.Not of → inner ≡ of.value → expr_tree new ≡ folded_expr (expr_tree inner)
    → IfOk r (λ e. expr_tree e ≡ inverse (expr_tree new)) → IfOk r (λ e. expr_tree e ≡ folded_expr (expr_tree from))
inverse_folds r of inner new is same folds h =
    let P : Expression → Type 0 = λ x. IfOk r (λ e. expr_tree e ≡ x) in
    let seen : expr_tree (expr.Not of) ≡ Not (expr_tree of.value) =
    ap expr_tree (sym (expr.rolls-Not of)) ∙ fold-roll-CExpr Expression (List Expression) expr_step args_step (CExpr-F.Not of) in
    subst P (ap inverse (folds ∙ ap (λ (e : CExpr). folded_expr (expr_tree e)) same) ∙ ap folded_expr (sym (ap expr_tree is ∙ seen))) h

pub operation_folds : {B : Type 0} (r : Result CExpr B) (op : BinOp) (l m : Box CExpr Global) (left right new other : CExpr) {from : CExpr} → from ≡ expr.Two op l m → left ≡ l.value → right ≡ m.value
    → expr_tree new ≡ folded_expr (expr_tree left) → expr_tree other ≡ folded_expr (expr_tree right)
    → IfOk r (λ e. expr_tree e ≡ operation op (expr_tree new) (expr_tree other)) → IfOk r (λ e. expr_tree e ≡ folded_expr (expr_tree from))
operation_folds r op l m left right new other is same also folds both h =
    let P : Expression → Type 0 = λ x. IfOk r (λ e. expr_tree e ≡ x) in
    let seen : expr_tree (expr.Two op l m) ≡ Two op (expr_tree l.value) (expr_tree m.value) =
    ap expr_tree (sym (expr.rolls-Two op l m)) ∙ fold-roll-CExpr Expression (List Expression) expr_step args_step (CExpr-F.Two op l m) in
    subst P (ap (λ (x : Expression). operation op x (expr_tree other)) (folds ∙ ap (λ (e : CExpr). folded_expr (expr_tree e)) same)
    ∙ ap (operation op (folded_expr (expr_tree l.value))) (both ∙ ap (λ (e : CExpr). folded_expr (expr_tree e)) also) ∙ ap folded_expr (sym (ap expr_tree is ∙ seen))) h

-- a call, with its arguments folded
pub call_folds : (f : FunId) (args new : CArgs) {from : CExpr} → from ≡ expr.Call f args → arguments (args_trees new) ≡ folded_args (arguments (args_trees args))
    → expr_tree (expr.Call f new) ≡ folded_expr (expr_tree from)
call_folds f args new is folds =
    ap expr_tree (sym (expr.rolls-Call f new)) ∙ fold-roll-CExpr Expression (List Expression) expr_step args_step (CExpr-F.Call f new) ∙ ap (Call f) folds
    ∙ ap folded_expr (sym (ap expr_tree is ∙ ap expr_tree (sym (expr.rolls-Call f args)) ∙ fold-roll-CExpr Expression (List Expression) expr_step args_step (CExpr-F.Call f args)))

-- a statement that folding leaves as it is
pub stays : {A B : Type 0} (r : Result A B) (old new : List Statement) (from to : CStmt) (x : Statement) → stmt_tree to ≡ x → from ≡ to → folded_stmt x ≡ x ∷ []
    → OnOk r (new ≡ old ++ stmt_tree to ∷ []) → OnOk r (new ≡ old ++ folded_stmt (stmt_tree from))
stays r old new from to x tree is kept h =
    let P : List Statement → Type 0 = λ left. OnOk r (new ≡ old ++ left) in
    subst P (ap (λ (y : Statement). y ∷ []) tree ∙ sym kept ∙ ap folded_stmt (sym (ap stmt_tree is ∙ tree))) h

-- what holds where a call succeeded, by what it promised
pub on_ok : {A B : Type 0} (r : Result A B) (P Q : Type 0) → (P → Q) → OnOk r P → OnOk r Q
on_ok (Ok x) P Q f h = f h
on_ok (Err e) P Q f h = tt
