-- Checks of lists, one item after another: what is checked so far, and the rest.
use Rattle.std.proofs.Common.{◌≡◌, ℕ, ◌+◌, ◌<◌, ◌≤◌, List, [], ◌∷◌, ◌++◌, length, drop, get_or, Bool, Result, Ok, Err, refl, ap, sym, ◌∙◌}
use Rattle.std.proofs.lemmas.List.{drop_all}
use Rattle.ts_checked.specs.Expression.{Expression, Arguments, no_arguments, argument, arguments}
use Rattle.ts_checked.specs.Statement.{Statement, Block, no_statements, statement, block}
use Rattle.ts_trees.specs.Seen.{trees_of, acts_of, tree_of, act_of}
use Rattle.ts_trees.specs.declared.expr.Expr.{Expr}
use Rattle.ts_trees.specs.declared.stmt.Stmt.{Stmt}
use Rattle.ts_checked.proofs.ListLemmas.{drop_item}
use Rattle.ts_checker.specs.declared.fault.CheckFault.{CheckFault}
use Rattle.mate_num.specs.Results.{◌>>=◌}
use Rattle.ts_checker.specs.Names.{ScriptNames}
use Rattle.ts_checker.specs.Checks.{checked_expr, checked_args, checked_stmt, checked_block}

-- arguments behind others
abbrev pub args_behind : List Expression → Arguments → Arguments
args_behind [] more = more
args_behind (e ∷ es) more = argument e (args_behind es more)

-- what the checks of the rest give, behind what is checked
abbrev pub with_args : List Expression → Result Arguments CheckFault → Result Arguments CheckFault
with_args done rest = rest >>= (λ more. Ok (args_behind done more))

args_behind-push : (es : List Expression) (e : Expression) (more : Arguments) → args_behind es (argument e more) ≡ args_behind (es ++ e ∷ []) more
args_behind-push [] e more = refl
args_behind-push (d ∷ es) e more = ap (argument d) (args_behind-push es e more)

args_behind-none : (es : List Expression) → args_behind es no_arguments ≡ arguments es
args_behind-none [] = refl
args_behind-none (e ∷ es) = ap (argument e) (args_behind-none es)

with_args-push : (done : List Expression) (e : Expression) (rest : Result Arguments CheckFault)
    → with_args done (rest >>= (λ more. Ok (argument e more))) ≡ with_args (done ++ e ∷ []) rest
with_args-push done e (Ok more) = ap Ok (args_behind-push done e more)
with_args-push done e (Err fault) = refl

-- one more argument is checked
pub args_next : (n : ScriptNames) (calls : Bool) (args : List Expr) (i : ℕ) (arg : Expr) (done more : List Expression) (e : Expression)
    → i < length args → arg ≡ get_or args i arg → checked_expr n calls (tree_of arg) ≡ Ok e → more ≡ done ++ e ∷ []
    → with_args done (checked_args n calls (trees_of (drop i args))) ≡ with_args more (checked_args n calls (trees_of (drop (i + 1) args)))
args_next n calls args i arg done more e within item checked pushed =
    ap (λ es. with_args done (checked_args n calls (trees_of es))) (drop_item args i arg within item)
    ∙ ap (λ r. with_args done (r >>= (λ a. checked_args n calls (trees_of (drop (i + 1) args)) >>= (λ rest. Ok (argument a rest))))) checked
    ∙ with_args-push done e (checked_args n calls (trees_of (drop (i + 1) args)))
    ∙ ap (λ es. with_args es (checked_args n calls (trees_of (drop (i + 1) args)))) (sym pushed)

-- an argument is refused
pub args_refused : (n : ScriptNames) (calls : Bool) (args : List Expr) (i : ℕ) (arg : Expr) (done : List Expression) (fault : CheckFault)
    → i < length args → arg ≡ get_or args i arg → checked_expr n calls (tree_of arg) ≡ Err fault
    → with_args done (checked_args n calls (trees_of (drop i args))) ≡ Err fault
args_refused n calls args i arg done fault within item refused =
    ap (λ es. with_args done (checked_args n calls (trees_of es))) (drop_item args i arg within item)
    ∙ ap (λ r. with_args done (r >>= (λ a. checked_args n calls (trees_of (drop (i + 1) args)) >>= (λ rest. Ok (argument a rest))))) refused

-- all arguments are checked
pub args_end : (n : ScriptNames) (calls : Bool) (args : List Expr) (i : ℕ) (done : List Expression) → length args ≤ i
    → with_args done (checked_args n calls (trees_of (drop i args))) ≡ Ok (arguments done)
args_end n calls args i done past =
    ap (λ es. with_args done (checked_args n calls (trees_of es))) (drop_all i args past) ∙ ap Ok (args_behind-none done)

-- statements behind others
abbrev pub stmts_behind : List Statement → Block → Block
stmts_behind [] more = more
stmts_behind (s ∷ ss) more = statement s (stmts_behind ss more)

abbrev pub with_stmts : List Statement → Result Block CheckFault → Result Block CheckFault
with_stmts done rest = rest >>= (λ more. Ok (stmts_behind done more))

stmts_behind-push : (ss : List Statement) (s : Statement) (more : Block) → stmts_behind ss (statement s more) ≡ stmts_behind (ss ++ s ∷ []) more
stmts_behind-push [] s more = refl
stmts_behind-push (t ∷ ss) s more = ap (statement t) (stmts_behind-push ss s more)

stmts_behind-none : (ss : List Statement) → stmts_behind ss no_statements ≡ block ss
stmts_behind-none [] = refl
stmts_behind-none (s ∷ ss) = ap (statement s) (stmts_behind-none ss)

with_stmts-push : (done : List Statement) (s : Statement) (rest : Result Block CheckFault)
    → with_stmts done (rest >>= (λ more. Ok (statement s more))) ≡ with_stmts (done ++ s ∷ []) rest
with_stmts-push done s (Ok more) = ap Ok (stmts_behind-push done s more)
with_stmts-push done s (Err fault) = refl

-- one more statement is checked
pub stmts_next : (n : ScriptNames) (stmts : List Stmt) (i : ℕ) (stmt : Stmt) (done more : List Statement) (s : Statement)
    → i < length stmts → stmt ≡ get_or stmts i stmt → checked_stmt n (act_of stmt) ≡ Ok s → more ≡ done ++ s ∷ []
    → with_stmts done (checked_block n (acts_of (drop i stmts))) ≡ with_stmts more (checked_block n (acts_of (drop (i + 1) stmts)))
stmts_next n stmts i stmt done more s within item checked pushed =
    ap (λ ss. with_stmts done (checked_block n (acts_of ss))) (drop_item stmts i stmt within item)
    ∙ ap (λ r. with_stmts done (r >>= (λ a. checked_block n (acts_of (drop (i + 1) stmts)) >>= (λ rest. Ok (statement a rest))))) checked
    ∙ with_stmts-push done s (checked_block n (acts_of (drop (i + 1) stmts)))
    ∙ ap (λ ss. with_stmts ss (checked_block n (acts_of (drop (i + 1) stmts)))) (sym pushed)

-- a statement is refused
pub stmts_refused : (n : ScriptNames) (stmts : List Stmt) (i : ℕ) (stmt : Stmt) (done : List Statement) (fault : CheckFault)
    → i < length stmts → stmt ≡ get_or stmts i stmt → checked_stmt n (act_of stmt) ≡ Err fault
    → with_stmts done (checked_block n (acts_of (drop i stmts))) ≡ Err fault
stmts_refused n stmts i stmt done fault within item refused =
    ap (λ ss. with_stmts done (checked_block n (acts_of ss))) (drop_item stmts i stmt within item)
    ∙ ap (λ r. with_stmts done (r >>= (λ a. checked_block n (acts_of (drop (i + 1) stmts)) >>= (λ rest. Ok (statement a rest))))) refused

-- all statements are checked
pub stmts_end : (n : ScriptNames) (stmts : List Stmt) (i : ℕ) (done : List Statement) → length stmts ≤ i
    → with_stmts done (checked_block n (acts_of (drop i stmts))) ≡ Ok (block done)
stmts_end n stmts i done past =
    ap (λ ss. with_stmts done (checked_block n (acts_of ss))) (drop_all i stmts past) ∙ ap Ok (stmts_behind-none done)
