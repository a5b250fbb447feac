-- What is returned if a part of a check refuses.
use Rattle.std.proofs.Common.{◌≡◌, Bool, true, List, Option, Some, None, Result, Ok, Err, ◌∙◌, ap, sym, subst}
use Rattle.std.specs.Prelude.{IsErrAnd}
use Rattle.std.specs.declared.alloc.Global.{Global}
use Rattle.std.specs.declared.boxed.Box.{Box}
use Rattle.ts_checked.specs.declared.bin_op.BinOp.{BinOp}
use Rattle.ts_trees.specs.declared.expr.Expr.TheVariants as of
use Rattle.ts_trees.specs.Seen.{tree_of, act_of, acts_of}
use Rattle.ts_checked.specs.Expression.{Expression, Two}
use Rattle.ts_checked.specs.Statement.{If, IfElse}
use Rattle.ts_trees.specs.declared.expr.Expr.{Expr}
use Rattle.ts_trees.specs.declared.stmt.Stmt.{Stmt}
use Rattle.ts_trees.specs.declared.stmt.Stmt.TheVariants as does
use Rattle.ts_trees.proofs.SeenLemmas.{tree_two, act_if_then, act_if_else}
use Rattle.ts_checker.specs.declared.fault.CheckFault.{CheckFault}
use Rattle.ts_checker.specs.declared.fault.CheckFault.TheVariants.{NoMemory}
use Rattle.mate_num.specs.Results.{◌>>=◌}
use Rattle.ts_checker.specs.Names.{ScriptNames}
use Rattle.ts_checker.specs.Answer.{RefusesScript, GivesChecked}
use Rattle.ts_checker.specs.Checks.{checked_expr, checked_stmt, checked_block}

-- a check refuses where another one does that it follows
refuses_along : {A B : Type 0} (e : CheckFault) (r : Result A CheckFault) (s : Result B CheckFault) → ((f : CheckFault) → r ≡ Err f → s ≡ Err f)
    → RefusesScript e r → RefusesScript e s
refuses_along NoMemory r s along h = tt
refuses_along fault r s along h = along fault h

-- what is returned where a part of a check refused
pub gives_refusal : {A B : Type 0} (view : A → B) (e : CheckFault) (result : Result A CheckFault) (s : Result B CheckFault)
    → IsErrAnd result (λ y. y ≡ e) → RefusesScript e s → GivesChecked view result s
gives_refusal view e (Ok x) s is h = absurd is
gives_refusal view e (Err y) s is h = let P : CheckFault → Type 0 = λ z. RefusesScript z s in subst P (sym is) h

-- the whole refuses as the part does
pub refused_part : {A B C : Type 0} (view : A → B) (e : CheckFault) (result : Result A CheckFault) (part : Result C CheckFault) (whole : Result B CheckFault)
    → ((f : CheckFault) → part ≡ Err f → whole ≡ Err f) → IsErrAnd result (λ y. y ≡ e) → RefusesScript e part → GivesChecked view result whole
refused_part view e result part whole along is h = gives_refusal view e result whole is (refuses_along e part whole along h)

refuses_by : {A : Type 0} (e : CheckFault) (check : Result A CheckFault) → check ≡ Err e → RefusesScript e check
refuses_by NoMemory check is = tt
refuses_by fault check is = is

-- the check refuses with this fault
pub refused_by : {A B : Type 0} (view : A → B) (e : CheckFault) (result : Result A CheckFault) (check : Result B CheckFault)
    → check ≡ Err e → IsErrAnd result (λ y. y ≡ e) → GivesChecked view result check
refused_by view e result check refused is = gives_refusal view e result check is (refuses_by e check refused)

-- the two operands of an expression
pub left_refused : (n : ScriptNames) (calls : Bool) (o : BinOp) (l r : Box Expr Global) (left : Expr) {e : Expr} → e ≡ of.Two o l r → left ≡ l.value
    → (f : CheckFault) → checked_expr n calls (tree_of left) ≡ Err f → checked_expr n calls (tree_of e) ≡ Err f
left_refused n calls o l r left is same f refused =
    ap (λ x. checked_expr n calls (tree_of x)) is ∙ ap (checked_expr n calls) (tree_two o l r)
    ∙ ap (λ x. x >>= (λ a. checked_expr n calls (tree_of r.value) >>= (λ b. Ok (Two o a b)))) (ap (λ x. checked_expr n calls (tree_of x)) (sym same) ∙ refused)

pub right_refused : (n : ScriptNames) (calls : Bool) (o : BinOp) (l r : Box Expr Global) (left right : Expr) (a : Expression) {e : Expr} → e ≡ of.Two o l r
    → left ≡ l.value → right ≡ r.value → checked_expr n calls (tree_of left) ≡ Ok a
    → (f : CheckFault) → checked_expr n calls (tree_of right) ≡ Err f → checked_expr n calls (tree_of e) ≡ Err f
right_refused n calls o l r left right a is same also here f refused =
    ap (λ x. checked_expr n calls (tree_of x)) is ∙ ap (checked_expr n calls) (tree_two o l r)
    ∙ ap (λ x. x >>= (λ a. checked_expr n calls (tree_of r.value) >>= (λ b. Ok (Two o a b)))) (ap (λ x. checked_expr n calls (tree_of x)) (sym same) ∙ here)
    ∙ ap (λ x. x >>= (λ b. Ok (Two o a b))) (ap (λ x. checked_expr n calls (tree_of x)) (sym also) ∙ refused)

-- the test of an `if`, and the statements where it holds
pub if_test_refused : (n : ScriptNames) (e : Expr) (a : List Stmt) (b : Option (List Stmt)) {s : Stmt} → s ≡ does.If e a b
    → (f : CheckFault) → checked_expr n true (tree_of e) ≡ Err f → checked_stmt n (act_of s) ≡ Err f
if_test_refused n e a None is f refused =
    ap (λ x. checked_stmt n (act_of x)) is ∙ ap (checked_stmt n) (act_if_then e a)
    ∙ ap (λ r. r >>= (λ test. checked_block n (acts_of a) >>= (λ body. Ok (If test body)))) refused
if_test_refused n e a (Some b) is f refused =
    ap (λ x. checked_stmt n (act_of x)) is ∙ ap (checked_stmt n) (act_if_else e a b)
    ∙ ap (λ r. r >>= (λ test. checked_block n (acts_of a) >>= (λ body. checked_block n (acts_of b) >>= (λ other. Ok (IfElse test body other))))) refused

pub if_body_refused : (n : ScriptNames) (e : Expr) (a : List Stmt) (b : Option (List Stmt)) (test : Expression) {s : Stmt} → s ≡ does.If e a b → checked_expr n true (tree_of e) ≡ Ok test
    → (f : CheckFault) → checked_block n (acts_of a) ≡ Err f → checked_stmt n (act_of s) ≡ Err f
if_body_refused n e a None test is here f refused =
    ap (λ x. checked_stmt n (act_of x)) is ∙ ap (checked_stmt n) (act_if_then e a)
    ∙ ap (λ r. r >>= (λ x. checked_block n (acts_of a) >>= (λ body. Ok (If x body)))) here
    ∙ ap (λ r. r >>= (λ body. Ok (If test body))) refused
if_body_refused n e a (Some b) test is here f refused =
    ap (λ x. checked_stmt n (act_of x)) is ∙ ap (checked_stmt n) (act_if_else e a b)
    ∙ ap (λ r. r >>= (λ x. checked_block n (acts_of a) >>= (λ body. checked_block n (acts_of b) >>= (λ other. Ok (IfElse x body other))))) here
    ∙ ap (λ r. r >>= (λ body. checked_block n (acts_of b) >>= (λ other. Ok (IfElse test body other)))) refused
