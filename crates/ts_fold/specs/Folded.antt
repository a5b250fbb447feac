-- What folding makes of a script: an operation on numbers becomes its value, and a test that is a number is decided.
use Rattle.std.specs.Prelude.{ℤ, Bool, true, false, List, [], ◌∷◌, ◌++◌, Option, Some, None}
use Rattle.std.specs.Option.{option_map, option_map_or, option_and_then}
use Rattle.std.specs.Result.{result_ok}
use Rattle.mate_num.specs.Number.{is_truth}
use Rattle.mate_num.specs.Operators.{negative_of, not_of}
use Rattle.ts_checked.specs.Expression.{Expression, Arguments, no_arguments, argument, Num, Shared, Private, Item, Size, MsgItem, MsgSize}
use Rattle.ts_checked.specs.Expression.{Call, SendBuf, Neg, Not, Two}
use Rattle.ts_checked.specs.Statement.{Statement, Block, no_statements, statement, block, Set, SetItem, Append, Take, Clear, Do, DoSend, If}
use Rattle.ts_checked.specs.Statement.{IfElse, For, While}
use Rattle.ts_checked.specs.declared.bin_op.BinOp.{BinOp}
use Rattle.ts_semantics.specs.Meaning.{applied}

-- the number that an expression is
abbrev pub literal_of : Expression → Option ℤ
literal_of (Num n) = Some n
literal_of _ = None

-- the values of the operations on numbers, as the meaning gives them; `/` and `%` by 0 give a fault, and no value
abbrev pub operated : BinOp → Option ℤ → Option ℤ → Option ℤ
operated op l r = option_and_then (λ a. option_and_then (λ b. result_ok (applied op a b)) r) l

-- the value, and if there is none the operation
abbrev pub negation : Expression → Expression
negation e = option_map_or Num (option_and_then (λ a. result_ok (negative_of a)) (literal_of e)) (Neg e)

abbrev pub inverse : Expression → Expression
inverse e = option_map_or Num (option_and_then (λ a. result_ok (not_of a)) (literal_of e)) (Not e)

abbrev pub operation : BinOp → Expression → Expression → Expression
operation op l r = option_map_or Num (operated op (literal_of l) (literal_of r)) (Two op l r)

-- an expression and arguments, folded from the leaves; an item, a size and a call are no operations
abbrev mutual
  pub folded_expr : Expression → Expression
  folded_expr (Item p e) = Item p (folded_expr e)
  folded_expr (MsgItem e) = MsgItem (folded_expr e)
  folded_expr (Call f args) = Call f (folded_args args)
  folded_expr (Neg e) = negation (folded_expr e)
  folded_expr (Not e) = inverse (folded_expr e)
  folded_expr (Two op l r) = operation op (folded_expr l) (folded_expr r)
  folded_expr e = e

  pub folded_args : Arguments → Arguments
  folded_args no_arguments = no_arguments
  folded_args (argument e es) = argument (folded_expr e) (folded_args es)

-- whether a test holds, if it is a number
abbrev pub decision : Expression → Option Bool
decision e = option_map is_truth (literal_of e)

-- what is left of a statement: the one part or the other, if its test is decided, and else the statement
abbrev pub branch_left : Option Bool → List Statement → List Statement → Statement → List Statement
branch_left None a b x = x ∷ []
branch_left (Some true) a b x = a
branch_left (Some false) a b x = b

-- an `if` without and with its `else`, and a `while`, of folded parts
abbrev pub if_left : Expression → List Statement → List Statement
if_left e a = branch_left (decision e) a [] (If e (block a))

abbrev pub if_else_left : Expression → List Statement → List Statement → List Statement
if_else_left e a b = branch_left (decision e) a b (IfElse e (block a) (block b))

abbrev pub while_left : Expression → List Statement → List Statement
while_left e a = branch_left (decision e) (While e (block a) ∷ []) [] (While e (block a))

-- the statements that a statement, and a block, becomes
abbrev mutual
  pub folded_stmt : Statement → List Statement
  folded_stmt (Set x e) = Set x (folded_expr e) ∷ []
  folded_stmt (SetItem p i e) = SetItem p (folded_expr i) (folded_expr e) ∷ []
  folded_stmt (Append p e) = Append p (folded_expr e) ∷ []
  folded_stmt (Do f args) = Do f (folded_args args) ∷ []
  folded_stmt (If e a) = if_left (folded_expr e) (folded_stmts a)
  folded_stmt (IfElse e a b) = if_else_left (folded_expr e) (folded_stmts a) (folded_stmts b)
  folded_stmt (For x from to step a) = For x (folded_expr from) (folded_expr to) step (block (folded_stmts a)) ∷ []
  folded_stmt (While e a) = while_left (folded_expr e) (folded_stmts a)
  folded_stmt x = x ∷ []

  pub folded_stmts : Block → List Statement
  folded_stmts no_statements = []
  folded_stmts (statement x b) = folded_stmt x ++ folded_stmts b

-- a script, folded
abbrev pub folded : Block → Block
folded tree = block (folded_stmts tree)
