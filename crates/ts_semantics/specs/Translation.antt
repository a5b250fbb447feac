-- The code of a checked tree, its size in bytes, and how deep a stack it needs.
use Rattle.std.specs.Prelude.{ℕ, suc, ◌+◌, max, ℤ, pos, negsuc, List, [], ◌∷◌, ◌++◌, nat_lt, if◌then◌else◌}
use Rattle.mate_code.specs.declared.instr.Instr.{Instr}
use Rattle.mate_code.specs.declared.instr.Instr.TheVariants as instr
use Rattle.mate_code.specs.Code.{placed}
use Rattle.mate_code.specs.Instr.{size_of}
use Rattle.mate_code.specs.Run.{Code}
use Rattle.ts_checked.specs.Expression.{Expression, Arguments, no_arguments, argument, Num, Shared, Private, Item, Size, MsgItem, MsgSize}
use Rattle.ts_checked.specs.Expression.{Call, SendBuf, Neg, Not, Two}
use Rattle.ts_checked.specs.Statement.{Statement, Block, no_statements, statement, Set, SetItem, Append, Take, Clear, Do, DoSend, If, IfElse}
use Rattle.ts_checked.specs.Statement.{For, While}
use Rattle.ts_checked.specs.declared.bin_op.BinOp.{BinOp}
use Rattle.ts_checked.specs.declared.bin_op.BinOp.TheVariants as op
use Rattle.ts_checked.specs.declared.checked_stmt.CVar.{CVar}
use Rattle.ts_checked.specs.declared.checked_stmt.CVar.TheVariants as variable

-- how many bytes instructions take
abbrev pub size_of_instrs : List Instr → ℕ
size_of_instrs [] = 0
size_of_instrs (i ∷ is) = size_of i + size_of_instrs is

-- a number: in one byte if it goes from 0 to 255, and else in two
abbrev pub number_code : ℤ → Instr
number_code (pos n) = if nat_lt n 256 then instr.PushB n else instr.PushW (pos n)
number_code (negsuc n) = instr.PushW (negsuc n)

-- a variable is pushed, and popped into
abbrev pub get_code : CVar → Instr
get_code (variable.Shared v) = instr.GetS v
get_code (variable.Private i) = instr.GetP i

abbrev pub set_code : CVar → Instr
set_code (variable.Shared v) = instr.SetS v
set_code (variable.Private i) = instr.SetP i

abbrev pub operator_code : BinOp → Instr
operator_code op.Or = instr.Or
operator_code op.And = instr.And
operator_code op.Eq = instr.Eq
operator_code op.Ne = instr.Ne
operator_code op.Lt = instr.Lt
operator_code op.Gt = instr.Gt
operator_code op.Le = instr.Le
operator_code op.Ge = instr.Ge
operator_code op.Add = instr.Add
operator_code op.Sub = instr.Sub
operator_code op.Mul = instr.Mul
operator_code op.Div = instr.Div
operator_code op.Rem = instr.Mod

-- an expression leaves its value on the stack, and arguments leave theirs, the last one on top
abbrev mutual
  pub expr_code : Expression → List Instr
  expr_code (Num n) = number_code n ∷ []
  expr_code (Shared v) = instr.GetS v ∷ []
  expr_code (Private i) = instr.GetP i ∷ []
  expr_code (Item p e) = expr_code e ++ instr.BGet p ∷ []
  expr_code (Size p) = instr.BSize p ∷ []
  expr_code (MsgItem e) = expr_code e ++ instr.MsgGet ∷ []
  expr_code MsgSize = instr.MsgSize ∷ []
  expr_code (Call f args) = args_code args ++ instr.Fun f ∷ []
  expr_code (SendBuf f p) = instr.FunBuf f p ∷ []
  expr_code (Neg e) = expr_code e ++ instr.Neg ∷ []
  expr_code (Not e) = expr_code e ++ instr.Not ∷ []
  expr_code (Two o l r) = expr_code l ++ (expr_code r ++ operator_code o ∷ [])

  pub args_code : Arguments → List Instr
  args_code no_arguments = []
  args_code (argument e es) = expr_code e ++ args_code es

-- the stack that an expression needs; and arguments, above n values that are there already
abbrev mutual
  pub expr_need : Expression → ℕ
  expr_need (Item p e) = expr_need e
  expr_need (MsgItem e) = expr_need e
  expr_need (Call f args) = max 1 (args_need 0 args)
  expr_need (Neg e) = expr_need e
  expr_need (Not e) = expr_need e
  expr_need (Two o l r) = max (expr_need l) (1 + expr_need r)
  expr_need _ = 1

  pub args_need : ℕ → Arguments → ℕ
  args_need below no_arguments = 0
  args_need below (argument e es) = max (below + expr_need e) (args_need (suc below) es)

-- the bytes of an expression
abbrev pub expr_size : Expression → ℕ
expr_size e = size_of_instrs (expr_code e)

-- the bytes of a statement, and of a block
abbrev mutual
  pub stmt_size : Statement → ℕ
  stmt_size (Set x e) = expr_size e + 2
  stmt_size (SetItem p i e) = expr_size i + expr_size e + 2
  stmt_size (Append p e) = expr_size e + 2
  stmt_size (Take x p) = 4
  stmt_size (Clear p) = 2
  stmt_size (Do f args) = expr_size (Call f args) + 1
  stmt_size (DoSend f p) = expr_size (SendBuf f p) + 1
  stmt_size (If e a) = expr_size e + 3 + block_size a
  stmt_size (IfElse e a b) = expr_size e + 3 + block_size a + 3 + block_size b
  stmt_size (For x from to step a) = expr_size from + 2 + 2 + expr_size to + 1 + 3 + block_size a + 2 + size_of
      (number_code step) + 1 + 2 + 3
  stmt_size (While e a) = expr_size e + 3 + block_size a + 3

  pub block_size : Block → ℕ
  block_size no_statements = 0
  block_size (statement x b) = stmt_size x + block_size b

-- the test of a `for`: the variable isn't beyond its limit
abbrev pub within_code : ℤ → Instr
within_code (pos step) = instr.Le
within_code (negsuc step) = instr.Ge

-- the places in a `while` that begins at a place: of its body, and after it
abbrev pub while_body : ℕ → Expression → ℕ
while_body place e = place + expr_size e + 3

abbrev pub while_end : ℕ → Expression → Block → ℕ
while_end place e a = while_body place e + block_size a + 3

-- the places in an `if` with an `else`: of its `else`, and after it
abbrev pub else_begin : ℕ → Expression → Block → ℕ
else_begin place e a = place + expr_size e + 3 + block_size a + 3

abbrev pub else_end : ℕ → Expression → Block → Block → ℕ
else_end place e a b = else_begin place e a + block_size b

-- the places in a `for`: of its test, of its body, and after it
abbrev pub for_test : ℕ → Expression → ℕ
for_test place from = place + expr_size from + 2

abbrev pub for_body : ℕ → Expression → Expression → ℕ
for_body place from to = for_test place from + 2 + expr_size to + 1 + 3

abbrev pub for_end : ℕ → Expression → Expression → ℤ → Block → ℕ
for_end place from to step a = for_body place from to + block_size a + 2 + size_of (number_code step) + 1 + 2 + 3

-- the variable of a `for` takes its step
abbrev pub step_code : CVar → ℤ → List Instr
step_code x step = get_code x ∷ number_code step ∷ instr.Add ∷ set_code x ∷ []

-- the code of a statement and of a block that begin at a place
abbrev mutual
  pub stmt_code : ℕ → Statement → List Instr
  stmt_code place (Set x e) = expr_code e ++ set_code x ∷ []
  stmt_code place (SetItem p i e) = expr_code i ++ (expr_code e ++ instr.BSet p ∷ [])
  stmt_code place (Append p e) = expr_code e ++ instr.BAdd p ∷ []
  stmt_code place (Take x p) = instr.BTake p ∷ set_code x ∷ []
  stmt_code place (Clear p) = instr.BClear p ∷ []
  stmt_code place (Do f args) = expr_code (Call f args) ++ instr.Drop ∷ []
  stmt_code place (DoSend f p) = expr_code (SendBuf f p) ++ instr.Drop ∷ []
  stmt_code place (If e a) = expr_code e ++ instr.Jz (place + expr_size e + 3 + block_size a) ∷ block_code (place + expr_size e + 3) a
  stmt_code place (IfElse e a b) =
      expr_code e ++ instr.Jz (else_begin place e a) ∷ (block_code (place + expr_size e + 3) a ++
      instr.Jmp (else_end place e a b) ∷ block_code (else_begin place e a) b)
  stmt_code place (For x from to step a) =
      expr_code from ++ set_code x ∷ get_code x ∷ (expr_code to ++ within_code step ∷ instr.Jz (for_end place from to step a) ∷
      (block_code (for_body place from to) a ++ (step_code x step ++ instr.Back (for_test place from) ∷ [])))
  stmt_code place (While e a) = expr_code e ++ instr.Jz (while_end place e a) ∷ (block_code (while_body place e) a ++ instr.Back place ∷ [])

  pub block_code : ℕ → Block → List Instr
  block_code place no_statements = []
  block_code place (statement x b) = stmt_code place x ++ block_code (place + stmt_size x) b

-- the stack that a statement, and a block, needs
abbrev mutual
  pub stmt_need : Statement → ℕ
  stmt_need (Set x e) = expr_need e
  stmt_need (SetItem p i e) = max (expr_need i) (1 + expr_need e)
  stmt_need (Append p e) = expr_need e
  stmt_need (Take x p) = 1
  stmt_need (Clear p) = 0
  stmt_need (Do f args) = expr_need (Call f args)
  stmt_need (DoSend f p) = expr_need (SendBuf f p)
  stmt_need (If e a) = max (expr_need e) (block_need a)
  stmt_need (IfElse e a b) = max (expr_need e) (max (block_need a) (block_need b))
  stmt_need (For x from to step a) = max (expr_need from) (max (1 + expr_need to) (max 2 (block_need a)))
  stmt_need (While e a) = max (expr_need e) (block_need a)

  pub block_need : Block → ℕ
  block_need no_statements = 0
  block_need (statement x b) = max (stmt_need x) (block_need b)

-- a script ends by a halt
abbrev pub script_code : Block → List Instr
script_code tree = block_code 0 tree ++ instr.Halt ∷ []

abbrev pub script_size : Block → ℕ
script_size tree = block_size tree + 1

abbrev pub script_need : Block → ℕ
script_need tree = block_need tree

-- the code with the places of its instructions
abbrev pub code_of : Block → Code
code_of tree = placed 0 (script_code tree)
