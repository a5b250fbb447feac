-- Small scripts, of which contracts of other crates fix what becomes of them.
use Rattle.std.specs.Prelude.{ℕ, ℤ, pos}
use Rattle.mate_num.specs.declared.id.BufId.{BufId}
use Rattle.mate_num.specs.declared.id.FunId.{FunId}
use Rattle.ts_checked.specs.Expression.{Expression, no_arguments, Num, Call, Two}
use Rattle.ts_checked.specs.Statement.{Statement, Block, no_statements, statement, Set, Append, Take, Clear, Do, IfElse, For, While}
use Rattle.ts_checked.specs.declared.bin_op.BinOp.TheVariants.{And, Gt, Div}
use Rattle.ts_checked.specs.declared.checked_stmt.CVar.{CVar}
use Rattle.ts_checked.specs.declared.checked_stmt.CVar.TheVariants as variable

-- one statement
abbrev pub only : Statement → Block
only s = statement s no_statements

-- a number, and a call without arguments
abbrev pub whole : ℕ → Expression
whole n = Num (pos n)

abbrev pub asking : FunId → Expression
asking f = Call f no_arguments

-- `f(); f();`
abbrev pub two_calls : FunId → Block
two_calls f = statement (Do f no_arguments) (only (Do f no_arguments))

-- `while 1 clear(p); end while`
abbrev pub without_end : BufId → Block
without_end p = only (While (whole 1) (only (Clear p)))

-- `x = 0 and f();`
abbrev pub false_and_call : CVar → FunId → Block
false_and_call x f = only (Set x (Two And (whole 0) (asking f)))

-- `private 8 = 0;`
abbrev pub ninth_private : Block
ninth_private = only (Set (variable.Private 8) (whole 0))

-- `for x = 0 to f() next x`
abbrev pub call_in_limit : CVar → FunId → Block
call_in_limit x f = only (For x (whole 0) (asking f) (pos 1) no_statements)

-- `for x = 0 to 0 step step next x`
abbrev pub with_step : CVar → ℤ → Block
with_step x step = only (For x (whole 0) (whole 0) step no_statements)

-- `if test then clear(p); else clear(q); end if`
abbrev pub cleared_by : Expression → BufId → BufId → Block
cleared_by test p q = only (IfElse test (only (Clear p)) (only (Clear q)))

-- `while test clear(p); end while`
abbrev pub clearing : Expression → BufId → Block
clearing test p = only (While test (only (Clear p)))

-- `p[] = left > right;`
abbrev pub compared : BufId → ℕ → ℕ → Block
compared p left right = only (Append p (Two Gt (whole left) (whole right)))

-- `x = p[];` of the first shared variable and the first buffer
abbrev pub first_taken : Block
first_taken = only (Take (variable.Shared record { 0 = 0 }) record { 0 = 0 })

-- `1 / 0`
abbrev pub by_zero : Expression
by_zero = Two Div (whole 1) (whole 0)

-- `x = n;` of the first private variable
abbrev pub first_set : ℕ → Block
first_set n = only (Set (variable.Private 0) (whole n))
