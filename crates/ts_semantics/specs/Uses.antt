-- What a script reads and writes, whatever way it takes through its tree.
use Rattle.std.specs.Prelude.{◌≡◌, Bool, false, ◌||◌}
use Rattle.mate_num.specs.Store.{value_at, buffer_at}
use Rattle.mate_num.specs.Uses.{Uses}
use Rattle.mate_num.specs.declared.id.VarId.{VarId}
use Rattle.mate_num.specs.declared.id.BufId.{BufId}
use Rattle.mate_num.specs.declared.resource.Resource.{Resource}
use Rattle.mate_num.specs.declared.resource.Resource.TheVariants as resource
use Rattle.mate_num.specs.declared.shape.Shape.{Shape}
use Rattle.mate_num.specs.declared.store.Store.{Store}
use Rattle.mate_code.specs.CodeUses.{reads_in, writes_in}
use Rattle.mate_code.specs.declared.uses.Use.{Use}
use Rattle.mate_code.specs.declared.uses.Use.TheVariants.{Gets, Changes, Calls, Sends}
use Rattle.ts_checked.specs.Expression.{Expression, Arguments, no_arguments, argument, Shared, Private, Item, Size, MsgItem}
use Rattle.ts_checked.specs.Expression.{Call, SendBuf, Neg, Not, Two}
use Rattle.ts_checked.specs.Statement.{Statement, Block, no_statements, statement, Set, SetItem, Append, Take, Clear, Do, DoSend, If, IfElse}
use Rattle.ts_checked.specs.Statement.{For, While}
use Rattle.ts_checked.specs.declared.checked_stmt.CVar.{CVar}
use Rattle.ts_checked.specs.declared.checked_stmt.CVar.TheVariants as variable

-- whether a variable is used in a way that passes the test; a private one is no resource
abbrev pub variable_has : (Use → Bool) → (Resource → Use) → CVar → Bool
variable_has test way (variable.Shared v) = test (way (resource.Shared v))
variable_has test way (variable.Private i) = false

-- whether a use of an expression passes the test: it gets its variables and the buffers whose values or sizes it takes,
-- calls functions, and sends buffers
abbrev mutual
  pub expr_has : (Use → Bool) → Expression → Bool
  expr_has test (Shared v) = test (Gets (resource.Shared v))
  expr_has test (Item p e) = test (Gets (resource.Buffer p)) || expr_has test e
  expr_has test (Size p) = test (Gets (resource.Buffer p))
  expr_has test (MsgItem e) = expr_has test e
  expr_has test (Call f args) = test (Calls f) || args_have test args
  expr_has test (SendBuf f p) = test (Sends f p)
  expr_has test (Neg e) = expr_has test e
  expr_has test (Not e) = expr_has test e
  expr_has test (Two op l r) = expr_has test l || expr_has test r
  expr_has test _ = false

  pub args_have : (Use → Bool) → Arguments → Bool
  args_have test no_arguments = false
  args_have test (argument e es) = expr_has test e || args_have test es

-- whether a use of a statement passes the test: it changes the variable before `=` and the buffer that it sets or
-- empties; the variable of a `for` is changed and read
abbrev mutual
  pub stmt_has : (Use → Bool) → Statement → Bool
  stmt_has test (Set x e) = variable_has test Changes x || expr_has test e
  stmt_has test (SetItem p i e) = test (Changes (resource.Buffer p)) || expr_has test i || expr_has test e
  stmt_has test (Append p e) = test (Changes (resource.Buffer p)) || expr_has test e
  stmt_has test (Take x p) = variable_has test Changes x || test (Changes (resource.Buffer p))
  stmt_has test (Clear p) = test (Changes (resource.Buffer p))
  stmt_has test (Do f args) = test (Calls f) || args_have test args
  stmt_has test (DoSend f p) = test (Sends f p)
  stmt_has test (If e a) = expr_has test e || block_has test a
  stmt_has test (IfElse e a b) = expr_has test e || block_has test a || block_has test b
  stmt_has test (For x from to step a) =
      variable_has test Changes x || variable_has test Gets x || expr_has test from || expr_has test to || block_has test a
  stmt_has test (While e a) = expr_has test e || block_has test a

  pub block_has : (Use → Bool) → Block → Bool
  block_has test no_statements = false
  block_has test (statement x b) = stmt_has test x || block_has test b

-- what a script reads and writes on a machine of this shape
abbrev pub script_uses : Shape → Block → Uses
script_uses shape b = record { reads = λ r. block_has (λ u. reads_in u r) b; writes = λ r. block_has (λ u. writes_in shape u r) b }

-- every shared variable and every buffer outside w is the same in both stores
pub record IsSameOutside (w : Resource → Bool) (old new : Store) : Type 0 where
  pub shared : (v : VarId) → w (resource.Shared v) ≡ false → value_at new v.0 ≡ value_at old v.0
  pub buffers : (p : BufId) → w (resource.Buffer p) ≡ false → buffer_at new p.0 ≡ buffer_at old p.0
