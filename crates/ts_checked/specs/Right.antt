-- When a body is right for a shape: what the checks of a source leave true of its statements.
use Rattle.std.specs.Prelude.{ℕ, zero, suc, ℤ, pos, negsuc, Bool, true, false, not, ◌&&◌, ◌==◌, nat_lt, Option, Some, None, slice_get}
use Rattle.mate_num.specs.declared.id.VarId.{VarId}
use Rattle.mate_num.specs.declared.id.BufId.{BufId}
use Rattle.mate_num.specs.declared.id.FunId.{FunId}
use Rattle.mate_num.specs.declared.shape.Shape.{Shape}
use Rattle.mate_num.specs.declared.shape.FunShape.{FunShape}
use Rattle.mate_num.specs.Shapes.{is_shape}
use Rattle.ts_checked.specs.Expression.{Expression, Arguments, no_arguments, argument, Num, Shared, Private, Item, Size, MsgItem, MsgSize, Call, SendBuf, Neg, Not, Two}
use Rattle.ts_checked.specs.Statement.{Statement, Block, no_statements, statement, Set, SetItem, Append, Take, Clear, Do, DoSend, If, IfElse, For, While}
use Rattle.ts_checked.specs.declared.checked_stmt.CVar.{CVar}
use Rattle.ts_checked.specs.declared.checked_stmt.CVar.TheVariants as variable

-- the names are in range
abbrev pub is_shared : Shape → VarId → Bool
is_shared s v = nat_lt v.0 s.shared

abbrev pub is_buffer : Shape → BufId → Bool
is_buffer s p = nat_lt p.0 s.buffers

abbrev pub is_private : ℕ → Bool
is_private i = nat_lt i 8

abbrev pub is_variable : Shape → CVar → Bool
is_variable s (variable.Shared v) = is_shared s v
is_variable s (variable.Private i) = is_private i

-- the function is there, sends no buffer, and takes this number of arguments
abbrev pub takes : Option FunShape → ℕ → Bool
takes None count = false
takes (Some f) count = not f.send && f.args == count

-- the function is there and sends a buffer
abbrev pub sends : Option FunShape → Bool
sends None = false
sends (Some f) = f.send

abbrev pub is_call : Shape → FunId → ℕ → Bool
is_call s f count = takes (slice_get s.functions.items f.0) count

abbrev pub is_send_of : Shape → FunId → BufId → Bool
is_send_of s f p = sends (slice_get s.functions.items f.0) && is_buffer s p

abbrev pub argument_count : Arguments → ℕ
argument_count no_arguments = zero
argument_count (argument e es) = suc (argument_count es)

-- an expression is right, where calls are allowed or not
abbrev mutual
  pub is_right_expr : Shape → Bool → Expression → Bool
  is_right_expr s calls (Num n) = true
  is_right_expr s calls (Shared v) = is_shared s v
  is_right_expr s calls (Private i) = is_private i
  is_right_expr s calls (Item p e) = is_buffer s p && is_right_expr s calls e
  is_right_expr s calls (Size p) = is_buffer s p
  is_right_expr s calls (MsgItem e) = is_right_expr s calls e
  is_right_expr s calls MsgSize = true
  is_right_expr s calls (Call f args) = calls && is_call s f (argument_count args) && are_right s calls args
  is_right_expr s calls (SendBuf f p) = calls && is_send_of s f p
  is_right_expr s calls (Neg e) = is_right_expr s calls e
  is_right_expr s calls (Not e) = is_right_expr s calls e
  is_right_expr s calls (Two op l r) = is_right_expr s calls l && is_right_expr s calls r

  pub are_right : Shape → Bool → Arguments → Bool
  are_right s calls no_arguments = true
  are_right s calls (argument e es) = is_right_expr s calls e && are_right s calls es

-- a step is from -32767 to 32767, and not 0
abbrev pub is_step : ℤ → Bool
is_step (pos zero) = false
is_step (pos (suc n)) = nat_lt n 32767
is_step (negsuc n) = nat_lt n 32767

-- the head of a `for` is right: no call is in its limit
abbrev pub is_head : Shape → CVar → Expression → Expression → ℤ → Bool
is_head s x from to step = is_variable s x && is_right_expr s true from && is_right_expr s false to && is_step step

-- a statement and a block are right
abbrev mutual
  pub is_right_stmt : Shape → Statement → Bool
  is_right_stmt s (Set x e) = is_variable s x && is_right_expr s true e
  is_right_stmt s (SetItem p i e) = is_buffer s p && is_right_expr s true i && is_right_expr s true e
  is_right_stmt s (Append p e) = is_buffer s p && is_right_expr s true e
  is_right_stmt s (Take x p) = is_variable s x && is_buffer s p
  is_right_stmt s (Clear p) = is_buffer s p
  is_right_stmt s (Do f args) = is_call s f (argument_count args) && are_right s true args
  is_right_stmt s (DoSend f p) = is_send_of s f p
  is_right_stmt s (If e a) = is_right_expr s true e && is_right_block s a
  is_right_stmt s (IfElse e a b) = is_right_expr s true e && is_right_block s a && is_right_block s b
  is_right_stmt s (For x from to step a) = is_head s x from to step && is_right_block s a
  is_right_stmt s (While e a) = is_right_expr s true e && is_right_block s a

  pub is_right_block : Shape → Block → Bool
  is_right_block s no_statements = true
  is_right_block s (statement x b) = is_right_stmt s x && is_right_block s b

-- the shape is within the limits, and the body is right for it
abbrev pub is_right : Shape → Block → Bool
is_right s b = is_shape s && is_right_block s b
