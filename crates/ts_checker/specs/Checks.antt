-- The checks of a script, word by word from left to right, and the checked tree that they give.
use Rattle.std.specs.Prelude.{ℕ, zero, suc, ◌==◌, nat_lt, nat_le, ℤ, pos, neg_ℤ, Bool, true, false, ◌&&◌, if◌then◌else◌, Option, Some, None}
use Rattle.std.specs.Option.{ok_or}
use Rattle.std.specs.Prelude.{Result, Ok, Err}
use Rattle.mate_num.specs.Number.{wrap}
use Rattle.mate_num.specs.declared.id.FunId.{FunId}
use Rattle.mate_num.specs.declared.id.BufId.{BufId}
use Rattle.vm_shape.specs.Limits.{function_args}
use Rattle.vm_shape.specs.Shapes.{sends_buffer}
use Rattle.vm_shape.specs.declared.description.Description.{Description}
use Rattle.vm_shape.specs.declared.function.FunKind.{FunKind}
use Rattle.ts_trees.specs.declared.word.Word.{Word}
use Rattle.ts_trees.specs.declared.stmt.Step.{Step}
use Rattle.ts_checked.specs.declared.checked_stmt.CVar.{CVar}
use Rattle.ts_checked.specs.declared.checked_stmt.CVar.TheVariants as var
use Rattle.ts_trees.specs.Tree as given
use Rattle.ts_trees.specs.Tree.{Tree, Trees, no_trees, tree_then, Act, Acts, no_acts, act_then, Source}
use Rattle.ts_checked.specs.Expression.{Expression, Arguments, no_arguments, argument, Num, Shared, Private, Item, Size, MsgItem, MsgSize}
use Rattle.ts_checked.specs.Expression.{Call, SendBuf, Neg, Not, Two}
use Rattle.ts_checked.specs.Statement.{Statement, Block, no_statements, statement, Set, SetItem, Append, Take, Clear, Do, DoSend, If, IfElse}
use Rattle.ts_checked.specs.Statement.{For, While}
use Rattle.ts_checker.specs.declared.fault.CheckFault.{CheckFault}
use Rattle.ts_checker.specs.declared.fault.CheckFault.TheVariants.{Undeclared, Kind, Arity}
use Rattle.mate_num.specs.Results.{◌>>=◌}
use Rattle.ts_checker.specs.Refusal.{unless_refused}
use Rattle.ts_checker.specs.Names.{ScriptNames, names_before, declare_all, variable as variable_at, buffer as buffer_at, function, closes_for}

-- a variable as an expression
abbrev pub variable_expression : CVar → Expression
variable_expression (var.Shared v) = Shared v
variable_expression (var.Private i) = Private i

-- a call whose checks passed: of a function that sends a buffer, or of another one
pub data Called : Type 0 where
  sends : FunId → BufId → Called
  calls : FunId → Arguments → Called

abbrev pub as_expression : Called → Expression
as_expression (sends f p) = SendBuf f p
as_expression (calls f es) = Call f es

abbrev pub as_statement : Called → Statement
as_statement (sends f p) = DoSend f p
as_statement (calls f es) = Do f es

-- the name that an expression is alone
abbrev pub name_alone : Tree → Option Word
name_alone (given.variable w) = Some w
name_alone _ = None

-- the buffer of that name
abbrev pub sent_name : ScriptNames → ℕ → Option Word → Result BufId CheckFault
sent_name n place name = ok_or name (Kind place) >>= buffer_at n

-- the buffer that a call sends, of a function whose name is at the place: its one argument, a name alone
abbrev pub sent : ScriptNames → ℕ → Trees → Result BufId CheckFault
sent n place (tree_then e no_trees) = sent_name n place (name_alone e)
sent n place _ = Err (Arity place)

abbrev pub tree_count : Trees → ℕ
tree_count no_trees = zero
tree_count (tree_then e es) = suc (tree_count es)

-- a call of a function that was found, with what the checks of its arguments give
abbrev pub called_function : ScriptNames → ℕ → FunId × FunKind → Trees → Result Arguments CheckFault → Result Called CheckFault
called_function n place f es args =
    if sends_buffer f.1 then sent n place es >>= (λ p. Ok (sends f.0 p))
    else unless_refused (tree_count es == function_args f.1) (Arity place) >>= (λ _. args >>= (λ checked. Ok (calls f.0 checked)))

-- a call, where calls are allowed or not
abbrev pub checked_call : ScriptNames → Bool → Word → Trees → Result Arguments CheckFault → Result Called CheckFault
checked_call n allowed w es args = do
  f ← function n w
  here ← unless_refused allowed (Kind w.place)
  called_function n w.place f es args

-- an expression, and the arguments of a call
abbrev mutual
  pub checked_expr : ScriptNames → Bool → Tree → Result Expression CheckFault
  checked_expr n allowed (given.number literal) = Ok (Num (wrap (pos literal)))
  checked_expr n allowed (given.variable w) = variable_at n w >>= (λ x. Ok (variable_expression x))
  checked_expr n allowed (given.item w e) = buffer_at n w >>= (λ p. checked_expr n allowed e >>= (λ i. Ok (Item p i)))
  checked_expr n allowed (given.size w) = buffer_at n w >>= (λ p. Ok (Size p))
  checked_expr n allowed (given.message_item e) = checked_expr n allowed e >>= (λ i. Ok (MsgItem i))
  checked_expr n allowed given.message_size = Ok MsgSize
  checked_expr n allowed (given.call w es) = checked_call n allowed w es (checked_args n allowed es) >>= (λ c. Ok (as_expression c))
  checked_expr n allowed (given.negative e) = checked_expr n allowed e >>= (λ a. Ok (Neg a))
  checked_expr n allowed (given.inverse e) = checked_expr n allowed e >>= (λ a. Ok (Not a))
  checked_expr n allowed (given.two o l r) = checked_expr n allowed l >>= (λ a. checked_expr n allowed r >>= (λ b. Ok (Two o a b)))
  checked_expr n allowed (given.paren e) = checked_expr n allowed e

  pub checked_args : ScriptNames → Bool → Trees → Result Arguments CheckFault
  checked_args n allowed no_trees = Ok no_arguments
  checked_args n allowed (tree_then e es) = checked_expr n allowed e >>= (λ a. checked_args n allowed es >>= (λ more. Ok (argument a more)))

-- the step of a `for`: 1 if none is written, else from -32767 to 32767, and not 0
abbrev pub checked_step : Option Step → Result ℤ CheckFault
checked_step None = Ok (pos 1)
checked_step (Some s) =
    unless_refused (nat_lt 0 s.size && nat_le s.size 32767) (Kind s.place)
    >>= (λ _. Ok (if s.minus then neg_ℤ (pos s.size) else pos s.size))

-- the head of a `for`: no call is in its limit
pub record CheckedHead : Type 0 where
  pub var : CVar
  pub from : Expression
  pub to : Expression
  pub step : ℤ

abbrev pub checked_head : ScriptNames → Word → Tree → Tree → Option Step → Result CheckedHead CheckFault
checked_head n w from to step = do
  x ← variable_at n w
  first ← checked_expr n true from
  limit ← checked_expr n false to
  size ← checked_step step
  Ok (record { var = x; from = first; to = limit; step = size })

-- a statement, and the statements of a block; no machine has the procedure of a `do`
abbrev mutual
  pub checked_stmt : ScriptNames → Act → Result Statement CheckFault
  checked_stmt n (given.set w e) = variable_at n w >>= (λ x. checked_expr n true e >>= (λ a. Ok (Set x a)))
  checked_stmt n (given.set_item w i e) =
      buffer_at n w >>= (λ p. checked_expr n true i >>= (λ a. checked_expr n true e >>= (λ b. Ok (SetItem p a b))))
  checked_stmt n (given.append w e) = buffer_at n w >>= (λ p. checked_expr n true e >>= (λ a. Ok (Append p a)))
  checked_stmt n (given.take_last w b) = variable_at n w >>= (λ x. buffer_at n b >>= (λ p. Ok (Take x p)))
  checked_stmt n (given.clear w) = buffer_at n w >>= (λ p. Ok (Clear p))
  checked_stmt n (given.call_alone w es) = checked_call n true w es (checked_args n true es) >>= (λ c. Ok (as_statement c))
  checked_stmt n (given.if_then e a) = checked_expr n true e >>= (λ test. checked_block n a >>= (λ body. Ok (If test body)))
  checked_stmt n (given.if_else e a b) =
      checked_expr n true e >>= (λ test. checked_block n a >>= (λ body. checked_block n b >>= (λ other. Ok (IfElse test body other))))
  checked_stmt n (given.for_next w from to step a next) =
      checked_head n w from to step >>= (λ h. checked_block n a >>=
      (λ body. closes_for n w next >>= (λ _. Ok (For h.var h.from h.to h.step body))))
  checked_stmt n (given.while_do e a) = checked_expr n true e >>= (λ test. checked_block n a >>= (λ body. Ok (While test body)))
  checked_stmt n (given.run_procedure w es) = Err (Undeclared w.name w.place)

  pub checked_block : ScriptNames → Acts → Result Block CheckFault
  checked_block n no_acts = Ok no_statements
  checked_block n (act_then x xs) = checked_stmt n x >>= (λ s. checked_block n xs >>= (λ ss. Ok (statement s ss)))

-- a script for a machine: its declarations, and then its statements
abbrev pub checked_source : Description → Source → Result Block CheckFault
checked_source machine s = declare_all (names_before machine) s.decls >>= (λ n. checked_block n s.body)
