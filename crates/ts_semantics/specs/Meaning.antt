-- What a script means: the run of its checked tree, part by part.
use Rattle.std.specs.Prelude.{ℕ, ℤ, pos, negsuc, ◌+ℤ◌, int_le, Bool, List, [], ◌∷◌, Result, length, ⊤}
use Rattle.arrayvec.specs.ArrayVec.{ArrayVec}
use Rattle.mate_num.specs.Number.{wrap, is_truth}
use Rattle.mate_num.specs.Operators.{sum_of, difference_of, product_of, quotient_of, remainder_of, negative_of, not_of, and_of, or_of}
use Rattle.mate_num.specs.Operators.{eq_of, ne_of, lt_of, gt_of, le_of, ge_of}
use Rattle.mate_num.specs.Store.{payload, value_at, buffer_at, item_of, item_set, appended, last_of}
use Rattle.mate_num.specs.declared.store.Store.{Store}
use Rattle.mate_num.specs.declared.call.End.{End}
use Rattle.mate_num.specs.declared.call.End.TheVariants.{Halt}
use Rattle.mate_num.specs.declared.call.FaultKind.{FaultKind}
use Rattle.ts_checked.specs.Expression.{Expression, Arguments, no_arguments, argument, Num, Shared, Private, Item, Size, MsgItem, MsgSize}
use Rattle.ts_checked.specs.Expression.{Call, SendBuf, Neg, Not, Two}
use Rattle.ts_checked.specs.Statement.{Statement, Block, no_statements, statement, Set, SetItem, Append, Take, Clear, Do, DoSend, If, IfElse}
use Rattle.ts_checked.specs.Statement.{For, While}
use Rattle.ts_checked.specs.declared.bin_op.BinOp.{BinOp}
use Rattle.ts_checked.specs.declared.bin_op.BinOp.TheVariants.{Or, And, Eq, Ne, Lt, Gt, Le, Ge, Add, Sub, Mul, Div, Rem}
use Rattle.ts_checked.specs.declared.checked_stmt.CVar.{CVar}
use Rattle.ts_semantics.specs.State.{ScriptState, Evaluation, Done, Over, then_do, value_or_fault, private_at, variable_at, with_variable}
use Rattle.ts_semantics.specs.State.{with_buffer, buffer_changed, moved, first_ten, next_answer, dropped, loop_does, choose, round_if}
use Rattle.ts_semantics.specs.State.{begun_state}
use Rattle.mate_num.specs.declared.outcome.Outcome.{Outcome}

-- what an operator gives
abbrev pub applied : BinOp → ℤ → ℤ → Result ℤ FaultKind
applied Or a b = or_of a b
applied And a b = and_of a b
applied Eq a b = eq_of a b
applied Ne a b = ne_of a b
applied Lt a b = lt_of a b
applied Gt a b = gt_of a b
applied Le a b = le_of a b
applied Ge a b = ge_of a b
applied Add a b = sum_of a b
applied Sub a b = difference_of a b
applied Mul a b = product_of a b
applied Div a b = quotient_of a b
applied Rem a b = remainder_of a b

-- the value of an expression, and the values of arguments, each after those before it
abbrev mutual
  pub value_of : Expression → ScriptState → Evaluation ℤ
  value_of (Num n) s = Done n s
  value_of (Shared v) s = Done (value_at s.store v.0) s
  value_of (Private i) s = Done (private_at s i) s
  value_of (Item p e) s = then_do (value_of e s) (λ i s. value_or_fault (item_of (buffer_at s.store p.0) i) s)
  value_of (Size p) s = Done (pos (length (buffer_at s.store p.0))) s
  value_of (MsgItem e) s = then_do (value_of e s) (λ i s. value_or_fault (item_of s.msg i) s)
  value_of MsgSize s = Done (pos (length s.msg)) s
  value_of (Call f args) s = then_do (values_of args s) (λ values s. next_answer f (first_ten values) s)
  value_of (SendBuf f p) s = next_answer f (payload (buffer_at s.store p.0)) s
  value_of (Neg e) s = then_do (value_of e s) (λ a s. value_or_fault (negative_of a) s)
  value_of (Not e) s = then_do (value_of e s) (λ a s. value_or_fault (not_of a) s)
  value_of (Two op l r) s = then_do (value_of l s) (λ a s. then_do (value_of r s) (λ b s. value_or_fault (applied op a b) s))

  pub values_of : Arguments → ScriptState → Evaluation (List ℤ)
  values_of no_arguments s = Done [] s
  values_of (argument e es) s = then_do (value_of e s) (λ a s. then_do (values_of es s) (λ values s. Done (a ∷ values) s))

-- the variable of a `for` hasn't passed its limit
abbrev pub is_within : ℤ → ℤ → ℤ → Bool
is_within (pos step) value limit = int_le value limit
is_within (negsuc step) value limit = int_le limit value

-- a round of a `while`: the test, and then the body
abbrev pub while_round : (ScriptState → Evaluation ℤ) → (ScriptState → Evaluation ⊤) → ScriptState → Evaluation Bool
while_round value body s = then_do (value s) (λ a s. round_if (is_truth a) body s)

-- the variable takes its step
abbrev pub stepped : CVar → ℤ → ScriptState → ScriptState
stepped x step s = with_variable x (wrap (variable_at x s +ℤ step)) s

-- the body of a `for`, and then the step
abbrev pub body_and_step : CVar → ℤ → (ScriptState → Evaluation ⊤) → ScriptState → Evaluation ⊤
body_and_step x step body s = then_do (body s) (λ _ s. Done tt (stepped x step s))

-- a round of a `for`: the test, with the variable read before the limit, then the body, then the step
abbrev pub for_round : CVar → (ScriptState → Evaluation ℤ) → ℤ → (ScriptState → Evaluation ⊤) → ScriptState → Evaluation Bool
for_round x limit step body s =
    then_do (limit s) (λ b after. round_if (is_within step (variable_at x s) b) (body_and_step x step body) after)

-- what a statement does, and what statements do one after another
abbrev mutual
  pub run_stmt : Statement → ScriptState → Evaluation ⊤
  run_stmt (Set x e) s = then_do (value_of e s) (λ a s. Done tt (with_variable x a s))
  run_stmt (SetItem p i e) s =
      then_do (value_of i s) (λ i s. then_do (value_of e s) (λ a s. buffer_changed p (item_set (buffer_at s.store p.0) i a) s))
  run_stmt (Append p e) s = then_do (value_of e s) (λ a s. buffer_changed p (appended (buffer_at s.store p.0) a) s)
  run_stmt (Take x p) s = moved x p (last_of (buffer_at s.store p.0)) s
  run_stmt (Clear p) s = Done tt (with_buffer p [] s)
  run_stmt (Do f args) s = then_do (value_of (Call f args) s) dropped
  run_stmt (DoSend f p) s = then_do (value_of (SendBuf f p) s) dropped
  run_stmt (If e a) s = then_do (value_of e s) (λ v s. choose (is_truth v) (run_block a) (Done tt) s)
  run_stmt (IfElse e a b) s = then_do (value_of e s) (λ v s. choose (is_truth v) (run_block a) (run_block b) s)
  run_stmt (For x from to step a) s =
      then_do (value_of from s) (λ v s. loop_does (for_round x (value_of to) step (run_block a)) (with_variable x v s))
  run_stmt (While e a) s = loop_does (while_round (value_of e) (run_block a)) s

  pub run_block : Block → ScriptState → Evaluation ⊤
  run_block no_statements s = Done tt s
  run_block (statement x b) s = then_do (run_stmt x s) (λ _ s. run_block b s)

-- what a run gives that ends in this state: the store that it left, and the calls that were answered
abbrev pub outcome_at : End → ScriptState → Outcome
outcome_at end s = record { end = end; store = s.store; calls = s.calls }

-- what a run gives: one that nothing stopped ran to its end
abbrev pub played : Evaluation ⊤ → Outcome
played (Done _ s) = outcome_at Halt s
played (Over end s) = outcome_at end s

-- the run of a script on a store, with a message, the answers to its calls, and a number of turns
abbrev pub run_of : Block → Store → ArrayVec ℤ → List ℤ → ℕ → Outcome
run_of tree store msg answers turns = played (run_block tree (begun_state store msg answers turns))
