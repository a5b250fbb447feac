-- The code of a statement and of a block does what they do.
use Rattle.std.proofs.Common.{◌≡◌, ℕ, ◌+◌, ◌++◌, ℤ, pos, negsuc, ◌+ℤ◌, Bool, true, false, ◌&&◌, List, [], ◌∷◌, Result, Ok, Err, refl, ap, subst, arith}
use Rattle.std.specs.Prelude.{IsTrue, ⊤, if◌then◌else◌}
use Rattle.std.proofs.lemmas.Bool.{and_parts}
use Rattle.mate_num.specs.Number.{wrap, is_truth, truth}
use Rattle.mate_num.specs.Store.{buffer_at, item_set, appended, last_of, without_last}
use Rattle.mate_num.specs.declared.call.FaultKind.{FaultKind}
use Rattle.mate_num.specs.declared.id.BufId.{BufId}
use Rattle.mate_num.specs.declared.resource.Resource.TheVariants.{Buffer}
use Rattle.mate_num.specs.declared.shape.Shape.{Shape}
use Rattle.mate_code.specs.declared.instr.Instr.{Instr}
use Rattle.mate_code.specs.declared.instr.Instr.TheVariants as instr
use Rattle.mate_code.specs.declared.uses.Use.TheVariants.{Nothing, Changes}
use Rattle.mate_code.specs.Effect.{Goes, changes, takes, at_place}
use Rattle.mate_code.specs.Instr.{size_of}
use Rattle.mate_code.specs.Run.{Code, Run, executed, run_by}
use Rattle.ts_checked.specs.Expression.{Expression, Call, SendBuf}
use Rattle.ts_checked.specs.Statement.{Statement, Block, no_statements, statement, Set, SetItem, Append, Take, Clear, Do, DoSend, If, IfElse, For, While}
use Rattle.ts_checked.specs.Right.{is_variable, is_buffer, is_step, is_head, is_right_expr, is_right_stmt, is_right_block}
use Rattle.ts_checked.specs.declared.checked_stmt.CVar.{CVar}
use Rattle.ts_checked.specs.declared.checked_stmt.CVar.TheVariants as variable
use Rattle.ts_semantics.specs.State.{ScriptState, Evaluation, Done, then_do, variable_at, with_variable, with_buffer, buffer_changed, moved, dropped, choose, round_if, loop_does}
use Rattle.ts_semantics.specs.Meaning.{value_of, is_within, for_round, stepped, body_and_step, run_stmt, run_block}
use Rattle.ts_semantics.proofs.LoopLemmas.{while_wins_none, for_wins_none}
use Rattle.ts_semantics.specs.Translation.{size_of_instrs, number_code, get_code, set_code, expr_code, expr_size, stmt_size, block_size, within_code, while_body, while_end, else_begin, else_end, for_test, for_body, for_end, step_code, stmt_code, block_code}
use Rattle.ts_semantics.proofs.PlaceLemmas.{size_of-get_code, size_of-set_code, size_of-within_code, bytes_of-stmt_code, bytes_of-block_code}
use Rattle.ts_semantics.proofs.RunPlaces.{StandsAt, stands-at, stands-front, stands-back}
use Rattle.ts_semantics.proofs.RunReaches.{own_at, run_at, Goal, Reaches, arrives, arrives_by, stops, reaches-then, reaches-on, executes, executes_to, goal_at}
use Rattle.ts_semantics.proofs.RunExpressions.{number-executed, pieces, piece_and_one, value_of-Reaches}
use Rattle.ts_semantics.proofs.RunLoops.{round_end, loop_does-Reaches}

-- ---- what single instructions do

-- a variable is pushed; the next place under any name
get-executed : (shape : Shape) (x : CVar) (place next : ℕ) (stack : List ℤ) (s : ScriptState) (count : ℕ) → place + size_of (get_code x) ≡ next → executed shape (get_code x) (run_at place stack s count) ≡ run_at next (variable_at x s ∷ stack) s (count + 1)
get-executed shape (variable.Shared v) place next stack s count e = ap (λ (p : ℕ). run_at p (variable_at (variable.Shared v) s ∷ stack) s (count + 1)) e
get-executed shape (variable.Private i) place next stack s count e = ap (λ (p : ℕ). run_at p (variable_at (variable.Private i) s ∷ stack) s (count + 1)) e

-- a value goes into a variable
set-executed : (shape : Shape) (x : CVar) (a : ℤ) (place next : ℕ) (stack : List ℤ) (s : ScriptState) (count : ℕ) → place + size_of (set_code x) ≡ next → executed shape (set_code x) (run_at place (a ∷ stack) s count) ≡ run_at next stack (with_variable x a s) (count + 1)
set-executed shape (variable.Shared v) a place next stack s count e = ap (λ (p : ℕ). run_at p stack (with_variable (variable.Shared v) a s) (count + 1)) e
set-executed shape (variable.Private i) a place next stack s count e = ap (λ (p : ℕ). run_at p stack (with_variable (variable.Private i) a s) (count + 1)) e

-- the test of a `for`
within-executed : (shape : Shape) (step v b : ℤ) (place : ℕ) (stack : List ℤ) (s : ScriptState) (count : ℕ) → executed shape (within_code step) (run_at place (b ∷ v ∷ stack) s count) ≡ run_at (place + 1) ((truth (is_within step v b)).0 ∷ stack) s (count + 1)
within-executed shape (pos step) v b place stack s count = refl
within-executed shape (negsuc step) v b place stack s count = refl

is_truth-truth : (b : Bool) → is_truth (truth b).0 ≡ b
is_truth-truth true = refl
is_truth-truth false = refl

module _ {shape : Shape} {code : Code} where
  -- a buffer has its new values, or a fault ends the run
  changes-Reaches : (p : BufId) (res : Result (List ℤ) FaultKind) (place next : ℕ) (stack below : List ℤ) (s : ScriptState) (count : ℕ)
      → Reaches shape code (run_by (changes res (own_at next below s)) (Changes (Buffer p)) (run_at place stack s count)) (buffer_changed p res s) (λ _ u. run_at next below u)
  changes-Reaches p (Ok values) place next stack below s count = arrives (count + 1)
  changes-Reaches p (Err kind) place next stack below s count = stops refl refl refl

  -- a test takes the run to the next place or to the target
  branch-Reaches : {A : Type 0} (b : Bool) (o : Bool → Evaluation A) (place next target : ℕ) (stack below : List ℤ) (s : ScriptState) (count : ℕ) {goal : Goal A}
      → Reaches shape code (run_at next below s (count + 1)) (o true) goal
      → Reaches shape code (run_at target below s (count + 1)) (o false) goal
      → Reaches shape code (run_by (Goes (if b then own_at next below s else at_place target (own_at next below s))) Nothing (run_at place stack s count)) (o b) goal
  branch-Reaches true o place next target stack below s count holds fails = holds
  branch-Reaches false o place next target stack below s count holds fails = fails

  -- an expression, and a jump where it isn't true
  tests : {A : Type 0} (e : Expression) (target : ℕ) (rest : List Instr) (o : Bool → ScriptState → Evaluation A) {goal : Goal A} → IsTrue (is_right_expr shape true e)
      → (place : ℕ) → StandsAt code place (expr_code e ++ instr.Jz target ∷ rest) → (stack : List ℤ) (s : ScriptState) (count : ℕ)
      → ((t : ScriptState) (k : ℕ) → Reaches shape code (run_at (place + expr_size e + 3) stack t k) (o true t) goal)
      → ((t : ScriptState) (k : ℕ) → Reaches shape code (run_at target stack t k) (o false t) goal)
      → Reaches shape code (run_at place stack s count) (then_do (value_of e s) (λ v s. o (is_truth v) s)) goal
  tests e target rest o right place stands stack s count holds fails =
      let jump : ℕ = place + expr_size e in
      let at : StandsAt code jump (instr.Jz target ∷ rest) = stands-back code place (expr_code e) (instr.Jz target ∷ rest) stands in
      reaches-then (λ v s. o (is_truth v) s)
      (value_of-Reaches shape code e true right place (stands-front code place (expr_code e) (instr.Jz target ∷ rest) stands) stack s count)
      (λ v t k is. executes (instr.Jz target) at.0
      (branch-Reaches (is_truth v) (λ b. o b t) jump (jump + 3) target (v ∷ stack) stack t k (holds t (k + 1)) (fails t (k + 1))))

  -- the variable of a `for` takes its step
  step-Reaches : (x : CVar) (step : ℤ) (place : ℕ) → StandsAt code place (step_code x step) → (stack : List ℤ) (s : ScriptState) (count : ℕ)
      → Reaches shape code (run_at place stack s count) (Done (tt {0}) (stepped x step s)) (λ _ u. run_at (place + size_of_instrs (step_code x step)) stack u)
  step-Reaches x step place stands stack s count =
      let number_at : ℕ = place + size_of (get_code x) in
      let add_at : ℕ = number_at + size_of (number_code step) in
      let v : ℤ = variable_at x s in
      executes_to (get_code x) stands.0 (get-executed shape x place number_at stack s count refl)
      (executes_to (number_code step) stands.1.0 (number-executed shape step number_at (v ∷ stack) s (count + 1))
      (executes instr.Add stands.1.1.0
      (executes (set_code x) stands.1.1.1.0
      (arrives_by (count + 1 + 1 + 1 + 1)
      (set-executed shape x (wrap (v +ℤ step)) (add_at + 1) (place + size_of_instrs (step_code x step)) stack s (count + 1 + 1 + 1) (omega arith))))))

  -- an expression, and one instruction that takes its value
  takes_value : (e : Expression) (i : Instr) (next : ℤ → ScriptState → Evaluation ⊤) → IsTrue (is_right_expr shape true e) → (place : ℕ) → StandsAt code place (expr_code e ++ i ∷ []) → (stack : List ℤ) (s : ScriptState) (count : ℕ)
      → ((a : ℤ) (t : ScriptState) (k : ℕ) → Reaches shape code (executed shape i (run_at (place + expr_size e) (a ∷ stack) t k)) (next a t) (λ _ u. run_at (place + expr_size e + size_of i) stack u))
      → Reaches shape code (run_at place stack s count) (then_do (value_of e s) next) (λ _ u. run_at (place + size_of_instrs (expr_code e ++ i ∷ [])) stack u)
  takes_value e i next right place stands stack s count does =
      piece_and_one (expr_code e) i next stands
      (value_of-Reaches shape code e true right place (stands-front code place (expr_code e) (i ∷ []) stands) stack s count)
      (λ a t k is. does a t k)

  -- the result of a call is dropped
  drop-Reaches : (e : Expression) → IsTrue (is_right_expr shape true e) → (place : ℕ) → StandsAt code place (expr_code e ++ instr.Drop ∷ []) → (stack : List ℤ) (s : ScriptState) (count : ℕ)
      → Reaches shape code (run_at place stack s count) (then_do (value_of e s) dropped) (λ _ u. run_at (place + size_of_instrs (expr_code e ++ instr.Drop ∷ [])) stack u)
  drop-Reaches e right place stands stack s count = takes_value e instr.Drop dropped right place stands stack s count (λ a t k. arrives (k + 1))

  -- the value at the end of a buffer goes into a variable, or a fault ends the run
  take-Reaches : (x : CVar) (p : BufId) (place : ℕ) → StandsAt code place (instr.BTake p ∷ set_code x ∷ []) → (stack : List ℤ) (s : ScriptState) (count : ℕ)
      → Reaches shape code (run_at place stack s count) (moved x p (last_of (buffer_at s.store p.0)) s) (λ _ u. run_at (place + 4) stack u)
  take-Reaches x p place stands stack s count = executes (instr.BTake p) stands.0 (by (last_of (buffer_at s.store p.0))) where
    less : List ℤ
    less = without_last (buffer_at s.store p.0)

    by : (res : Result ℤ FaultKind)
        → Reaches shape code (run_by (takes res less (own_at (place + 2) stack s)) (Changes (Buffer p)) (run_at place stack s count)) (moved x p res s) (λ _ u. run_at (place + 4) stack u)
    by (Ok value) =
        let size = size_of-set_code x in
        executes (set_code x) stands.1.0
        (arrives_by (count + 1 + 1) (set-executed shape x value (place + 2) (place + 4) stack (with_buffer p less s) (count + 1) (omega arith)))
    by (Err kind) = stops refl refl refl

-- from this place on a run comes behind the statement's code
abbrev StmtReaches : Shape → Code → Statement → ℕ → Type 0
StmtReaches shape code x place =
    (stack : List ℤ) (s : ScriptState) (count : ℕ) → Reaches shape code (run_at place stack s count) (run_stmt x s) (λ _ u. run_at (place + stmt_size x) stack u)

-- and behind the block's code
abbrev BlockReaches : Shape → Code → Block → ℕ → Type 0
BlockReaches shape code b place =
    (stack : List ℤ) (s : ScriptState) (count : ℕ) → Reaches shape code (run_at place stack s count) (run_block b s) (λ _ u. run_at (place + block_size b) stack u)

-- what stands behind the code of a statement, and of a block, by its size
behind_stmt : (code : Code) (place : ℕ) (x : Statement) (rest : List Instr) → StandsAt code place (stmt_code place x ++ rest) → StandsAt code (place + stmt_size x) rest
behind_stmt code place x rest stands =
    stands-at code rest (place + size_of_instrs (stmt_code place x)) (place + stmt_size x) (ap (λ (n : ℕ). place + n) (bytes_of-stmt_code place x)) (stands-back code place (stmt_code place x) rest stands)

pub behind_block : (code : Code) (place : ℕ) (b : Block) (rest : List Instr) → StandsAt code place (block_code place b ++ rest) → StandsAt code (place + block_size b) rest
behind_block code place b rest stands =
    stands-at code rest (place + size_of_instrs (block_code place b)) (place + block_size b) (ap (λ (n : ℕ). place + n) (bytes_of-block_code place b)) (stands-back code place (block_code place b) rest stands)

module _ (shape : Shape) (code : Code) where
  -- the loop of a `for`, from its test on
  for-Reaches : (x : CVar) (to : Expression) (step : ℤ) (a : Block) → IsTrue (is_right_expr shape false to) → (start behind : ℕ) → let body : ℕ = start + 2 + expr_size to + 1 + 3 in
      StandsAt code start (get_code x ∷ (expr_code to ++ within_code step ∷ instr.Jz behind ∷ (block_code body a ++ (step_code x step ++ instr.Back start ∷ []))))
      → (StandsAt code body (block_code body a) → BlockReaches shape code a body)
      → (stack : List ℤ) (s : ScriptState) (count : ℕ) → Reaches shape code (run_at start stack s count) (loop_does (for_round x (value_of to) step (run_block a)) s) (λ _ u. run_at behind stack u)
  for-Reaches x to step a right start behind stands body_does stack = loop_does-Reaches back at_back.0 (for_wins_none x to step a) round where
    limit : ℕ
    limit = start + 2

    test : ℕ
    test = limit + expr_size to

    body : ℕ
    body = test + 1 + 3

    stepping : ℕ
    stepping = body + block_size a

    back : ℕ
    back = stepping + size_of_instrs (step_code x step)

    goes_back : List Instr
    goes_back = step_code x step ++ instr.Back start ∷ []

    jumps : List Instr
    jumps = instr.Jz behind ∷ (block_code body a ++ goes_back)

    tested : List Instr
    tested = within_code step ∷ jumps

    at_limit : StandsAt code limit (expr_code to ++ tested)
    at_limit = let size = size_of-get_code x in stands-at code (expr_code to ++ tested) (start + size_of (get_code x)) limit (omega arith) stands.1

    at_test : StandsAt code test tested
    at_test = stands-back code limit (expr_code to) tested at_limit

    at_jump : StandsAt code (test + 1) jumps
    at_jump = let size = size_of-within_code step in stands-at code jumps (test + size_of (within_code step)) (test + 1) (omega arith) at_test.1

    at_step : StandsAt code stepping goes_back
    at_step = behind_block code body a goes_back at_jump.1

    at_back : StandsAt code back (instr.Back start ∷ [])
    at_back = stands-back code stepping (step_code x step) (instr.Back start ∷ []) at_step

    goal : Bool → ScriptState → ℕ → Run
    goal again u = run_at (round_end back behind again) stack u

    -- the body, and then the step
    holds : (t : ScriptState) (k : ℕ) → Reaches shape code (run_at body stack t k) (round_if true (body_and_step x step (run_block a)) t) goal
    holds t k =
        reaches-then (λ _ s. Done true s)
        (reaches-then (λ _ s. Done tt (stepped x step s)) (body_does (stands-front code body (block_code body a) goes_back at_jump.1) stack t k)
        (λ _ u n is. step-Reaches x step stepping (stands-front code stepping (step_code x step) (instr.Back start ∷ []) at_step) stack u n))
        (λ _ u n is. arrives n)

    -- the test of the variable, read before its limit
    round : (s : ScriptState) (count : ℕ) → Reaches shape code (run_at start stack s count) (for_round x (value_of to) step (run_block a) s) goal
    round s count =
        let v : ℤ = variable_at x s in
        let next : ℤ → ScriptState → Evaluation Bool = λ b after. round_if (is_within step v b) (body_and_step x step (run_block a)) after in
        let size = size_of-get_code x in
        executes_to (get_code x) stands.0 (get-executed shape x start limit stack s count (omega arith))
        (reaches-then next (value_of-Reaches shape code to false right limit (stands-front code limit (expr_code to) tested at_limit) (v ∷ stack) s (count + 1))
        (λ b t k is.
        let within : Bool = is_within step v b in
        let number : ℤ = (truth within).0 in
        let o : Bool → Evaluation Bool = λ c. round_if c (body_and_step x step (run_block a)) t in
        let branched : Run = run_by (Goes (if is_truth number then own_at body stack t else at_place behind (own_at body stack t))) Nothing (run_at (test + 1) (number ∷ stack) t (k + 1)) in
        let Q : Bool → Type 0 = λ c. Reaches shape code branched (o c) goal in
        executes_to (within_code step) at_test.0 (within-executed shape step v b test stack t k)
        (executes (instr.Jz behind) at_jump.0
        (subst Q (is_truth-truth within)
        (branch-Reaches (is_truth number) o (test + 1) body behind (number ∷ stack) stack t (k + 1) (holds t (k + 1 + 1)) (arrives (k + 1 + 1)))))))

  -- the code of a simple statement that comes behind its last instruction comes behind the statement
  sized : (place : ℕ) (x : Statement) (stack : List ℤ) (s : ScriptState) (count : ℕ) → Reaches shape code (run_at place stack s count) (run_stmt x s) (λ _ u. run_at (place + size_of_instrs (stmt_code place x)) stack u)
      → Reaches shape code (run_at place stack s count) (run_stmt x s) (λ _ u. run_at (place + stmt_size x) stack u)
  sized place x stack s count is = goal_at (place + size_of_instrs (stmt_code place x)) (ap (λ (n : ℕ). place + n) (bytes_of-stmt_code place x)) is

  mutual
    -- the code of a statement comes to its end, or is over as the statement is
    pub run_stmt-Reaches : (x : Statement) → IsTrue (is_right_stmt shape x) → (place : ℕ) → StandsAt code place (stmt_code place x) → StmtReaches shape code x place
    run_stmt-Reaches (Set x e) right place stands stack s count =
        let next : ℕ = place + expr_size e + size_of (set_code x) in
        sized place (Set x e) stack s count
        (takes_value e (set_code x) (λ a s. Done tt (with_variable x a s)) (and_parts (is_variable shape x) (is_right_expr shape true e) right).1 place stands stack s count
        (λ a t k. arrives_by (k + 1) (set-executed shape x a (place + expr_size e) next stack t k refl)))
    run_stmt-Reaches (SetItem p i e) right place stands stack s count =
        let parts = and_parts (is_buffer shape p && is_right_expr shape true i) (is_right_expr shape true e) right in
        let right_i : IsTrue (is_right_expr shape true i) = (and_parts (is_buffer shape p) (is_right_expr shape true i) parts.0).1 in
        let last : List Instr = instr.BSet p ∷ [] in
        let here : ℕ = place + expr_size i in
        let next : ℤ → ℤ → ScriptState → Evaluation ⊤ = λ n a s. buffer_changed p (item_set (buffer_at s.store p.0) n a) s in
        sized place (SetItem p i e) stack s count
        (pieces (expr_code i) (expr_code e ++ last) (λ n s. then_do (value_of e s) (next n)) stands
        (value_of-Reaches shape code i true right_i place (stands-front code place (expr_code i) (expr_code e ++ last) stands) stack s count)
        (λ n t k is at. piece_and_one (expr_code e) (instr.BSet p) (next n) at
        (value_of-Reaches shape code e true parts.1 here (stands-front code here (expr_code e) last at) (n ∷ stack) t k)
        (λ a u m is. changes-Reaches p (item_set (buffer_at u.store p.0) n a) _ _ _ stack u m)))
    run_stmt-Reaches (Append p e) right place stands stack s count =
        sized place (Append p e) stack s count
        (takes_value e (instr.BAdd p) (λ a s. buffer_changed p (appended (buffer_at s.store p.0) a) s) (and_parts (is_buffer shape p) (is_right_expr shape true e) right).1 place stands stack s count
        (λ a t k. changes-Reaches p (appended (buffer_at t.store p.0) a) _ _ _ stack t k))
    run_stmt-Reaches (Take x p) right place stands stack s count = take-Reaches x p place stands stack s count
    run_stmt-Reaches (Clear p) right place stands stack s count = executes (instr.BClear p) stands.0 (arrives (count + 1))
    run_stmt-Reaches (Do f args) right place stands stack s count =
        sized place (Do f args) stack s count (drop-Reaches (Call f args) right place stands stack s count)
    run_stmt-Reaches (DoSend f p) right place stands stack s count =
        sized place (DoSend f p) stack s count (drop-Reaches (SendBuf f p) right place stands stack s count)
    run_stmt-Reaches (If e a) right place stands stack s count =
        let parts = and_parts (is_right_expr shape true e) (is_right_block shape a) right in
        let body : ℕ = place + expr_size e + 3 in
        let behind : ℕ = body + block_size a in
        let at = stands-back code place (expr_code e) (instr.Jz behind ∷ block_code body a) stands in
        goal_at behind (omega arith)
        (tests e behind (block_code body a) (λ b. choose b (run_block a) (Done tt)) parts.0 place stands stack s count
        (λ t k. run_block-Reaches a parts.1 body at.1 stack t k)
        (λ t k. arrives k))
    run_stmt-Reaches (IfElse e a b) right place stands stack s count =
        let parts = and_parts (is_right_expr shape true e && is_right_block shape a) (is_right_block shape b) right in
        let firsts = and_parts (is_right_expr shape true e) (is_right_block shape a) parts.0 in
        let body : ℕ = place + expr_size e + 3 in
        let other : ℕ = else_begin place e a in
        let behind : ℕ = else_end place e a b in
        let rest : List Instr = instr.Jmp behind ∷ block_code other b in
        let at = stands-back code place (expr_code e) (instr.Jz other ∷ (block_code body a ++ rest)) stands in
        let at_jump : StandsAt code (body + block_size a) rest = behind_block code body a rest at.1 in
        goal_at behind (omega arith)
        (tests e other (block_code body a ++ rest) (λ c. choose c (run_block a) (run_block b)) firsts.0 place stands stack s count
        (λ t k. reaches-on (run_block-Reaches a firsts.1 body (stands-front code body (block_code body a) rest at.1) stack t k)
        (λ _ u n. executes (instr.Jmp behind) at_jump.0 (arrives (n + 1))))
        (λ t k. run_block-Reaches b parts.1 other at_jump.1 stack t k))
    run_stmt-Reaches (For x from to step a) right place stands stack s count =
        let parts = and_parts (is_head shape x from to step) (is_right_block shape a) right in
        let head = and_parts (is_variable shape x && is_right_expr shape true from && is_right_expr shape false to) (is_step step) parts.0 in
        let values = and_parts (is_variable shape x && is_right_expr shape true from) (is_right_expr shape false to) head.0 in
        let right_from : IsTrue (is_right_expr shape true from) = (and_parts (is_variable shape x) (is_right_expr shape true from) values.0).1 in
        let first : ℕ = place + expr_size from in
        let start : ℕ = for_test place from in
        let body : ℕ = for_body place from to in
        let behind : ℕ = for_end place from to step a in
        let loop : List Instr = get_code x ∷ (expr_code to ++ within_code step ∷ instr.Jz behind ∷ (block_code body a ++ (step_code x step ++ instr.Back start ∷ []))) in
        let at : StandsAt code first (set_code x ∷ loop) = stands-back code place (expr_code from) (set_code x ∷ loop) stands in
        let size = size_of-set_code x in
        let at_loop : StandsAt code start loop = stands-at code loop (first + size_of (set_code x)) start (omega arith) at.1 in
        goal_at behind (omega arith)
        (reaches-then (λ v s. loop_does (for_round x (value_of to) step (run_block a)) (with_variable x v s))
        (value_of-Reaches shape code from true right_from place (stands-front code place (expr_code from) (set_code x ∷ loop) stands) stack s count)
        (λ v t k is. executes_to (set_code x) at.0 (set-executed shape x v first start stack t k (omega arith))
        (for-Reaches x to step a values.1 start behind at_loop (run_block-Reaches a parts.1 body) stack (with_variable x v t) (k + 1))))
    run_stmt-Reaches (While e a) right place stands stack s count =
        let parts = and_parts (is_right_expr shape true e) (is_right_block shape a) right in
        let body : ℕ = while_body place e in
        let back : ℕ = body + block_size a in
        let behind : ℕ = while_end place e a in
        let last : List Instr = instr.Back place ∷ [] in
        let at = stands-back code place (expr_code e) (instr.Jz behind ∷ (block_code body a ++ last)) stands in
        let at_back : StandsAt code back last = behind_block code body a last at.1 in
        goal_at behind (omega arith)
        (loop_does-Reaches back at_back.0 (while_wins_none e a)
        (λ s count. tests e behind (block_code body a ++ last) (λ b. round_if b (run_block a)) parts.0 place stands stack s count
        (λ t k. reaches-then (λ _ s. Done true s) (run_block-Reaches a parts.1 body (stands-front code body (block_code body a) last at.1) stack t k) (λ _ u n is. arrives n))
        (λ t k. arrives k))
        s count)

    -- the code of a block comes to its end, or is over as the block is
    pub run_block-Reaches : (b : Block) → IsTrue (is_right_block shape b) → (place : ℕ) → StandsAt code place (block_code place b) → BlockReaches shape code b place
    run_block-Reaches no_statements right place stands stack s count = goal_at place (omega arith) (arrives count)
    run_block-Reaches (statement x b) right place stands stack s count =
        let parts = and_parts (is_right_stmt shape x) (is_right_block shape b) right in
        let next : ℕ = place + stmt_size x in
        goal_at (next + block_size b) (omega arith)
        (reaches-then (λ _ s. run_block b s) (run_stmt-Reaches x parts.0 place (stands-front code place (stmt_code place x) (block_code next b) stands) stack s count)
        (λ _ t k is. run_block-Reaches b parts.1 next (behind_stmt code place x (block_code next b) stands) stack t k))
