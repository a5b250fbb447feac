-- No turn is ever won: what is left of the turns never grows along a run.
use Rattle.std.proofs.Common.{◌≡◌, ℕ, zero, suc, ◌≤◌, ℤ, Bool, true, false, List, [], ◌∷◌, Result, Ok, Err, arith, refl}
use Rattle.std.specs.Prelude.{⊤}
use Rattle.arrayvec.specs.ArrayVec.{ArrayVec}
use Rattle.mate_num.specs.Number.{is_truth}
use Rattle.mate_num.specs.Store.{buffer_at, item_set, appended, last_of, item_of, payload}
use Rattle.mate_num.specs.declared.call.FaultKind.{FaultKind}
use Rattle.mate_num.specs.declared.call.End.TheVariants.{Fault}
use Rattle.mate_num.specs.declared.call.FaultKind.TheVariants.{Overrun}
use Rattle.mate_num.specs.declared.id.BufId.{BufId}
use Rattle.mate_num.specs.declared.id.FunId.{FunId}
use Rattle.ts_checked.specs.Expression.{Expression, Arguments, no_arguments, argument, Num, Shared, Private, Item, Size, MsgItem, MsgSize, Call, SendBuf, Neg, Not, Two}
use Rattle.ts_checked.specs.Statement.{Statement, Block, no_statements, statement, Set, SetItem, Append, Take, Clear, Do, DoSend, If, IfElse, For, While}
use Rattle.ts_checked.specs.declared.checked_stmt.CVar.{CVar}
use Rattle.ts_checked.specs.declared.checked_stmt.CVar.TheVariants as variable
use Rattle.ts_semantics.specs.State.{ScriptState, Evaluation, Done, Over, then_do, value_or_fault, variable_at, with_variable, buffer_changed, moved, first_ten, next_answer, call_answered, dropped, with_turns, after_round, rounds, loop_does, choose, round_if}
use Rattle.ts_semantics.specs.Meaning.{value_of, values_of, applied, while_round, for_round, stepped, body_and_step, is_within, run_stmt, run_block}

-- the turns that are left after a part of a run
abbrev pub turns_after : {A : Type 0} → Evaluation A → ℕ
turns_after (Done a s) = s.turns
turns_after (Over end s) = s.turns

-- a part of a run wins no turn, wherever it begins
pub record WinsNoTurn {A : Type 0} (part : ScriptState → Evaluation A) : Type 0 where
  pub falls : (s : ScriptState) → turns_after (part s) ≤ s.turns

-- one part after another
pub turns_after-then_do : {A B : Type 0} (o : Evaluation A) (next : A → ScriptState → Evaluation B) (n : ℕ) → turns_after o ≤ n
    → ((a : A) (s : ScriptState) → turns_after (next a s) ≤ s.turns) → turns_after (then_do o next) ≤ n
turns_after-then_do (Done a s) next n first falls = let h : turns_after (next a s) ≤ s.turns = falls a s in omega arith
turns_after-then_do (Over end s) next n first falls = first

with_variable-turns : (x : CVar) (v : ℤ) (s : ScriptState) → (with_variable x v s).turns ≡ s.turns
with_variable-turns (variable.Shared w) v s = refl
with_variable-turns (variable.Private i) v s = refl

given-turns : {A : Type 0} (r : Result A FaultKind) (s : ScriptState) → turns_after (value_or_fault r s) ≤ s.turns
given-turns (Ok a) s = omega arith
given-turns (Err kind) s = omega arith

changed-turns : (p : BufId) (r : Result (List ℤ) FaultKind) (s : ScriptState) → turns_after (buffer_changed p r s) ≤ s.turns
changed-turns p (Ok values) s = omega arith
changed-turns p (Err kind) s = omega arith

moved-turns : (x : CVar) (p : BufId) (r : Result ℤ FaultKind) (s : ScriptState) → turns_after (moved x p r s) ≤ s.turns
moved-turns (variable.Shared v) p (Ok a) s = omega arith
moved-turns (variable.Private i) p (Ok a) s = omega arith
moved-turns x p (Err kind) s = omega arith

answered-turns : (f : FunId) (args : ArrayVec ℤ) (left : List ℤ) (s : ScriptState) → turns_after (call_answered f args left s) ≤ s.turns
answered-turns f args [] s = omega arith
answered-turns f args (a ∷ left) s = omega arith

asked-turns : (f : FunId) (args : ArrayVec ℤ) (s : ScriptState) → turns_after (next_answer f args s) ≤ s.turns
asked-turns f args s = answered-turns f args s.left s

done-turns : {A : Type 0} (a : A) (s : ScriptState) → turns_after (Done a s) ≤ s.turns
done-turns a s = omega arith

mutual
  value_of-turns : (e : Expression) (s : ScriptState) → turns_after (value_of e s) ≤ s.turns
  value_of-turns (Num n) s = done-turns n s
  value_of-turns (Item p e) s =
      turns_after-then_do (value_of e s) (λ i s. value_or_fault (item_of (buffer_at s.store p.0) i) s) s.turns (value_of-turns e s)
      (λ i t. given-turns (item_of (buffer_at t.store p.0) i) t)
  value_of-turns (MsgItem e) s =
      turns_after-then_do (value_of e s) (λ i s. value_or_fault (item_of s.msg i) s) s.turns (value_of-turns e s) (λ i t. given-turns (item_of t.msg i) t)
  value_of-turns (Call f args) s =
      turns_after-then_do (values_of args s) (λ values s. next_answer f (first_ten values) s) s.turns (values_of-turns args s)
      (λ values t. asked-turns f (first_ten values) t)
  value_of-turns (SendBuf f p) s = asked-turns f (payload (buffer_at s.store p.0)) s
  value_of-turns (Neg e) s =
      turns_after-then_do (value_of e s) _ s.turns (value_of-turns e s) (λ a t. omega arith)
  value_of-turns (Not e) s =
      turns_after-then_do (value_of e s) _ s.turns (value_of-turns e s) (λ a t. omega arith)
  value_of-turns (Two op l r) s =
      turns_after-then_do (value_of l s) (λ a s. then_do (value_of r s) (λ b s. value_or_fault (applied op a b) s)) s.turns (value_of-turns l s)
      (λ a t. turns_after-then_do (value_of r t) (λ b s. value_or_fault (applied op a b) s) t.turns (value_of-turns r t) (λ b u. given-turns (applied op a b) u))
  value_of-turns _ s = omega arith

  values_of-turns : (es : Arguments) (s : ScriptState) → turns_after (values_of es s) ≤ s.turns
  values_of-turns no_arguments s = omega arith
  values_of-turns (argument e es) s =
      turns_after-then_do (value_of e s) (λ a s. then_do (values_of es s) (λ values s. Done (a ∷ values) s)) s.turns (value_of-turns e s)
      (λ a t. turns_after-then_do (values_of es t) (λ values s. Done (a ∷ values) s) t.turns (values_of-turns es t) (λ values u. omega arith))

with_turns-falls : (k : ℕ) (next : ScriptState → Evaluation ⊤) (s : ScriptState) → k ≤ s.turns → ((t : ScriptState) → turns_after (next t) ≤ t.turns)
    → turns_after (with_turns k next s) ≤ s.turns
with_turns-falls zero next s h falls = omega arith
with_turns-falls (suc k) next s h falls = let g : turns_after (next (record s { turns = k })) ≤ k = falls (record s { turns = k }) in omega arith

after_round-falls : (next : ScriptState → Evaluation ⊤) → ((t : ScriptState) → turns_after (next t) ≤ t.turns) → (again : Bool) (s : ScriptState) → turns_after (after_round next again s) ≤ s.turns
after_round-falls next falls true s = with_turns-falls s.turns next s (omega arith) falls
after_round-falls next falls false s = omega arith

-- a loop wins no turn where its rounds win none
rounds-falls : (n : ℕ) (round : ScriptState → Evaluation Bool) → WinsNoTurn round → (s : ScriptState) → turns_after (rounds n round s) ≤ s.turns
rounds-falls zero round w s =
    turns_after-then_do (round s) (after_round (λ s. Over (Fault Overrun) s)) s.turns (w.falls s)
    (after_round-falls (λ s. Over (Fault Overrun) s) (λ t. omega arith))
rounds-falls (suc n) round w s =
    turns_after-then_do (round s) (after_round (rounds n round)) s.turns (w.falls s) (after_round-falls (rounds n round) (rounds-falls n round w))

pub loop_does-falls : (round : ScriptState → Evaluation Bool) → WinsNoTurn round → (s : ScriptState) → turns_after (loop_does round s) ≤ s.turns
loop_does-falls round w s = rounds-falls s.turns round w s

round_if-falls : (b : Bool) (body : ScriptState → Evaluation ⊤) → ((t : ScriptState) → turns_after (body t) ≤ t.turns) → (s : ScriptState) → turns_after (round_if b body s) ≤ s.turns
round_if-falls true body falls s = turns_after-then_do (body s) (λ _ s. Done true s) s.turns (falls s) (λ _ t. omega arith)
round_if-falls false body falls s = omega arith

choose-falls : (b : Bool) (x y : ScriptState → Evaluation ⊤) → ((t : ScriptState) → turns_after (x t) ≤ t.turns) → ((t : ScriptState) → turns_after (y t) ≤ t.turns)
    → (s : ScriptState) → turns_after (choose b x y s) ≤ s.turns
choose-falls true x y fx fy s = fx s
choose-falls false x y fx fy s = fy s

pub while_round-falls : (value : ScriptState → Evaluation ℤ) (body : ScriptState → Evaluation ⊤) → WinsNoTurn value → WinsNoTurn body → WinsNoTurn (while_round value body)
while_round-falls value body v b =
    record {
      falls = λ s. turns_after-then_do (value s) (λ a s. round_if (is_truth a) body s) s.turns (v.falls s) (λ a t. round_if-falls (is_truth a) body b.falls t);
    }

body_and_step-falls : (x : CVar) (step : ℤ) (body : ScriptState → Evaluation ⊤) → WinsNoTurn body → (s : ScriptState) → turns_after (body_and_step x step body s) ≤ s.turns
body_and_step-falls x step body b s =
    turns_after-then_do (body s) (λ _ s. Done (tt {0}) (stepped x step s)) s.turns (b.falls s)
    (λ _ t. let h : (stepped x step t).turns ≡ t.turns = with_variable-turns x _ t in omega arith)

pub for_round-falls : (x : CVar) (limit : ScriptState → Evaluation ℤ) (step : ℤ) (body : ScriptState → Evaluation ⊤) → WinsNoTurn limit → WinsNoTurn body → WinsNoTurn (for_round x limit step body)
for_round-falls x limit step body l b =
    record {
      falls = λ s. turns_after-then_do (limit s) (λ bound t. round_if (is_within step (variable_at x s) bound) (body_and_step x step body) t) s.turns (l.falls s)
          (λ bound t. round_if-falls (is_within step (variable_at x s) bound) (body_and_step x step body) (body_and_step-falls x step body b) t);
    }

-- an expression, a statement and a block win no turn
pub value_wins_none : (e : Expression) → WinsNoTurn (value_of e)
value_wins_none e = record { falls = value_of-turns e }

mutual
  run_stmt-turns : (x : Statement) (s : ScriptState) → turns_after (run_stmt x s) ≤ s.turns
  run_stmt-turns (Set x e) s =
      turns_after-then_do (value_of e s) (λ a s. Done tt (with_variable x a s)) s.turns (value_of-turns e s)
      (λ a t. let h : (with_variable x a t).turns ≡ t.turns = with_variable-turns x a t in omega arith)
  run_stmt-turns (SetItem p i e) s =
      turns_after-then_do (value_of i s) (λ i s. then_do (value_of e s) (λ a s. buffer_changed p (item_set (buffer_at s.store p.0) i a) s)) s.turns (value_of-turns i s)
      (λ i t. turns_after-then_do (value_of e t) (λ a s. buffer_changed p (item_set (buffer_at s.store p.0) i a) s) t.turns (value_of-turns e t)
      (λ a u. changed-turns p (item_set (buffer_at u.store p.0) i a) u))
  run_stmt-turns (Append p e) s =
      turns_after-then_do (value_of e s) (λ a s. buffer_changed p (appended (buffer_at s.store p.0) a) s) s.turns (value_of-turns e s)
      (λ a t. changed-turns p (appended (buffer_at t.store p.0) a) t)
  run_stmt-turns (Take x p) s = moved-turns x p (last_of (buffer_at s.store p.0)) s
  run_stmt-turns (Clear p) s = omega arith
  run_stmt-turns (Do f args) s = turns_after-then_do (value_of (Call f args) s) dropped s.turns (value_of-turns (Call f args) s) (λ a t. omega arith)
  run_stmt-turns (DoSend f p) s = turns_after-then_do (value_of (SendBuf f p) s) dropped s.turns (value_of-turns (SendBuf f p) s) (λ a t. omega arith)
  run_stmt-turns (If e a) s =
      turns_after-then_do (value_of e s) (λ v s. choose (is_truth v) (run_block a) (Done tt) s) s.turns (value_of-turns e s)
      (λ v t. choose-falls (is_truth v) (run_block a) (Done tt) (run_block-turns a) (λ u. omega arith) t)
  run_stmt-turns (IfElse e a b) s =
      turns_after-then_do (value_of e s) (λ v s. choose (is_truth v) (run_block a) (run_block b) s) s.turns (value_of-turns e s)
      (λ v t. choose-falls (is_truth v) (run_block a) (run_block b) (run_block-turns a) (run_block-turns b) t)
  run_stmt-turns (For x from to step a) s =
      turns_after-then_do (value_of from s) (λ v s. loop_does (for_round x (value_of to) step (run_block a)) (with_variable x v s)) s.turns (value_of-turns from s)
      (λ v t. let h : (with_variable x v t).turns ≡ t.turns = with_variable-turns x v t in
      let g : turns_after (loop_does (for_round x (value_of to) step (run_block a)) (with_variable x v t)) ≤ (with_variable x v t).turns =
      loop_does-falls (for_round x (value_of to) step (run_block a))
      (for_round-falls x (value_of to) step (run_block a) (value_wins_none to) (record { falls = run_block-turns a })) (with_variable x v t) in
      omega arith)
  run_stmt-turns (While e a) s =
      loop_does-falls (while_round (value_of e) (run_block a)) (while_round-falls (value_of e) (run_block a) (value_wins_none e) (record { falls = run_block-turns a })) s

  run_block-turns : (b : Block) (s : ScriptState) → turns_after (run_block b s) ≤ s.turns
  run_block-turns no_statements s = omega arith
  run_block-turns (statement x b) s =
      turns_after-then_do (run_stmt x s) (λ _ s. run_block b s) s.turns (run_stmt-turns x s) (λ _ t. run_block-turns b t)

pub stmt_wins_none : (x : Statement) → WinsNoTurn (run_stmt x)
stmt_wins_none x = record { falls = run_stmt-turns x }

pub block_wins_none : (b : Block) → WinsNoTurn (run_block b)
block_wins_none b = record { falls = run_block-turns b }
