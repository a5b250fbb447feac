-- A folded block runs as the block does, uses nothing more, is right if it is, and takes no more room.
use Rattle.std.proofs.Common.{◌≡◌, ℕ, ◌+◌, ◌≤◌, ℤ, Bool, true, false, List, [], ◌∷◌, ◌++◌, Option, Some, None, refl, ap, sym, ◌∙◌, arith}
use Rattle.std.specs.Prelude.{⊤, ◌&&◌, ◌||◌, max, IsTrue}
use Rattle.std.proofs.lemmas.Bool.{or_parts, and_parts}
use Rattle.std.proofs.Math.Bool.{or-false, and-true}
use Rattle.mate_num.specs.Number.{is_truth}
use Rattle.mate_num.specs.Store.{buffer_at, item_set, appended}
use Rattle.mate_num.specs.declared.id.BufId.{BufId}
use Rattle.mate_num.specs.declared.id.FunId.{FunId}
use Rattle.mate_num.specs.declared.resource.Resource.TheVariants as resource
use Rattle.mate_num.specs.declared.shape.Shape.{Shape}
use Rattle.mate_code.specs.Instr.{size_of}
use Rattle.ts_checked.specs.Expression.{Expression, Arguments, Num, Shared, Private, Item, Size, MsgItem, MsgSize, Call, SendBuf, Neg, Not, Two}
use Rattle.mate_num.specs.Shapes.{is_shape}
use Rattle.ts_checked.specs.Right.{is_buffer, is_variable, is_call, argument_count, is_step, is_right_expr, are_right, is_head, is_right_stmt, is_right_block, is_right}
use Rattle.ts_checked.specs.Statement.{Statement, Block, no_statements, statement, block, Set, SetItem, Append, Take, Clear, Do, DoSend, If, IfElse, For, While}
use Rattle.ts_checked.specs.declared.checked_stmt.CVar.{CVar}
use Rattle.ts_semantics.specs.State.{ScriptState, Evaluation, Done, Over, then_do, with_variable, buffer_changed, dropped, loop_does, choose, round_if, begun_state}
use Rattle.ts_semantics.specs.Meaning.{value_of, while_round, for_round, run_stmt, run_block, played}
use Rattle.mate_code.specs.CodeUses.{reads_in, writes_in}
use Rattle.mate_code.specs.declared.uses.Use.{Use}
use Rattle.mate_code.specs.declared.uses.Use.TheVariants.{Gets, Changes}
use Rattle.ts_semantics.specs.Uses.{variable_has, expr_has, stmt_has, block_has, script_uses}
use Rattle.ts_semantics.proofs.LoopLemmas.{loop_ends, while_wins_none}
use Rattle.ts_semantics.specs.Translation.{number_code, expr_need, expr_size, stmt_need, block_need, stmt_size, block_size, script_need, script_size}
use Rattle.ts_fold.specs.Folded.{decision, branch_left, if_left, if_else_left, while_left, folded_expr, folded_args, folded_stmt, folded_stmts, folded}
use Rattle.ts_fold.specs.Laws.{RunsAs, UsesNoMore, TakesNoMore}
use Rattle.ts_fold.proofs.ExpressionLemmas.{or_within, and_within, then_same, Keeps, KeepsArgs, keeps_call, keeps_expr, keeps_args}

-- ---- what folding keeps of a statement in its place, of one that becomes statements, and of a block

record KeepsOne (old new : Statement) : Type 0 where
  run : (s : ScriptState) → run_stmt new s ≡ run_stmt old s
  uses : (test : Use → Bool) → stmt_has test old ≡ false → stmt_has test new ≡ false
  right : (shape : Shape) → is_right_stmt shape old ≡ true → is_right_stmt shape new ≡ true
  need : stmt_need new ≤ stmt_need old
  size : stmt_size new ≤ stmt_size old

record KeepsStmt (old : Statement) (new : List Statement) : Type 0 where
  run : (s : ScriptState) → run_block (block new) s ≡ run_stmt old s
  uses : (test : Use → Bool) → stmt_has test old ≡ false → block_has test (block new) ≡ false
  right : (shape : Shape) → is_right_stmt shape old ≡ true → is_right_block shape (block new) ≡ true
  need : block_need (block new) ≤ stmt_need old
  size : block_size (block new) ≤ stmt_size old

pub record KeepsBlock (old : Block) (new : List Statement) : Type 0 where
  pub run : (s : ScriptState) → run_block (block new) s ≡ run_block old s
  pub uses : (test : Use → Bool) → block_has test old ≡ false → block_has test (block new) ≡ false
  pub right : (shape : Shape) → is_right_block shape old ≡ true → is_right_block shape (block new) ≡ true
  pub need : block_need (block new) ≤ block_need old
  pub size : block_size (block new) ≤ block_size old

same : (x : Statement) → KeepsOne x x
same x =
    record {
      run = λ s. refl;
      uses = λ test h. h;
      right = λ shape h. h;
      need = omega arith;
      size = omega arith;
    }

-- nothing follows
then_nothing : (o : Evaluation ⊤) → then_do o (λ _ s. Done (tt {0}) s) ≡ o
then_nothing (Done a s) = refl
then_nothing (Over end s) = refl

alone : (x y : Statement) → KeepsOne x y → KeepsStmt x (y ∷ [])
alone x y k =
    record {
      run = λ s. then_nothing (run_stmt y s) ∙ k.run s;
      uses = λ test h. or-false (stmt_has test y) ∙ k.uses test h;
      right = λ shape h. and-true (is_right_stmt shape y) ∙ k.right shape h;
      need = let a = k.need in omega arith;
      size = let a = k.size in omega arith;
    }

along : (x y : Statement) (new : List Statement) → KeepsOne x y → KeepsStmt y new → KeepsStmt x new
along x y new k q =
    record {
      run = λ s. q.run s ∙ k.run s;
      uses = λ test h. q.uses test (k.uses test h);
      right = λ shape h. q.right shape (k.right shape h);
      need = let a = k.need in let b = q.need in omega arith;
      size = let a = k.size in let b = q.size in omega arith;
    }

-- ---- statements with their parts folded

same_function : {A : Type 0} (f g : ScriptState → Evaluation A) → ((s : ScriptState) → f s ≡ g s) → f ≡ g
same_function f g h = λ i. λ s. h s i

choose_same : (b : Bool) (f g p q : ScriptState → Evaluation ⊤) (s : ScriptState) → f s ≡ g s → p s ≡ q s → choose b f p s ≡ choose b g q s
choose_same true f g p q s first second = first
choose_same false f g p q s first second = second

keeps_set : (x : CVar) (e f : Expression) → Keeps e f → KeepsOne (Set x e) (Set x f)
keeps_set x e f k =
    record {
      run = λ s. ap (λ (o : Evaluation ℤ). then_do o (λ a s. Done (tt {0}) (with_variable x a s))) (k.value s);
      uses = λ test h.
          or_within (variable_has test Changes x) (expr_has test e) (variable_has test Changes x) (expr_has test f) (λ g. g) (k.uses test) h;
      right = λ shape h.
          and_within (is_variable shape x) (is_right_expr shape true e) (is_variable shape x) (is_right_expr shape true f) (λ g. g) (k.right shape true) h;
      need = k.need;
      size = let a = k.size in omega arith;
    }

keeps_set_item : (p : BufId) (i j e f : Expression) → Keeps i j → Keeps e f → KeepsOne (SetItem p i e) (SetItem p j f)
keeps_set_item p i j e f k q =
    record {
      run = λ s.
          then_same (value_of j s) (value_of i s)
          (λ i s. then_do (value_of f s) (λ a s. buffer_changed p (item_set (buffer_at s.store p.0) i a) s))
          (λ i s. then_do (value_of e s) (λ a s. buffer_changed p (item_set (buffer_at s.store p.0) i a) s)) (k.value s)
          (λ i s. ap (λ (o : Evaluation ℤ). then_do o (λ a s. buffer_changed p (item_set (buffer_at s.store p.0) i a) s)) (q.value s));
      uses = λ test h.
          or_within (test (Changes (resource.Buffer p)) || expr_has test i) (expr_has test e) (test (Changes (resource.Buffer p)) || expr_has test j) (expr_has test f)
          (λ g. or_within (test (Changes (resource.Buffer p))) (expr_has test i) (test (Changes (resource.Buffer p))) (expr_has test j) (λ g. g) (k.uses test) g)
          (q.uses test) h;
      right = λ shape h.
          and_within (is_buffer shape p && is_right_expr shape true i) (is_right_expr shape true e) (is_buffer shape p && is_right_expr shape true j) (is_right_expr shape true f)
          (λ g. and_within (is_buffer shape p) (is_right_expr shape true i) (is_buffer shape p) (is_right_expr shape true j) (λ g. g) (k.right shape true) g)
          (q.right shape true) h;
      need = let a = k.need in let b = q.need in omega arith;
      size = let a = k.size in let b = q.size in omega arith;
    }

keeps_append : (p : BufId) (e f : Expression) → Keeps e f → KeepsOne (Append p e) (Append p f)
keeps_append p e f k =
    record {
      run = λ s. ap (λ (o : Evaluation ℤ). then_do o (λ a s. buffer_changed p (appended (buffer_at s.store p.0) a) s)) (k.value s);
      uses = λ test h. or_within (test (Changes (resource.Buffer p))) (expr_has test e) (test (Changes (resource.Buffer p))) (expr_has test f) (λ g. g) (k.uses test) h;
      right = λ shape h. and_within (is_buffer shape p) (is_right_expr shape true e) (is_buffer shape p) (is_right_expr shape true f) (λ g. g) (k.right shape true) h;
      need = k.need;
      size = let a = k.size in omega arith;
    }

keeps_do : (f : FunId) (es fs : Arguments) → KeepsArgs es fs → KeepsOne (Do f es) (Do f fs)
keeps_do f es fs k =
    record {
      run = λ s. ap (λ (o : Evaluation ℤ). then_do o dropped) ((keeps_call f es fs k).value s);
      uses = (keeps_call f es fs k).uses;
      right = λ shape h.
          and_within (is_call shape f (argument_count es)) (are_right shape true es) (is_call shape f (argument_count fs)) (are_right shape true fs)
          (λ g. ap (λ n. is_call shape f n) k.count ∙ g) (k.right shape true) h;
      need = (keeps_call f es fs k).need;
      size = let a = (keeps_call f es fs k).size in omega arith;
    }

keeps_if : (e f : Expression) (a : Block) (c : List Statement) → Keeps e f → KeepsBlock a c → KeepsOne (If e a) (If f (block c))
keeps_if e f a c k q =
    record {
      run = λ s.
          then_same (value_of f s) (value_of e s) (λ v s. choose (is_truth v) (run_block (block c)) (Done (tt {0})) s)
          (λ v s. choose (is_truth v) (run_block a) (Done (tt {0})) s) (k.value s)
          (λ v s. choose_same (is_truth v) (run_block (block c)) (run_block a) (Done (tt {0})) (Done (tt {0})) s (q.run s) refl);
      uses = λ test h. or_within (expr_has test e) (block_has test a) (expr_has test f) (block_has test (block c)) (k.uses test) (q.uses test) h;
      right = λ shape h. and_within (is_right_expr shape true e) (is_right_block shape a) (is_right_expr shape true f) (is_right_block shape (block c)) (k.right shape true) (q.right shape) h;
      need = let a = k.need in let b = q.need in omega arith;
      size = let a = k.size in let b = q.size in omega arith;
    }

keeps_if_else : (e f : Expression) (a b : Block) (c d : List Statement) → Keeps e f → KeepsBlock a c → KeepsBlock b d
    → KeepsOne (IfElse e a b) (IfElse f (block c) (block d))
keeps_if_else e f a b c d k q o =
    record {
      run = λ s.
          then_same (value_of f s) (value_of e s) (λ v s. choose (is_truth v) (run_block (block c)) (run_block (block d)) s)
          (λ v s. choose (is_truth v) (run_block a) (run_block b) s) (k.value s)
          (λ v s. choose_same (is_truth v) (run_block (block c)) (run_block a) (run_block (block d)) (run_block b) s (q.run s) (o.run s));
      uses = λ test h.
          or_within (expr_has test e || block_has test a) (block_has test b) (expr_has test f || block_has test (block c)) (block_has test (block d))
          (λ g. or_within (expr_has test e) (block_has test a) (expr_has test f) (block_has test (block c)) (k.uses test) (q.uses test) g)
          (o.uses test) h;
      right = λ shape h.
          and_within (is_right_expr shape true e && is_right_block shape a) (is_right_block shape b) (is_right_expr shape true f && is_right_block shape (block c)) (is_right_block shape (block d))
          (λ g. and_within (is_right_expr shape true e) (is_right_block shape a) (is_right_expr shape true f) (is_right_block shape (block c)) (k.right shape true) (q.right shape) g)
          (o.right shape) h;
      need = let a = k.need in let b = q.need in let c = o.need in omega arith;
      size = let a = k.size in let b = q.size in let c = o.size in omega arith;
    }

keeps_while : (e f : Expression) (a : Block) (c : List Statement) → Keeps e f → KeepsBlock a c → KeepsOne (While e a) (While f (block c))
keeps_while e f a c k q =
    record {
      run = λ s.
          ap (λ (value : ScriptState → Evaluation ℤ). loop_does (while_round value (run_block (block c))) s) (same_function (value_of f) (value_of e) k.value)
          ∙ ap (λ (body : ScriptState → Evaluation ⊤). loop_does (while_round (value_of e) body) s) (same_function (run_block (block c)) (run_block a) q.run);
      uses = λ test h. or_within (expr_has test e) (block_has test a) (expr_has test f) (block_has test (block c)) (k.uses test) (q.uses test) h;
      right = λ shape h. and_within (is_right_expr shape true e) (is_right_block shape a) (is_right_expr shape true f) (is_right_block shape (block c)) (k.right shape true) (q.right shape) h;
      need = let a = k.need in let b = q.need in omega arith;
      size = let a = k.size in let b = q.size in omega arith;
    }

-- the rounds of a `for` with its parts folded
rounds_same : (x : CVar) (to limit : Expression) (step : ℤ) (a : Block) (c : List Statement) (s : ScriptState) → Keeps to limit → KeepsBlock a c
    → loop_does (for_round x (value_of limit) step (run_block (block c))) s ≡ loop_does (for_round x (value_of to) step (run_block a)) s
rounds_same x to limit step a c s k q =
    ap (λ (value : ScriptState → Evaluation ℤ). loop_does (for_round x value step (run_block (block c))) s) (same_function (value_of limit) (value_of to) k.value)
    ∙ ap (λ (body : ScriptState → Evaluation ⊤). loop_does (for_round x (value_of to) step body) s) (same_function (run_block (block c)) (run_block a) q.run)

head_right : (shape : Shape) (x : CVar) (from first to limit : Expression) (step : ℤ) → Keeps from first → Keeps to limit
    → is_head shape x from to step ≡ true → is_head shape x first limit step ≡ true
head_right shape x from first to limit step k q h =
    and_within (is_variable shape x && is_right_expr shape true from && is_right_expr shape false to) (is_step step)
    (is_variable shape x && is_right_expr shape true first && is_right_expr shape false limit) (is_step step)
    (λ g. and_within (is_variable shape x && is_right_expr shape true from) (is_right_expr shape false to) (is_variable shape x && is_right_expr shape true first) (is_right_expr shape false limit)
    (λ g. and_within (is_variable shape x) (is_right_expr shape true from) (is_variable shape x) (is_right_expr shape true first) (λ g. g) (k.right shape true) g)
    (q.right shape false) g)
    (λ g. g) h

keeps_for : (x : CVar) (from first to limit : Expression) (step : ℤ) (a : Block) (c : List Statement) → Keeps from first → Keeps to limit → KeepsBlock a c
    → KeepsOne (For x from to step a) (For x first limit step (block c))
keeps_for x from first to limit step a c k q o =
    record {
      run = λ s.
          then_same (value_of first s) (value_of from s)
          (λ v s. loop_does (for_round x (value_of limit) step (run_block (block c))) (with_variable x v s))
          (λ v s. loop_does (for_round x (value_of to) step (run_block a)) (with_variable x v s)) (k.value s)
          (λ v s. rounds_same x to limit step a c (with_variable x v s) q o);
      uses = λ test h. let of_variable : Bool = variable_has test Changes x || variable_has test Gets x in
          or_within (of_variable || expr_has test from || expr_has test to) (block_has test a) (of_variable || expr_has test first || expr_has test limit) (block_has test (block c))
          (λ g. or_within (of_variable || expr_has test from) (expr_has test to) (of_variable || expr_has test first) (expr_has test limit)
          (λ g. or_within of_variable (expr_has test from) of_variable (expr_has test first) (λ g. g) (k.uses test) g) (q.uses test) g)
          (o.uses test) h;
      right = λ shape h.
          and_within (is_head shape x from to step) (is_right_block shape a) (is_head shape x first limit step) (is_right_block shape (block c))
          (head_right shape x from first to limit step k q) (o.right shape) h;
      need = let a = k.need in let b = q.need in let c = o.need in omega arith;
      size = let a = k.size in let b = q.size in let c = o.size in omega arith;
    }

-- ---- statements whose test is decided

decided_if : (n : ℤ) (a : List Statement) (b : Bool) → is_truth n ≡ b → KeepsStmt (If (Num n) (block a)) (branch_left (Some b) a [] (If (Num n) (block a)))
decided_if n a true e =
    record {
      run = λ s. sym (ap (λ (b : Bool). choose b (run_block (block a)) (Done (tt {0})) s) e);
      uses = λ test h. h;
      right = λ shape h. h;
      need = omega arith;
      size = omega arith;
    }
decided_if n a false e =
    record {
      run = λ s. sym (ap (λ (b : Bool). choose b (run_block (block a)) (Done (tt {0})) s) e);
      uses = λ test h. refl;
      right = λ shape h. refl;
      need = omega arith;
      size = omega arith;
    }

keeps_if_left : (e : Expression) (a : List Statement) → KeepsStmt (If e (block a)) (if_left e a)
keeps_if_left (Num n) a = decided_if n a (is_truth n) refl
keeps_if_left e a = alone (If e (block a)) (If e (block a)) (same (If e (block a)))

decided_if_else : (n : ℤ) (a b : List Statement) (t : Bool) → is_truth n ≡ t
    → KeepsStmt (IfElse (Num n) (block a) (block b)) (branch_left (Some t) a b (IfElse (Num n) (block a) (block b)))
decided_if_else n a b true e =
    record {
      run = λ s. sym (ap (λ (t : Bool). choose t (run_block (block a)) (run_block (block b)) s) e);
      uses = λ test h. (or_parts (block_has test (block a)) (block_has test (block b)) h).0;
      right = λ shape h. (and_parts (is_right_block shape (block a)) (is_right_block shape (block b)) h).0;
      need = omega arith;
      size = omega arith;
    }
decided_if_else n a b false e =
    record {
      run = λ s. sym (ap (λ (t : Bool). choose t (run_block (block a)) (run_block (block b)) s) e);
      uses = λ test h. (or_parts (block_has test (block a)) (block_has test (block b)) h).1;
      right = λ shape h. (and_parts (is_right_block shape (block a)) (is_right_block shape (block b)) h).1;
      need = omega arith;
      size = omega arith;
    }

keeps_if_else_left : (e : Expression) (a b : List Statement) → KeepsStmt (IfElse e (block a) (block b)) (if_else_left e a b)
keeps_if_else_left (Num n) a b = decided_if_else n a b (is_truth n) refl
keeps_if_else_left e a b = alone (IfElse e (block a) (block b)) (IfElse e (block a) (block b)) (same (IfElse e (block a) (block b)))

decided_while : (n : ℤ) (a : List Statement) (b : Bool) → is_truth n ≡ b
    → KeepsStmt (While (Num n) (block a)) (branch_left (Some b) (While (Num n) (block a) ∷ []) [] (While (Num n) (block a)))
decided_while n a true e = alone (While (Num n) (block a)) (While (Num n) (block a)) (same (While (Num n) (block a)))
decided_while n a false e =
    record {
      run = λ s.
          sym (loop_ends (while_round (value_of (Num n)) (run_block (block a))) (while_wins_none (Num n) (block a)) s s
          (ap (λ (b : Bool). round_if b (run_block (block a)) s) e));
      uses = λ test h. refl;
      right = λ shape h. refl;
      need = omega arith;
      size = omega arith;
    }

keeps_while_left : (e : Expression) (a : List Statement) → KeepsStmt (While e (block a)) (while_left e a)
keeps_while_left (Num n) a = decided_while n a (is_truth n) refl
keeps_while_left e a = alone (While e (block a)) (While e (block a)) (same (While e (block a)))

-- ---- statements behind others

then_twice : (o : Evaluation ⊤) (f g : ⊤ → ScriptState → Evaluation ⊤) → then_do (then_do o f) g ≡ then_do o (λ a s. then_do (f a s) g)
then_twice (Done a s) f g = refl
then_twice (Over end s) f g = refl

run-append : (xs ys : List Statement) (s : ScriptState) → run_block (block (xs ++ ys)) s ≡ then_do (run_block (block xs) s) (λ _ s. run_block (block ys) s)
run-append [] ys s = refl
run-append (x ∷ xs) ys s =
    then_same (run_stmt x s) (run_stmt x s) (λ _ s. run_block (block (xs ++ ys)) s) (λ _ s. then_do (run_block (block xs) s) (λ _ s. run_block (block ys) s)) refl
    (λ _ s. run-append xs ys s)
    ∙ sym (then_twice (run_stmt x s) (λ _ s. run_block (block xs) s) (λ _ s. run_block (block ys) s))

uses-append : (test : Use → Bool) (xs ys : List Statement) → block_has test (block xs) ≡ false → block_has test (block ys) ≡ false
    → block_has test (block (xs ++ ys)) ≡ false
uses-append test [] ys first second = second
uses-append test (x ∷ xs) ys first second =
    or_within (stmt_has test x) (block_has test (block xs)) (stmt_has test x) (block_has test (block (xs ++ ys))) (λ g. g)
    (λ g. uses-append test xs ys g second) first

right-append : (shape : Shape) (xs ys : List Statement) → is_right_block shape (block xs) ≡ true → is_right_block shape (block ys) ≡ true
    → is_right_block shape (block (xs ++ ys)) ≡ true
right-append shape [] ys first second = second
right-append shape (x ∷ xs) ys first second =
    and_within (is_right_stmt shape x) (is_right_block shape (block xs)) (is_right_stmt shape x) (is_right_block shape (block (xs ++ ys))) (λ g. g)
    (λ g. right-append shape xs ys g second) first

need-append : (xs ys : List Statement) → block_need (block (xs ++ ys)) ≡ max (block_need (block xs)) (block_need (block ys))
need-append [] ys = omega arith
need-append (x ∷ xs) ys = let h = need-append xs ys in omega arith

size-append : (xs ys : List Statement) → block_size (block (xs ++ ys)) ≡ block_size (block xs) + block_size (block ys)
size-append [] ys = omega arith
size-append (x ∷ xs) ys = let h = size-append xs ys in omega arith

keeps_then : (x : Statement) (b : Block) (xs ys : List Statement) → KeepsStmt x xs → KeepsBlock b ys → KeepsBlock (statement x b) (xs ++ ys)
keeps_then x b xs ys k q =
    record {
      run = λ s.
          run-append xs ys s
          ∙ then_same (run_block (block xs) s) (run_stmt x s) (λ _ s. run_block (block ys) s) (λ _ s. run_block b s) (k.run s) (λ _ s. q.run s);
      uses = λ test h. let p = or_parts (stmt_has test x) (block_has test b) h in uses-append test xs ys (k.uses test p.0) (q.uses test p.1);
      right = λ shape h.
          let p = and_parts (is_right_stmt shape x) (is_right_block shape b) h in right-append shape xs ys (k.right shape p.0) (q.right shape p.1);
      need = let a = k.need in let b = q.need in let c = need-append xs ys in omega arith;
      size = let a = k.size in let b = q.size in let c = size-append xs ys in omega arith;
    }

-- ---- folding keeps all this

mutual
  keeps_stmt : (x : Statement) → KeepsStmt x (folded_stmt x)
  keeps_stmt (Set x e) = alone (Set x e) (Set x (folded_expr e)) (keeps_set x e (folded_expr e) (keeps_expr e))
  keeps_stmt (SetItem p i e) =
      alone (SetItem p i e) (SetItem p (folded_expr i) (folded_expr e)) (keeps_set_item p i (folded_expr i) e (folded_expr e) (keeps_expr i) (keeps_expr e))
  keeps_stmt (Append p e) = alone (Append p e) (Append p (folded_expr e)) (keeps_append p e (folded_expr e) (keeps_expr e))
  keeps_stmt (Take x p) = alone (Take x p) (Take x p) (same (Take x p))
  keeps_stmt (Clear p) = alone (Clear p) (Clear p) (same (Clear p))
  keeps_stmt (Do f args) = alone (Do f args) (Do f (folded_args args)) (keeps_do f args (folded_args args) (keeps_args args))
  keeps_stmt (DoSend f p) = alone (DoSend f p) (DoSend f p) (same (DoSend f p))
  keeps_stmt (If e a) =
      along (If e a) (If (folded_expr e) (block (folded_stmts a))) (if_left (folded_expr e) (folded_stmts a))
      (keeps_if e (folded_expr e) a (folded_stmts a) (keeps_expr e) (keeps_stmts a)) (keeps_if_left (folded_expr e) (folded_stmts a))
  keeps_stmt (IfElse e a b) =
      along (IfElse e a b) (IfElse (folded_expr e) (block (folded_stmts a)) (block (folded_stmts b))) (if_else_left (folded_expr e) (folded_stmts a) (folded_stmts b))
      (keeps_if_else e (folded_expr e) a b (folded_stmts a) (folded_stmts b) (keeps_expr e) (keeps_stmts a) (keeps_stmts b))
      (keeps_if_else_left (folded_expr e) (folded_stmts a) (folded_stmts b))
  keeps_stmt (For x from to step a) =
      alone (For x from to step a) (For x (folded_expr from) (folded_expr to) step (block (folded_stmts a)))
      (keeps_for x from (folded_expr from) to (folded_expr to) step a (folded_stmts a) (keeps_expr from) (keeps_expr to) (keeps_stmts a))
  keeps_stmt (While e a) =
      along (While e a) (While (folded_expr e) (block (folded_stmts a))) (while_left (folded_expr e) (folded_stmts a))
      (keeps_while e (folded_expr e) a (folded_stmts a) (keeps_expr e) (keeps_stmts a)) (keeps_while_left (folded_expr e) (folded_stmts a))

  keeps_stmts : (b : Block) → KeepsBlock b (folded_stmts b)
  keeps_stmts no_statements =
      record {
        run = λ s. refl;
        uses = λ test h. h;
        right = λ shape h. h;
        need = omega arith;
        size = omega arith;
      }
  keeps_stmts (statement x b) = keeps_then x b (folded_stmt x) (folded_stmts b) (keeps_stmt x) (keeps_stmts b)

-- ---- the laws

within : (old new : Bool) → (old ≡ false → new ≡ false) → IsTrue new → IsTrue old
within true new h t = refl
within false new h t = let f : new ≡ false = h refl in absurd (cc)

pub RunsAs-folded : (tree : Block) → RunsAs tree (folded tree)
RunsAs-folded tree store msg answers turns = ap played ((keeps_stmts tree).run (begun_state store msg answers turns))

pub UsesNoMore-folded : (shape : Shape) (tree : Block) → UsesNoMore shape tree (folded tree)
UsesNoMore-folded shape tree =
    record {
      reads = λ r. within ((script_uses shape tree).reads r) ((script_uses shape (folded tree)).reads r) ((keeps_stmts tree).uses (λ u. reads_in u r));
      writes = λ r. within ((script_uses shape tree).writes r) ((script_uses shape (folded tree)).writes r) ((keeps_stmts tree).uses (λ u. writes_in shape u r));
    }

pub TakesNoMore-folded : (tree : Block) → TakesNoMore tree (folded tree)
TakesNoMore-folded tree =
    record {
      need = (keeps_stmts tree).need;
      size = let a = (keeps_stmts tree).size in omega arith;
    }

pub right-folded : (shape : Shape) (tree : Block) → IsTrue (is_right shape tree) → IsTrue (is_right shape (folded tree))
right-folded shape tree h =
    and_within (is_shape shape) (is_right_block shape tree) (is_shape shape) (is_right_block shape (folded tree)) (λ g. g) ((keeps_stmts tree).right shape) h
