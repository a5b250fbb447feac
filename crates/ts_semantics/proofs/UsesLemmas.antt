-- The code of a script reads and writes what the script does.
use Rattle.std.proofs.Common.{◌≡◌, ℕ, ◌+◌, ℤ, pos, negsuc, List, [], ◌∷◌, ◌++◌, Bool, true, false, refl, ap, sym, ◌∙◌}
use Rattle.std.specs.Prelude.{◌||◌, nat_lt, if◌then◌else◌}
use Rattle.std.specs.List.{list_any}
use Rattle.std.proofs.Math.Bool.{or_assoc, or_comm, or-false}
use Rattle.std.proofs.lemmas.List.Folds.{list_any-append}
use Rattle.mate_num.specs.declared.resource.Resource.{Resource}
use Rattle.mate_num.specs.declared.resource.Resource.TheVariants as resource
use Rattle.mate_num.specs.declared.shape.Shape.{Shape}
use Rattle.mate_code.specs.declared.instr.Instr.{Instr}
use Rattle.mate_code.specs.declared.instr.Instr.TheVariants as instr
use Rattle.mate_code.specs.Code.{placed}
use Rattle.mate_code.specs.CodeUses.{use_of, reads_in, writes_in}
use Rattle.mate_code.specs.declared.uses.Use.TheVariants.{Nothing, Gets, Changes, Calls, Sends}
use Rattle.mate_code.specs.declared.uses.Use.{Use}
use Rattle.mate_code.specs.Instr.{size_of}
use Rattle.ts_checked.specs.Expression.{Expression, Arguments, no_arguments, argument, Num, Shared, Private, Item, Size, MsgItem, MsgSize, Call, SendBuf, Neg, Not, Two}
use Rattle.ts_checked.specs.Statement.{Statement, Block, no_statements, statement, Set, SetItem, Append, Take, Clear, Do, DoSend, If, IfElse, For, While}
use Rattle.ts_checked.specs.declared.bin_op.BinOp.{BinOp}
use Rattle.ts_checked.specs.declared.bin_op.BinOp.TheVariants as op
use Rattle.ts_checked.specs.declared.checked_stmt.CVar.{CVar}
use Rattle.ts_checked.specs.declared.checked_stmt.CVar.TheVariants as variable
use Rattle.ts_semantics.specs.Uses.{variable_has, expr_has, args_have, stmt_has, block_has}
use Rattle.ts_semantics.specs.Translation.{number_code, get_code, set_code, operator_code, expr_code, args_code, expr_size, stmt_size, block_size, within_code, while_body, while_end, else_begin, else_end, for_test, for_body, for_end, step_code, stmt_code, block_code, script_code, code_of}
use Rattle.ts_semantics.specs.Laws.{UsesAsItsScript}

-- ---- whether some instruction passes a test

-- the places don't matter
any-placed : (test : Instr → Bool) (place : ℕ) (is : List Instr) → list_any (λ (p : ℕ × Instr). test p.1) (placed place is) ≡ list_any test is
any-placed test place [] = refl
any-placed test place (i ∷ is) = ap (λ (b : Bool). test i || b) (any-placed test (place + size_of i) is)

-- what the test of the instructions tells
record Tells (test : Instr → Bool) (is : List Instr) (b : Bool) : Type 0 where
  value : list_any test is ≡ b

-- no instruction passes
tells_none : {test : Instr → Bool} → Tells test [] false
tells_none {test} = record { value = refl }

-- instructions, and then others
tells_append : {test : Instr → Bool} {is js : List Instr} {a b : Bool} → Tells test is a → Tells test js b → Tells test (is ++ js) (a || b)
tells_append {test} {is} {js} {a} {b} first second = record {
  value = list_any-append test is js ∙ ap (λ (c : Bool). c || list_any test js) first.value ∙ ap (λ (c : Bool). a || c) second.value;
}

tells_cons : {test : Instr → Bool} {is : List Instr} {a b : Bool} (i : Instr) → test i ≡ a → Tells test is b → Tells test (i ∷ is) (a || b)
tells_cons {test} {is} {a} {b} i first second = record {
  value = ap (λ (c : Bool). c || list_any test is) first ∙ ap (λ (c : Bool). a || c) second.value;
}

tells_one : {test : Instr → Bool} {a : Bool} (i : Instr) → test i ≡ a → Tells test (i ∷ []) a
tells_one {test} {a} i first = record { value = or-false (test i) ∙ first }

tells_same : {test : Instr → Bool} {is : List Instr} {a b : Bool} → a ≡ b → Tells test is a → Tells test is b
tells_same e tells = record { value = tells.value ∙ e }

tells_push : {test : Instr → Bool} {is : List Instr} {a b : Bool} (i : Instr) → Tells test is a → test i ≡ b → Tells test (is ++ i ∷ []) (a || b)
tells_push {test} {is} {a} {b} i first last = tells_append first (tells_one i last)

-- one that doesn't pass, behind others
tells_quiet : {test : Instr → Bool} {is : List Instr} {a : Bool} (i : Instr) → Tells test is a → test i ≡ false → Tells test (is ++ i ∷ []) a
tells_quiet {test} {is} {a} i first last = tells_same (or-false a) (tells_push i first last)

-- ---- instructions that use nothing

number_uses : (n : ℤ) → use_of (number_code n) ≡ Nothing
number_uses (pos n) = by (nat_lt n 256) where
  by : (b : Bool) → use_of (if b then instr.PushB n else instr.PushW (pos n)) ≡ Nothing
  by true = refl
  by false = refl
number_uses (negsuc n) = refl

operator_uses : (o : BinOp) → use_of (operator_code o) ≡ Nothing
operator_uses op.Or = refl
operator_uses _ = refl

within_uses : (step : ℤ) → use_of (within_code step) ≡ Nothing
within_uses (pos step) = refl
within_uses (negsuc step) = refl

-- ---- truth values

-- the variable of a `for` is set and read before the limit, and read and set after the body
for_order : (from set get to body : Bool) → (from || (set || (get || (to || (false || (false || (body || (get || (false || (false || (set || false)))))))))))
    ≡ (set || get || from || to || body)
for_order true true get to body = refl
for_order true false true to body = refl
for_order true false false to body = refl
for_order false true get to body = refl
for_order false false true to body = refl
for_order false false false true body = refl
for_order false false false false true = refl
for_order false false false false false = refl

if_order : (test a b : Bool) → (test || (a || b)) ≡ (test || a || b)
if_order test a b = sym (or_assoc test a b)

-- a buffer that is written after two values
item_order : (a b c : Bool) → (a || (b || c)) ≡ (c || a || b)
item_order a b c = sym (or_assoc a b c) ∙ or_comm (a || b) c ∙ sym (or_assoc c a b)

-- ---- what passes a test of uses that no use at all passes

module _ (test : Use → Bool) (none : test Nothing ≡ false) where
  -- the use of an instruction passes
  abbrev passes : Instr → Bool
  passes i = test (use_of i)

  passes_nothing : (i : Instr) → use_of i ≡ Nothing → passes i ≡ false
  passes_nothing i nothing = ap test nothing ∙ none

  passes_get : (x : CVar) → passes (get_code x) ≡ variable_has test Gets x
  passes_get (variable.Shared v) = refl
  passes_get (variable.Private i) = none

  passes_set : (x : CVar) → passes (set_code x) ≡ variable_has test Changes x
  passes_set (variable.Shared v) = refl
  passes_set (variable.Private i) = none

  -- what is used last stands first in the script
  tells_first : {is : List Instr} {a b : Bool} (i : Instr) → Tells passes is a → passes i ≡ b → Tells passes (is ++ i ∷ []) (b || a)
  tells_first {is} {a} {b} i first last = tells_same (or_comm a b) (tells_push i first last)

  mutual
    expr-has : (e : Expression) → Tells passes (expr_code e) (expr_has test e)
    expr-has (Num n) = tells_one (number_code n) (passes_nothing (number_code n) (number_uses n))
    expr-has (Shared v) = tells_one (instr.GetS v) refl
    expr-has (Private i) = tells_one (instr.GetP i) none
    expr-has (Item p e) = tells_first (instr.BGet p) (expr-has e) refl
    expr-has (Size p) = tells_one (instr.BSize p) refl
    expr-has (MsgItem e) = tells_quiet instr.MsgGet (expr-has e) none
    expr-has MsgSize = tells_one instr.MsgSize none
    expr-has (Call f args) = tells_first (instr.Fun f) (args-have args) refl
    expr-has (SendBuf f p) = tells_one (instr.FunBuf f p) refl
    expr-has (Neg e) = tells_quiet instr.Neg (expr-has e) none
    expr-has (Not e) = tells_quiet instr.Not (expr-has e) none
    expr-has (Two o a b) =
        tells_append (expr-has a) (tells_quiet (operator_code o) (expr-has b) (passes_nothing (operator_code o) (operator_uses o)))

    args-have : (es : Arguments) → Tells passes (args_code es) (args_have test es)
    args-have no_arguments = tells_none
    args-have (argument e es) = tells_append (expr-has e) (args-have es)

  -- the step of a `for`, and the going back
  step_has : (x : CVar) (step : ℤ) (place : ℕ)
      → Tells passes (step_code x step ++ instr.Back place ∷ []) (variable_has test Gets x || (false || (false || (variable_has test Changes x || false))))
  step_has x step place =
      tells_cons (get_code x) (passes_get x)
      (tells_cons (number_code step) (passes_nothing (number_code step) (number_uses step))
      (tells_cons instr.Add none (tells_cons (set_code x) (passes_set x) (tells_one (instr.Back place) none))))

  mutual
    stmt-has : (place : ℕ) (s : Statement) → Tells passes (stmt_code place s) (stmt_has test s)
    stmt-has place (Set x e) = tells_first (set_code x) (expr-has e) (passes_set x)
    stmt-has place (SetItem p i e) =
        tells_same (item_order (expr_has test i) (expr_has test e) (test (Changes (resource.Buffer p))))
        (tells_append (expr-has i) (tells_push (instr.BSet p) (expr-has e) refl))
    stmt-has place (Append p e) = tells_first (instr.BAdd p) (expr-has e) refl
    stmt-has place (Take x p) =
        tells_same (or_comm (test (Changes (resource.Buffer p))) (variable_has test Changes x))
        (tells_cons (instr.BTake p) refl (tells_one (set_code x) (passes_set x)))
    stmt-has place (Clear p) = tells_one (instr.BClear p) refl
    stmt-has place (Do f args) = tells_quiet instr.Drop (expr-has (Call f args)) none
    stmt-has place (DoSend f p) = tells_quiet instr.Drop (expr-has (SendBuf f p)) none
    stmt-has place (If e a) =
        tells_append (expr-has e) (tells_cons (instr.Jz (place + expr_size e + 3 + block_size a)) none (block-has (place + expr_size e + 3) a))
    stmt-has place (IfElse e a b) =
        tells_same (if_order (expr_has test e) (block_has test a) (block_has test b))
        (tells_append (expr-has e)
        (tells_cons (instr.Jz (else_begin place e a)) none
        (tells_append (block-has (place + expr_size e + 3) a)
        (tells_cons (instr.Jmp (else_end place e a b)) none (block-has (else_begin place e a) b)))))
    stmt-has place (For x from to step a) =
        tells_same (for_order (expr_has test from) (variable_has test Changes x) (variable_has test Gets x) (expr_has test to) (block_has test a))
        (tells_append (expr-has from)
        (tells_cons (set_code x) (passes_set x) (tells_cons (get_code x) (passes_get x)
        (tells_append (expr-has to)
        (tells_cons (within_code step) (passes_nothing (within_code step) (within_uses step))
        (tells_cons (instr.Jz (for_end place from to step a)) none
        (tells_append (block-has (for_body place from to) a) (step_has x step (for_test place from)))))))))
    stmt-has place (While e a) =
        tells_append (expr-has e)
        (tells_cons (instr.Jz (while_end place e a)) none (tells_quiet (instr.Back place) (block-has (while_body place e) a) none))

    block-has : (place : ℕ) (b : Block) → Tells passes (block_code place b) (block_has test b)
    block-has place no_statements = tells_none
    block-has place (statement s b) = tells_append (stmt-has place s) (block-has (place + stmt_size s) b)

  pub script-has : (tree : Block) → list_any (λ (p : ℕ × Instr). test (use_of p.1)) (code_of tree) ≡ block_has test tree
  script-has tree = any-placed passes 0 (script_code tree) ∙ (tells_quiet instr.Halt (block-has 0 tree) none).value

-- ---- reads and writes

pub UsesAsItsScript-script_code : (shape : Shape) (tree : Block) → UsesAsItsScript shape tree
UsesAsItsScript-script_code shape tree =
    λ i. record {
      reads = λ r. script-has (λ u. reads_in u r) refl tree i;
      writes = λ r. script-has (λ u. writes_in shape u r) refl tree i;
    }
