-- The instructions of a right script are in the machine's table, and take as many bytes as the script's size.
use Rattle.std.proofs.Common.{◌≡◌, ℕ, ◌+◌, ◌<◌, ℤ, pos, negsuc, List, [], ◌∷◌, ◌++◌, Bool, true, false, Option, None, Some, length, refl, ap, sym, ◌∙◌, arith}
use Rattle.std.specs.Prelude.{◌&&◌, ◌==◌, not, nat_lt, if◌then◌else◌, slice_get, sum_by, option_map, IsTrue}
use Rattle.std.specs.List.{AllByRecursion}
use Rattle.std.proofs.lemmas.Bool.{and_parts, ltb-true, lt-ltb}
use Rattle.std.proofs.lemmas.List.Elements.{All-from_recursion}
use Rattle.std.proofs.lemmas.List.Sums.{sum_by-cons}
use Rattle.std.proofs.lemmas.Option.{slice_get-map}
use Rattle.mate_num.specs.declared.id.BufId.{BufId}
use Rattle.mate_num.specs.declared.id.FunId.{FunId}
use Rattle.mate_num.specs.declared.shape.Shape.{Shape}
use Rattle.mate_num.specs.declared.shape.FunShape.{FunShape}
use Rattle.mate_code.specs.declared.instr.Instr.{Instr}
use Rattle.mate_code.specs.declared.instr.Instr.TheVariants as instr
use Rattle.mate_code.specs.Code.{code_bytes}
use Rattle.mate_code.specs.Kind.{kind_of}
use Rattle.mate_code.specs.Instr.{size_of}
use Rattle.mate_code.specs.Table.{Layout, table_of, IsInTable, AreInTable}
use Rattle.mate_code.proofs.CodeLemmas.{length-code_bytes}
use Rattle.ts_checked.specs.Expression.{Expression, Arguments, no_arguments, argument, Num, Shared, Private, Item, Size, MsgItem, MsgSize, Call, SendBuf, Neg, Not, Two}
use Rattle.ts_checked.specs.Statement.{Statement, Block, no_statements, statement, Set, SetItem, Append, Take, Clear, Do, DoSend, If, IfElse, For, While}
use Rattle.mate_num.specs.Shapes.{is_shape}
use Rattle.ts_checked.specs.Right.{is_buffer, is_variable, takes, sends, is_call, is_send_of, is_right_expr, are_right, is_step, is_head, is_right_stmt, is_right_block, is_right, argument_count}
use Rattle.ts_checked.specs.declared.bin_op.BinOp.{BinOp}
use Rattle.ts_checked.specs.declared.bin_op.BinOp.TheVariants as op
use Rattle.ts_checked.specs.declared.checked_stmt.CVar.{CVar}
use Rattle.ts_checked.specs.declared.checked_stmt.CVar.TheVariants as variable
use Rattle.ts_semantics.specs.Translation.{size_of_instrs, number_code, get_code, set_code, operator_code, expr_code, args_code, expr_size, stmt_size, block_size, within_code, while_body, else_begin, for_body, stmt_code, block_code, script_code, script_size}
use Rattle.ts_semantics.specs.Laws.{IsEncodable}
use Rattle.ts_semantics.proofs.PlaceLemmas.{bytes_of-append, bytes_of-block_code}

-- ---- what the table has

function_named : (shape : Shape) (f : FunId) (send : Bool) → option_map (λ (f : FunShape). f.send) (slice_get shape.functions.items f.0) ≡ Some send
    → slice_get (table_of shape).sends f.0 ≡ Some send
function_named shape f send e = slice_get-map (λ (f : FunShape). f.send) shape.functions.items f.0 ∙ e

not_true : (b : Bool) → not b ≡ true → b ≡ false
not_true true e = sym e
not_true false e = refl

takes-sends : (o : Option FunShape) (count : ℕ) → takes o count ≡ true → option_map (λ (f : FunShape). f.send) o ≡ Some false
takes-sends None count e = absurd cc
takes-sends (Some f) count e = ap (λ (b : Bool). Some b) (not_true f.send (and_parts (not f.send) (f.args == count) e).0)

sends-sends : (o : Option FunShape) → sends o ≡ true → option_map (λ (f : FunShape). f.send) o ≡ Some true
sends-sends None e = absurd cc
sends-sends (Some f) e = ap (λ (b : Bool). Some b) e

-- a machine with a named buffer has the buffer group
has_buffer : (shape : Shape) (p : BufId) → is_buffer shape p ≡ true → IsTrue (nat_lt 0 shape.buffers)
has_buffer shape p e = let h : p.0 < shape.buffers = ltb-true p.0 shape.buffers e in lt-ltb 0 shape.buffers (omega arith)

module _ (shape : Shape) where
  -- the kind of an instruction is in the table
  abbrev InTable : Instr → Type 0
  InTable i = IsInTable (table_of shape) (kind_of i)

  abbrev AllIn : List Instr → Type 0
  AllIn is = AllByRecursion InTable is

  in-append : (is js : List Instr) → AllIn is → AllIn js → AllIn (is ++ js)
  in-append [] js first second = second
  in-append (i ∷ is) js first second = (first.0, in-append is js first.1 second)

  in-push : (is : List Instr) (i : Instr) → AllIn is → InTable i → AllIn (is ++ i ∷ [])
  in-push is i first last = in-append is (i ∷ []) first (last, tt)

  in-number : (n : ℤ) → InTable (number_code n)
  in-number (pos n) = by (nat_lt n 256) where
    by : (b : Bool) → InTable (if b then instr.PushB n else instr.PushW (pos n))
    by true = tt
    by false = tt
  in-number (negsuc n) = tt

  in-get : (x : CVar) → InTable (get_code x)
  in-get (variable.Shared v) = tt
  in-get (variable.Private i) = tt

  in-set : (x : CVar) → InTable (set_code x)
  in-set (variable.Shared v) = tt
  in-set (variable.Private i) = tt

  in-operator : (o : BinOp) → InTable (operator_code o)
  in-operator op.Or = tt
  in-operator _ = tt

  in-within : (step : ℤ) → InTable (within_code step)
  in-within (pos step) = tt
  in-within (negsuc step) = tt

  in-call : (f : FunId) (count : ℕ) → is_call shape f count ≡ true → InTable (instr.Fun f)
  in-call f count e = function_named shape f false (takes-sends (slice_get shape.functions.items f.0) count e)

  in-send : (f : FunId) (p : BufId) → is_send_of shape f p ≡ true → InTable (instr.FunBuf f p)
  in-send f p e =
      function_named shape f true (sends-sends (slice_get shape.functions.items f.0) (and_parts (sends (slice_get shape.functions.items f.0)) (is_buffer shape p) e).0)

  -- ---- expressions, and statements

  mutual
    in-expr : (calls : Bool) (e : Expression) → is_right_expr shape calls e ≡ true → AllIn (expr_code e)
    in-expr calls (Num n) right = (in-number n, tt)
    in-expr calls (Item p e) right =
        let h = and_parts (is_buffer shape p) (is_right_expr shape calls e) right in
        in-push (expr_code e) (instr.BGet p) (in-expr calls e h.1) (has_buffer shape p h.0)
    in-expr calls (Size p) right = (has_buffer shape p right, tt)
    in-expr calls (MsgItem e) right = in-push (expr_code e) instr.MsgGet (in-expr calls e right) tt
    in-expr calls (Call f args) right =
        let h = and_parts (calls && is_call shape f (argument_count args)) (are_right shape calls args) right in
        let k = and_parts calls (is_call shape f (argument_count args)) h.0 in
        in-push (args_code args) (instr.Fun f) (in-args calls args h.1) (in-call f (argument_count args) k.1)
    in-expr calls (SendBuf f p) right = (in-send f p (and_parts calls (is_send_of shape f p) right).1, tt)
    in-expr calls (Neg e) right = in-push (expr_code e) instr.Neg (in-expr calls e right) tt
    in-expr calls (Not e) right = in-push (expr_code e) instr.Not (in-expr calls e right) tt
    in-expr calls (Two o a b) right =
        let h = and_parts (is_right_expr shape calls a) (is_right_expr shape calls b) right in
        in-append (expr_code a) (expr_code b ++ operator_code o ∷ []) (in-expr calls a h.0)
        (in-push (expr_code b) (operator_code o) (in-expr calls b h.1) (in-operator o))
    in-expr calls _ right = (tt, tt)

    in-args : (calls : Bool) (es : Arguments) → are_right shape calls es ≡ true → AllIn (args_code es)
    in-args calls no_arguments right = tt
    in-args calls (argument e es) right =
        let h = and_parts (is_right_expr shape calls e) (are_right shape calls es) right in
        in-append (expr_code e) (args_code es) (in-expr calls e h.0) (in-args calls es h.1)

  mutual
    in-stmt : (place : ℕ) (s : Statement) → is_right_stmt shape s ≡ true → AllIn (stmt_code place s)
    in-stmt place (Set x e) right =
        let h = and_parts (is_variable shape x) (is_right_expr shape true e) right in
        in-push (expr_code e) (set_code x) (in-expr true e h.1) (in-set x)
    in-stmt place (SetItem p i e) right =
        let h = and_parts (is_buffer shape p && is_right_expr shape true i) (is_right_expr shape true e) right in
        let k = and_parts (is_buffer shape p) (is_right_expr shape true i) h.0 in
        in-append (expr_code i) (expr_code e ++ instr.BSet p ∷ []) (in-expr true i k.1)
        (in-push (expr_code e) (instr.BSet p) (in-expr true e h.1) (has_buffer shape p k.0))
    in-stmt place (Append p e) right =
        let h = and_parts (is_buffer shape p) (is_right_expr shape true e) right in
        in-push (expr_code e) (instr.BAdd p) (in-expr true e h.1) (has_buffer shape p h.0)
    in-stmt place (Take x p) right =
        (has_buffer shape p (and_parts (is_variable shape x) (is_buffer shape p) right).1, (in-set x, tt))
    in-stmt place (Clear p) right = (has_buffer shape p right, tt)
    in-stmt place (Do f args) right =
        in-push (expr_code (Call f args)) instr.Drop (in-expr true (Call f args) right) tt
    in-stmt place (DoSend f p) right =
        in-push (expr_code (SendBuf f p)) instr.Drop (in-expr true (SendBuf f p) right) tt
    in-stmt place (If e a) right =
        let h = and_parts (is_right_expr shape true e) (is_right_block shape a) right in
        let body = place + expr_size e + 3 in
        in-append (expr_code e) (instr.Jz (body + block_size a) ∷ block_code body a) (in-expr true e h.0) (tt, in-block body a h.1)
    in-stmt place (IfElse e a b) right =
        let h = and_parts (is_right_expr shape true e && is_right_block shape a) (is_right_block shape b) right in
        let k = and_parts (is_right_expr shape true e) (is_right_block shape a) h.0 in
        in-append (expr_code e) _ (in-expr true e k.0)
        (tt, in-append (block_code (place + expr_size e + 3) a) _ (in-block (place + expr_size e + 3) a k.1) (tt, in-block (else_begin place e a) b h.1))
    in-stmt place (For x from to step a) right =
        let h = and_parts (is_head shape x from to step) (is_right_block shape a) right in
        let k = and_parts (is_variable shape x && is_right_expr shape true from && is_right_expr shape false to) (is_step step) h.0 in
        let l = and_parts (is_variable shape x && is_right_expr shape true from) (is_right_expr shape false to) k.0 in
        let m = and_parts (is_variable shape x) (is_right_expr shape true from) l.0 in
        in-append (expr_code from) _ (in-expr true from m.1) (
          in-set x,
          (
            in-get x,
            in-append (expr_code to) _ (in-expr false to l.1) (
              in-within step,
              (
                tt,
                in-append (block_code (for_body place from to) a) _ (in-block (for_body place from to) a h.1)
                    (in-get x, (in-number step, (tt, (in-set x, (tt, tt))))),
              ),
            ),
          ),
        )
    in-stmt place (While e a) right =
        let h = and_parts (is_right_expr shape true e) (is_right_block shape a) right in
        in-append (expr_code e) _ (in-expr true e h.0)
        (tt, in-push (block_code (while_body place e) a) (instr.Back place) (in-block (while_body place e) a h.1) tt)

    in-block : (place : ℕ) (b : Block) → is_right_block shape b ≡ true → AllIn (block_code place b)
    in-block place no_statements right = tt
    in-block place (statement s b) right =
        let h = and_parts (is_right_stmt shape s) (is_right_block shape b) right in
        in-append (stmt_code place s) (block_code (place + stmt_size s) b) (in-stmt place s h.0) (in-block (place + stmt_size s) b h.1)

  in-script : (tree : Block) → IsTrue (is_right shape tree) → AreInTable (table_of shape) (script_code tree)
  in-script tree right =
      let h = and_parts (is_shape shape) (is_right_block shape tree) right in
      All-from_recursion InTable (script_code tree) (in-push (block_code 0 tree) instr.Halt (in-block 0 tree h.1) tt)

-- ---- bytes

bytes_of-sum_by : (is : List Instr) → sum_by size_of is ≡ size_of_instrs is
bytes_of-sum_by [] = refl
bytes_of-sum_by (i ∷ is) = sum_by-cons size_of i is ∙ ap (λ (n : ℕ). size_of i + n) (bytes_of-sum_by is)

pub bytes_of-script_code : (tree : Block) → size_of_instrs (script_code tree) ≡ script_size tree
bytes_of-script_code tree = bytes_of-append (block_code 0 tree) (instr.Halt ∷ []) ∙ ap (λ (n : ℕ). n + 1) (bytes_of-block_code 0 tree)

pub length-script_bytes : (t : Layout) (tree : Block) → length (code_bytes t (script_code tree)) ≡ script_size tree
length-script_bytes t tree = length-code_bytes t (script_code tree) ∙ bytes_of-sum_by (script_code tree) ∙ bytes_of-script_code tree

pub IsEncodable-script_code : (shape : Shape) (tree : Block) → IsTrue (is_right shape tree) → IsEncodable shape tree
IsEncodable-script_code shape tree right =
    record { in_table = in-script shape tree right; size = length-script_bytes (table_of shape) tree }
