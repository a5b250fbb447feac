-- How many bytes code takes, and where its parts are.
use Rattle.std.proofs.Common.{◌≡◌, ℕ, ◌+◌, ℤ, pos, negsuc, List, [], ◌∷◌, ◌++◌, refl, ap, ◌∙◌, arith}
use Rattle.mate_code.specs.declared.instr.Instr.{Instr}
use Rattle.mate_code.specs.declared.instr.Instr.TheVariants as instr
use Rattle.mate_code.specs.Code.{placed}
use Rattle.mate_code.specs.Instr.{size_of}
use Rattle.mate_code.specs.Run.{Code}
use Rattle.ts_checked.specs.Expression.{Expression, Call, SendBuf}
use Rattle.ts_checked.specs.Statement.{Statement, Block, no_statements, statement, Set, SetItem, Append, Take, Clear, Do, DoSend, If, IfElse, For, While}
use Rattle.ts_checked.specs.declared.bin_op.BinOp.{BinOp}
use Rattle.ts_checked.specs.declared.bin_op.BinOp.TheVariants as op
use Rattle.ts_checked.specs.declared.checked_stmt.CVar.{CVar}
use Rattle.ts_checked.specs.declared.checked_stmt.CVar.TheVariants as variable
use Rattle.ts_semantics.specs.Translation.{size_of_instrs, number_code, get_code, set_code, operator_code, expr_code, args_code, expr_size, stmt_size, block_size, within_code, while_body, while_end, else_begin, else_end, for_test, for_body, for_end, step_code, stmt_code, block_code}

-- ---- sizes

pub bytes_of-append : (is js : List Instr) → size_of_instrs (is ++ js) ≡ size_of_instrs is + size_of_instrs js
bytes_of-append [] js = omega arith
bytes_of-append (i ∷ is) js = let h = bytes_of-append is js in omega arith

pub size_of-set_code : (x : CVar) → size_of (set_code x) ≡ 2
size_of-set_code (variable.Shared v) = refl
size_of-set_code (variable.Private i) = refl

pub size_of-get_code : (x : CVar) → size_of (get_code x) ≡ 2
size_of-get_code (variable.Shared v) = refl
size_of-get_code (variable.Private i) = refl

pub size_of-within_code : (step : ℤ) → size_of (within_code step) ≡ 1
size_of-within_code (pos step) = refl
size_of-within_code (negsuc step) = refl

pub size_of-operator_code : (o : BinOp) → size_of (operator_code o) ≡ 1
size_of-operator_code op.Or = refl
size_of-operator_code _ = refl

-- an expression, and then instructions
pub bytes_of-then : (e : Expression) (is : List Instr) → size_of_instrs (expr_code e ++ is) ≡ expr_size e + size_of_instrs is
bytes_of-then e is = bytes_of-append (expr_code e) is

mutual
  pub bytes_of-stmt_code : (place : ℕ) (x : Statement) → size_of_instrs (stmt_code place x) ≡ stmt_size x
  bytes_of-stmt_code place (Set x e) =
      let h = bytes_of-then e (set_code x ∷ []) in
      let s = size_of-set_code x in
      omega arith
  bytes_of-stmt_code place (SetItem p i e) =
      let h = bytes_of-then i (expr_code e ++ instr.BSet p ∷ []) in
      let k = bytes_of-then e (instr.BSet p ∷ []) in
      omega arith
  bytes_of-stmt_code place (Append p e) = bytes_of-then e (instr.BAdd p ∷ [])
  bytes_of-stmt_code place (Take x p) = let s = size_of-set_code x in omega arith
  bytes_of-stmt_code place (Clear p) = refl
  bytes_of-stmt_code place (Do f args) = bytes_of-then (Call f args) (instr.Drop ∷ [])
  bytes_of-stmt_code place (DoSend f p) = bytes_of-then (SendBuf f p) (instr.Drop ∷ [])
  bytes_of-stmt_code place (If e a) =
      let body = place + expr_size e + 3 in
      let target = place + expr_size e + 3 + block_size a in
      let h = bytes_of-then e (instr.Jz target ∷ block_code body a) in
      let k = bytes_of-block_code body a in
      omega arith
  bytes_of-stmt_code place (IfElse e a b) =
      let body = place + expr_size e + 3 in
      let other = else_begin place e a in
      let behind = instr.Jmp (else_end place e a b) ∷ block_code other b in
      let h = bytes_of-then e (instr.Jz other ∷ (block_code body a ++ behind)) in
      let k = bytes_of-append (block_code body a) behind in
      let l = bytes_of-block_code body a in
      let m = bytes_of-block_code other b in
      omega arith
  bytes_of-stmt_code place (For x from to step a) =
      let test = for_test place from in
      let body = for_body place from to in
      let back = instr.Back test ∷ [] in
      let behind = block_code body a ++ (step_code x step ++ back) in
      let round = expr_code to ++ within_code step ∷ instr.Jz (for_end place from to step a) ∷ behind in
      let h1 = bytes_of-then from (set_code x ∷ get_code x ∷ round) in
      let h2 = bytes_of-then to (within_code step ∷ instr.Jz (for_end place from to step a) ∷ behind) in
      let h3 = bytes_of-append (block_code body a) (step_code x step ++ back) in
      let h4 = bytes_of-block_code body a in
      let s1 = size_of-set_code x in
      let s2 = size_of-get_code x in
      let s3 = size_of-within_code step in
      omega arith
  bytes_of-stmt_code place (While e a) =
      let body = while_body place e in
      let back = instr.Back place ∷ [] in
      let h = bytes_of-then e (instr.Jz (while_end place e a) ∷ (block_code body a ++ back)) in
      let k = bytes_of-append (block_code body a) back in
      let l = bytes_of-block_code body a in
      omega arith

  pub bytes_of-block_code : (place : ℕ) (b : Block) → size_of_instrs (block_code place b) ≡ block_size b
  bytes_of-block_code place no_statements = refl
  bytes_of-block_code place (statement x b) =
      let next = place + stmt_size x in
      let h = bytes_of-append (stmt_code place x) (block_code next b) in
      let k = bytes_of-stmt_code place x in
      let l = bytes_of-block_code next b in
      omega arith

-- ---- places

pub placed-append : (place : ℕ) (is js : List Instr) → placed place (is ++ js) ≡ placed place is ++ placed (place + size_of_instrs is) js
placed-append place [] js = let e : place ≡ place + 0 = omega arith in ap (λ (p : ℕ). placed p js) e
placed-append place (i ∷ is) js =
    let e : place + size_of i + size_of_instrs is ≡ place + (size_of i + size_of_instrs is) = omega arith in
    ap (λ (code : Code). (place, i) ∷ code) (placed-append (place + size_of i) is js ∙ ap (λ (p : ℕ). placed (place + size_of i) is ++ placed p js) e)
