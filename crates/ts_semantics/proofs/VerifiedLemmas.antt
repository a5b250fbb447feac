-- The code of a script that is right for a machine, and that needs a stack of at most 16 values, is verified.
use Rattle.std.proofs.Common.{◌≡◌, ℕ, ◌+◌, ◌<◌, ◌≤◌, ℤ, pos, negsuc, List, [], ◌∷◌, ◌++◌, Bool, true, false, Result, Ok, Err, refl, ap, sym, ◌∙◌, subst, arith, append_assoc}
use Rattle.mate_code.specs.declared.fault.VerifyFault.TheVariants.{NoHalt}
use Rattle.mate_num.specs.Results.{◌>>=◌}
use Rattle.std.specs.Prelude.{◌&&◌, ◌==◌, if◌then◌else◌, IsTrue}
use Rattle.std.proofs.lemmas.Bool.{and_parts, ne_eqb}
use Rattle.mate_num.specs.declared.shape.Shape.{Shape}
use Rattle.mate_code.specs.declared.instr.Instr.{Instr}
use Rattle.mate_code.specs.declared.instr.Instr.TheVariants as instr
use Rattle.mate_code.specs.Code.{placed}
use Rattle.mate_code.specs.Instr.{size_of}
use Rattle.mate_code.specs.Run.{Code}
use Rattle.mate_code.specs.declared.fault.VerifyFault.{VerifyFault}
use Rattle.mate_code.specs.Verification.{DepthMark, Blank, Depth, Marks, first_marks, is_start, pass, halts}
use Rattle.mate_code.proofs.BytesVerificationLemmas.{placed-AreFrom}
use Rattle.ts_checked.specs.Expression.{Expression, Call, SendBuf}
use Rattle.ts_checked.specs.Statement.{Statement, Block, no_statements, statement, Set, SetItem, Append, Take, Clear, Do, DoSend, If, IfElse, For, While}
use Rattle.mate_num.specs.Shapes.{is_shape}
use Rattle.ts_checked.specs.Right.{is_buffer, is_variable, is_right_expr, is_step, is_head, is_right_stmt, is_right_block, is_right}
use Rattle.ts_checked.specs.declared.checked_stmt.CVar.{CVar}
use Rattle.ts_checked.specs.declared.checked_stmt.CVar.TheVariants as variable
use Rattle.ts_semantics.specs.Laws.{IsVerifiedScript}
use Rattle.ts_semantics.specs.Translation.{number_code, get_code, set_code, expr_code, expr_need, expr_size, stmt_size, block_size, within_code, for_test, step_code, stmt_code, block_code, stmt_need, block_need, script_code, script_need, code_of}
use Rattle.ts_semantics.proofs.PlaceLemmas.{bytes_of-append, size_of-set_code, size_of-get_code, size_of-within_code, bytes_of-stmt_code, bytes_of-block_code}
use Rattle.ts_semantics.proofs.VerifiedPass.{Takes, takes-same, Passes, passes_step, Over, AreBlank, over_nothing, over_one, over_then, over_to, over_push, blank_less, blank_later}
use Rattle.ts_semantics.proofs.VerifiedExpressions.{IsPlain, plain_one, number_is_plain, over_expr, need_is_some}
use Rattle.ts_semantics.proofs.VerifiedStatements.{Stands, stands_here, stands_later, stands_front, IsReady, ready_takes, ready_blank, over_if, over_if_else, over_loop}

-- ---- the instructions of statements

set_is_plain : (shape : Shape) (x : CVar) → is_variable shape x ≡ true → IsPlain shape (set_code x) 1 0
set_is_plain shape (variable.Shared v) e = record { next = refl; in_range = e; pops_are = refl; pushes_are = refl }
set_is_plain shape (variable.Private i) e = record { next = refl; in_range = e; pops_are = refl; pushes_are = refl }

get_is_plain : (shape : Shape) (x : CVar) → is_variable shape x ≡ true → IsPlain shape (get_code x) 0 1
get_is_plain shape (variable.Shared v) e = record { next = refl; in_range = e; pops_are = refl; pushes_are = refl }
get_is_plain shape (variable.Private i) e = record { next = refl; in_range = e; pops_are = refl; pushes_are = refl }

within_is_plain : (shape : Shape) (step : ℤ) → IsPlain shape (within_code step) 2 1
within_is_plain shape (pos step) = record { next = refl; in_range = refl; pops_are = refl; pushes_are = refl }
within_is_plain shape (negsuc step) = record { next = refl; in_range = refl; pops_are = refl; pushes_are = refl }

-- the last instruction of a statement takes what is on the stack
plain_last : {shape : Shape} {code : Code} {marks : Marks} {is : List Instr} {place mid : ℕ} {i : Instr} (pops : ℕ) → IsPlain shape i pops 0
    → place ≤ mid → Over shape code marks is place mid pops → Takes 0 (marks (mid + size_of i))
    → Over shape code marks (is ++ i ∷ []) place (mid + size_of i) 0
plain_last {shape} {code} {marks} {is} {place} {mid} {i} pops plain le o takes =
    let p = plain.pops_are in
    let q = plain.pushes_are in
    over_push i 0 le o plain.next plain.in_range (omega arith) (omega arith) (omega arith) takes

over_list : {shape : Shape} {code : Code} {marks : Marks} {is js : List Instr} {place next depth : ℕ} → is ≡ js → Over shape code marks is place next depth → Over shape code marks js place next depth
over_list {shape} {code} {marks} {is} {js} {place} {next} {depth} e o = let P : List Instr → Type 0 = λ xs. Over shape code marks xs place next depth in subst P e o

ready_end : {marks : Marks} {place end end' : ℕ} → end ≡ end' → IsReady marks place end → IsReady marks place end'
ready_end {marks} {place} {end} {end'} e r = let P : ℕ → Type 0 = λ k. IsReady marks place k in subst P e r

-- ---- sizes

stmt_is_some : (x : Statement) → 0 < stmt_size x
stmt_is_some (Set x e) = omega arith
stmt_is_some _ = omega arith

-- a block's first instruction, or what stands behind it, starts at its place
block_start : {code : Code} (place : ℕ) (b : Block) → Stands code place (block_code place b) → is_start code (place + block_size b) ≡ true → is_start code place ≡ true
block_start {code} place no_statements s behind = let e : place + 0 ≡ place = omega arith in let P : ℕ → Type 0 = λ k. is_start code k ≡ true in subst P e behind
block_start {code} place (statement x b) s behind =
    let size = bytes_of-append (stmt_code place x) (block_code (place + stmt_size x) b) in
    let size' = bytes_of-stmt_code place x in
    let some = stmt_is_some x in
    stands_here (block_code place (statement x b)) s (omega arith)

-- the step of a `for`
step_over : (shape : Shape) (code : Code) (x : CVar) (step : ℤ) (place : ℕ) → is_variable shape x ≡ true → (marks : Marks) → marks place ≡ Depth 0
    → AreBlank marks place (place + 2 + size_of (number_code step) + 1 + 2 + 2) → Over shape code marks (step_code x step) place (place + 2 + size_of (number_code step) + 1 + 2) 0
step_over shape code x step place right marks here blank =
    let n : ℕ = size_of (number_code step) in
    let g = size_of-get_code x in
    let s = size_of-set_code x in
    let limit : ℕ = place + 2 + n + 1 + 2 + 2 in
    let o1 : Over shape code marks (get_code x ∷ []) place (place + 2) 1 = over_to (omega arith) refl (plain_one 0 1 0 (get_is_plain shape x right) here (omega arith) blank (omega arith)) in
    let b1 = blank_later (omega arith) o1 blank in
    let o2 : Over shape code o1.after (number_code step ∷ []) (place + 2) (place + 2 + n) 2 = plain_one 0 1 1 (number_is_plain shape step) o1.here (omega arith) b1 (omega arith) in
    let b2 = blank_later (omega arith) o2 b1 in
    let o3 : Over shape code o2.after (instr.Add ∷ []) (place + 2 + n) (place + 2 + n + 1) 1 = plain_one 2 1 0 record { next = refl; in_range = refl; pops_are = refl; pushes_are = refl } o2.here (omega arith) b2 (omega arith) in
    let b3 = blank_later (omega arith) o3 b2 in
    let o4 : Over shape code o3.after (set_code x ∷ []) (place + 2 + n + 1) (place + 2 + n + 1 + 2) 0 = over_to (omega arith) refl (plain_one 1 0 0 (set_is_plain shape x right) o3.here (omega arith) b3 (omega arith)) in
    over_then (omega arith) (omega arith) o1 (over_then (omega arith) (omega arith) o2 (over_then (omega arith) (omega arith) o3 o4))

-- the first value and the test of a `for`
abbrev head_code : CVar → Expression → Expression → ℤ → List Instr
head_code x from to step = expr_code from ++ set_code x ∷ get_code x ∷ (expr_code to ++ within_code step ∷ [])

head_over : (shape : Shape) (code : Code) (x : CVar) (from to : Expression) (step : ℤ) {marks : Marks} (place : ℕ) → is_variable shape x ≡ true
    → is_right_expr shape true from ≡ true → is_right_expr shape false to ≡ true → expr_need from ≤ 16 → 1 + expr_need to ≤ 16 → marks place ≡ Depth 0
    → AreBlank marks place (for_test place from + 2 + expr_size to + 1)
    → (o : Over shape code marks (head_code x from to step) place (for_test place from + 2 + expr_size to + 1) 1) × (o.after (for_test place from) ≡ Depth 0)
unfolding over_then
head_over shape code x from to step {marks} place right right_from right_to need_from need_to here blank =
    let m1 : ℕ = place + expr_size from in
    let test : ℕ = for_test place from in
    let m4 : ℕ = test + 2 + expr_size to in
    let limit : ℕ = m4 + 1 in
    let s = size_of-set_code x in
    let g = size_of-get_code x in
    let w = size_of-within_code step in
    let n = need_is_some to in
    let o1 : Over shape code marks (expr_code from) place m1 1 = over_expr shape code true from place 0 right_from (omega arith) here (blank_less m1 (omega arith) blank) in
    let b1 = blank_later (omega arith) o1 blank in
    let o2 : Over shape code o1.after (set_code x ∷ []) m1 test 0 = over_to (omega arith) refl (plain_one 1 0 0 (set_is_plain shape x right) o1.here (omega arith) b1 (omega arith)) in
    let b2 = blank_later (omega arith) o2 b1 in
    let o3 : Over shape code o2.after (get_code x ∷ []) test (test + 2) 1 = over_to (omega arith) refl (plain_one 0 1 0 (get_is_plain shape x right) o2.here (omega arith) b2 (omega arith)) in
    let b3 = blank_later (omega arith) o3 b2 in
    let o4 : Over shape code o3.after (expr_code to) (test + 2) m4 2 = over_expr shape code false to (test + 2) 1 right_to need_to o3.here (blank_less m4 (omega arith) b3) in
    let b4 = blank_later (omega arith) o4 b3 in
    let o5 : Over shape code o4.after (within_code step ∷ []) m4 (m4 + 1) 1 = over_to (omega arith) refl (plain_one 2 1 0 (within_is_plain shape step) o4.here (omega arith) b4 (omega arith)) in (
      over_then (omega arith) (omega arith) o1 (over_then (omega arith) (omega arith) o2 (over_then (omega arith) (omega arith) o3 (over_then (omega arith) (omega arith) o4 o5))),
      o5.before test (omega arith) ∙ o4.before test (omega arith) ∙ o3.before test (omega arith) ∙ o2.here,
    )

-- ---- statements and blocks

module _ (shape : Shape) (code : Code) where
  mutual
    over_stmt : (x : Statement) (place : ℕ) (marks : Marks) → is_right_stmt shape x ≡ true → stmt_need x ≤ 16 → Stands code place (stmt_code place x)
        → is_start code (place + stmt_size x) ≡ true → IsReady marks place (place + stmt_size x)
        → Over shape code marks (stmt_code place x) place (place + stmt_size x) 0
    over_stmt (Set x e) place marks right need stands start r =
        let h = and_parts (is_variable shape x) (is_right_expr shape true e) right in
        let mid : ℕ = place + expr_size e in
        let s = size_of-set_code x in
        over_to (omega arith) refl
        (plain_last 1 (set_is_plain shape x h.0) (omega arith) (over_expr shape code true e place 0 h.1 (omega arith) r.here (ready_blank mid (omega arith) r))
        (ready_takes (mid + size_of (set_code x)) r (omega arith) (omega arith)))
    over_stmt (SetItem p i e) place marks right need stands start r =
        let h = and_parts (is_buffer shape p && is_right_expr shape true i) (is_right_expr shape true e) right in
        let k = and_parts (is_buffer shape p) (is_right_expr shape true i) h.0 in
        let m1 : ℕ = place + expr_size i in
        let m2 : ℕ = m1 + expr_size e in
        let o1 = over_expr shape code true i place 0 k.1 (omega arith) r.here (ready_blank m1 (omega arith) r) in
        let o2 = over_expr shape code true e m1 1 h.1 (omega arith) o1.here (blank_later (omega arith) o1 (ready_blank m2 (omega arith) r)) in
        over_to (omega arith) refl
        (over_then (omega arith) (omega arith) o1
        (plain_last 2 record { next = refl; in_range = k.0; pops_are = refl; pushes_are = refl } (omega arith) o2
        (takes-same 0 (o1.beyond (m2 + 2) (omega arith)) (ready_takes (m2 + 2) r (omega arith) (omega arith)))))
    over_stmt (Append p e) place marks right need stands start r =
        let h = and_parts (is_buffer shape p) (is_right_expr shape true e) right in
        let mid : ℕ = place + expr_size e in
        over_to (omega arith) refl
        (plain_last 1 record { next = refl; in_range = h.0; pops_are = refl; pushes_are = refl } (omega arith)
        (over_expr shape code true e place 0 h.1 (omega arith) r.here (ready_blank mid (omega arith) r)) (ready_takes (mid + 2) r (omega arith) (omega arith)))
    over_stmt (Take x p) place marks right need stands start r =
        let h = and_parts (is_variable shape x) (is_buffer shape p) right in
        let s = size_of-set_code x in
        over_to (omega arith) refl
        (plain_last 1 (set_is_plain shape x h.0) (omega arith)
        (plain_one 0 1 0 record { next = refl; in_range = h.1; pops_are = refl; pushes_are = refl } r.here (omega arith) (ready_blank (place + 2) (omega arith) r) (omega arith))
        (ready_takes (place + 2 + size_of (set_code x)) r (omega arith) (omega arith)))
    over_stmt (Clear p) place marks right need stands start r =
        over_one 0 refl right r.here (omega arith) (omega arith) (omega arith) (ready_takes (place + 2) r (omega arith) (omega arith))
    over_stmt (Do f args) place marks right need stands start r =
        let mid : ℕ = place + expr_size (Call f args) in
        over_to (omega arith) refl
        (plain_last 1 record { next = refl; in_range = refl; pops_are = refl; pushes_are = refl } (omega arith)
        (over_expr shape code true (Call f args) place 0 right (omega arith) r.here (ready_blank mid (omega arith) r)) (ready_takes (mid + 1) r (omega arith) (omega arith)))
    over_stmt (DoSend f p) place marks right need stands start r =
        let mid : ℕ = place + expr_size (SendBuf f p) in
        over_to (omega arith) refl
        (plain_last 1 record { next = refl; in_range = refl; pops_are = refl; pushes_are = refl } (omega arith)
        (over_expr shape code true (SendBuf f p) place 0 right (omega arith) r.here (ready_blank mid (omega arith) r)) (ready_takes (mid + 1) r (omega arith) (omega arith)))
    over_stmt (If e a) place marks right need stands start r =
        let h = and_parts (is_right_expr shape true e) (is_right_block shape a) right in
        let mid : ℕ = place + expr_size e in
        let body : ℕ = mid + 3 in
        let end : ℕ = body + block_size a in
        let same : place + stmt_size (If e a) ≡ end = omega arith in
        let P : ℕ → Type 0 = λ k. is_start code k ≡ true in
        let starts : is_start code end ≡ true = subst P same start in
        let at : Stands code mid (instr.Jz end ∷ block_code body a) = stands_later (expr_code e) (instr.Jz end ∷ block_code body a) mid refl stands in
        let at_body : Stands code body (block_code body a) = stands_later (instr.Jz end ∷ []) (block_code body a) body (omega arith) at in
        over_to (sym same) refl
        (over_if (expr_code e) (block_code body a) (omega arith) (omega arith) starts (ready_end same r)
        (over_expr shape code true e place 0 h.0 (omega arith) r.here (ready_blank mid (omega arith) r))
        (λ m ready. over_block a body m h.1 (omega arith) at_body starts ready))
    over_stmt (IfElse e a b) place marks right need stands start r =
        let h = and_parts (is_right_expr shape true e && is_right_block shape a) (is_right_block shape b) right in
        let k = and_parts (is_right_expr shape true e) (is_right_block shape a) h.0 in
        let mid : ℕ = place + expr_size e in
        let body : ℕ = mid + 3 in
        let last : ℕ = body + block_size a in
        let begin : ℕ = last + 3 in
        let end : ℕ = begin + block_size b in
        let same : place + stmt_size (IfElse e a b) ≡ end = omega arith in
        let P : ℕ → Type 0 = λ k. is_start code k ≡ true in
        let starts : is_start code end ≡ true = subst P same start in
        let behind : List Instr = instr.Jmp end ∷ block_code begin b in
        let size = bytes_of-block_code body a in
        let at : Stands code mid (instr.Jz begin ∷ (block_code body a ++ behind)) = stands_later (expr_code e) (instr.Jz begin ∷ (block_code body a ++ behind)) mid refl stands in
        let at_body : Stands code body (block_code body a ++ behind) = stands_later (instr.Jz begin ∷ []) (block_code body a ++ behind) body (omega arith) at in
        let at_last : Stands code last behind = stands_later (block_code body a) behind last (omega arith) at_body in
        let at_begin : Stands code begin (block_code begin b) = stands_later (instr.Jmp end ∷ []) (block_code begin b) begin (omega arith) at_last in
        over_to (sym same) refl
        (over_if_else (expr_code e) (block_code body a) (block_code begin b) (omega arith) (omega arith) (omega arith)
        (block_start begin b at_begin starts) starts (ready_end same r)
        (over_expr shape code true e place 0 k.0 (omega arith) r.here (ready_blank mid (omega arith) r))
        (λ m ready. over_block a body m k.1 (omega arith) (stands_front (block_code body a) behind at_body) (stands_here behind at_last (omega arith)) ready)
        (λ m ready. over_block b begin m h.1 (omega arith) at_begin starts ready))
    over_stmt (For x from to step a) place marks right need stands start r =
        let h = and_parts (is_head shape x from to step) (is_right_block shape a) right in
        let k = and_parts (is_variable shape x && is_right_expr shape true from && is_right_expr shape false to) (is_step step) h.0 in
        let l = and_parts (is_variable shape x && is_right_expr shape true from) (is_right_expr shape false to) k.0 in
        let v = and_parts (is_variable shape x) (is_right_expr shape true from) l.0 in
        let test : ℕ = for_test place from in
        let m4 : ℕ = test + 2 + expr_size to in
        let mid : ℕ = m4 + 1 in
        let body : ℕ = mid + 3 in
        let last : ℕ = body + block_size a in
        let stepped : ℕ = last + 2 + size_of (number_code step) + 1 + 2 in
        let end : ℕ = stepped + 3 in
        let same : place + stmt_size (For x from to step a) ≡ end = omega arith in
        let P : ℕ → Type 0 = λ k. is_start code k ≡ true in
        let starts : is_start code end ≡ true = subst P same start in
        let tail : List Instr = step_code x step ++ instr.Back test ∷ [] in
        let behind : List Instr = block_code body a ++ tail in
        let jump : List Instr = instr.Jz end ∷ behind in
        let s = size_of-set_code x in
        let g = size_of-get_code x in
        let w = size_of-within_code step in
        let size = bytes_of-block_code body a in
        let at1 : Stands code (place + expr_size from) (set_code x ∷ get_code x ∷ (expr_code to ++ within_code step ∷ jump)) =
        stands_later (expr_code from) (set_code x ∷ get_code x ∷ (expr_code to ++ within_code step ∷ jump)) (place + expr_size from) refl stands in
        let at2 : Stands code test (get_code x ∷ (expr_code to ++ within_code step ∷ jump)) =
        stands_later (set_code x ∷ []) (get_code x ∷ (expr_code to ++ within_code step ∷ jump)) test (omega arith) at1 in
        let at3 : Stands code (test + 2) (expr_code to ++ within_code step ∷ jump) = stands_later (get_code x ∷ []) (expr_code to ++ within_code step ∷ jump) (test + 2) (omega arith) at2 in
        let at4 : Stands code m4 (within_code step ∷ jump) = stands_later (expr_code to) (within_code step ∷ jump) m4 refl at3 in
        let at5 : Stands code body behind = stands_later (within_code step ∷ instr.Jz end ∷ []) behind body (omega arith) at4 in
        let at6 : Stands code last tail = stands_later (block_code body a) tail last (omega arith) at5 in
        let o = head_over shape code x from to step place v.0 v.1 l.1 (omega arith) (omega arith) r.here (ready_blank mid (omega arith) r) in
        let joined : head_code x from to step ++ jump ≡ expr_code from ++ set_code x ∷ get_code x ∷ (expr_code to ++ within_code step ∷ jump) =
        append_assoc (expr_code from) (set_code x ∷ get_code x ∷ (expr_code to ++ within_code step ∷ [])) jump
        ∙ ap (λ (xs : List Instr). expr_code from ++ set_code x ∷ get_code x ∷ xs) (append_assoc (expr_code to) (within_code step ∷ []) jump) in
        over_to (sym same) refl
        (over_list joined
        (over_loop (head_code x from to step) (block_code body a) (step_code x step) (omega arith) (omega arith) (omega arith) (omega arith)
        (stands_here (get_code x ∷ (expr_code to ++ within_code step ∷ jump)) at2 (omega arith)) starts (ready_end same r) o.0 o.1
        (λ m ready. over_block a body m h.1 (omega arith) (stands_front (block_code body a) tail at5) (stands_here tail at6 (omega arith)) ready)
        (λ m here blank. step_over shape code x step last v.0 m here blank)))
    over_stmt (While e a) place marks right need stands start r =
        let h = and_parts (is_right_expr shape true e) (is_right_block shape a) right in
        let mid : ℕ = place + expr_size e in
        let body : ℕ = mid + 3 in
        let last : ℕ = body + block_size a in
        let end : ℕ = last + 3 in
        let same : place + stmt_size (While e a) ≡ end = omega arith in
        let P : ℕ → Type 0 = λ k. is_start code k ≡ true in
        let starts : is_start code end ≡ true = subst P same start in
        let back : List Instr = instr.Back place ∷ [] in
        let size = bytes_of-block_code body a in
        let whole = bytes_of-stmt_code place (While e a) in
        let at : Stands code mid (instr.Jz end ∷ (block_code body a ++ back)) = stands_later (expr_code e) (instr.Jz end ∷ (block_code body a ++ back)) mid refl stands in
        let at_body : Stands code body (block_code body a ++ back) = stands_later (instr.Jz end ∷ []) (block_code body a ++ back) body (omega arith) at in
        let at_last : Stands code last back = stands_later (block_code body a) back last (omega arith) at_body in
        let o = over_expr shape code true e place 0 h.0 (omega arith) r.here (ready_blank mid (omega arith) r) in
        over_to (sym same) refl
        (over_loop (expr_code e) (block_code body a) [] (omega arith) (omega arith) (omega arith) (omega arith)
        (stands_here (stmt_code place (While e a)) stands (omega arith)) starts (ready_end same r) o (o.before place (omega arith) ∙ r.here)
        (λ m ready. over_block a body m h.1 (omega arith) (stands_front (block_code body a) back at_body) (stands_here back at_last (omega arith)) ready)
        (λ m here blank. over_nothing here))

    over_block : (b : Block) (place : ℕ) (marks : Marks) → is_right_block shape b ≡ true → block_need b ≤ 16 → Stands code place (block_code place b)
        → is_start code (place + block_size b) ≡ true → IsReady marks place (place + block_size b)
        → Over shape code marks (block_code place b) place (place + block_size b) 0
    over_block no_statements place marks right need stands start r = over_to (omega arith) refl (over_nothing r.here)
    over_block (statement x b) place marks right need stands start r =
        let h = and_parts (is_right_stmt shape x) (is_right_block shape b) right in
        let next : ℕ = place + stmt_size x in
        let end : ℕ = next + block_size b in
        let same : place + block_size (statement x b) ≡ end = omega arith in
        let P : ℕ → Type 0 = λ k. is_start code k ≡ true in
        let starts : is_start code end ≡ true = subst P same start in
        let size = bytes_of-stmt_code place x in
        let some = stmt_is_some x in
        let at : Stands code next (block_code next b) = stands_later (stmt_code place x) (block_code next b) next (omega arith) stands in
        let ready : IsReady marks place next = record {
          here = r.here;
          blank = λ q lt lt'. r.blank q lt (omega arith);
          free = λ lt. ready_takes next r lt (omega arith);
        } in
        let o = over_stmt x place marks h.0 (omega arith) (stands_front (stmt_code place x) (block_code next b) stands) (block_start next b at starts) ready in
        let r' = ready_end same r in
        let ready' : IsReady o.after next end = record {
          here = o.here;
          blank = λ q lt lt'. o.beyond q lt ∙ r'.blank q (omega arith) lt';
          free = λ lt. takes-same 0 (o.beyond end lt) (r'.free (omega arith));
        } in
        over_to (sym same) refl (over_then (omega arith) (omega arith) o (over_block b next o.after h.1 (omega arith) at starts ready'))

-- ---- the whole code

halts-last : (place : ℕ) (is : List Instr) → halts (placed place (is ++ instr.Halt ∷ [])) ≡ true
halts-last place [] = refl
halts-last place (i ∷ []) = refl
halts-last place (i ∷ j ∷ is) = halts-last (place + size_of i) (j ∷ is)

first_ready : (end : ℕ) → IsReady first_marks 0 end
first_ready end = record { here = refl; blank = λ q lt lt'. blank_there q lt; free = λ lt. free_there lt } where
  blank_there : (q : ℕ) → 0 < q → first_marks q ≡ Blank
  blank_there q lt = let other : (q == 0) ≡ false = ne_eqb q 0 (λ e. absurd (omega arith)) in rw other refl

  free_there : 0 < end → Takes 0 (first_marks end)
  free_there lt = let P : DepthMark → Type 0 = λ m. Takes 0 m in subst P (sym (blank_there end lt)) tt

-- the marks of a right script's code
record PassesAll (shape : Shape) (tree : Block) : Type 0 where
  marks : Marks
  passed : pass shape (code_of tree) first_marks (code_of tree) ≡ Ok marks

passes_all : (shape : Shape) (tree : Block) → IsTrue (is_right shape tree) → script_need tree ≤ 16 → PassesAll shape tree
unfolding pass
passes_all shape tree right need =
    let h = and_parts (is_shape shape) (is_right_block shape tree) right in
    let code : Code = code_of tree in
    let end : ℕ = 0 + block_size tree in
    let body : List Instr = block_code 0 tree in
    let size = bytes_of-block_code 0 tree in
    let stands : Stands code 0 (body ++ instr.Halt ∷ []) = record { starts = λ q e. e } in
    let at_end : Stands code end (instr.Halt ∷ []) = stands_later body (instr.Halt ∷ []) end (omega arith) stands in
    let o = over_block shape code tree 0 first_marks h.1 need (stands_front body (instr.Halt ∷ []) stands) (stands_here (instr.Halt ∷ []) at_end (omega arith)) (first_ready end) in
    let last : Passes shape code o.after end 0 instr.Halt = record {
      here = o.here;
      in_range = refl;
      target = refl;
      direction = refl;
      operands = omega arith;
      room = omega arith;
      back = refl;
    } in
    record { marks = o.after; passed = o.moves (instr.Halt ∷ []) ∙ passes_step last [] }

pub IsAccepted-script_code : (shape : Shape) (tree : Block) → IsTrue (is_right shape tree) → script_need tree ≤ 16 → IsVerifiedScript shape tree
IsAccepted-script_code shape tree right need =
    let p = passes_all shape tree right need in (
      p.marks,
      record {
        places = placed-AreFrom 0 (script_code tree);
        passed =
            ap (λ (b : Bool). pass shape (code_of tree) first_marks (code_of tree) >>= (λ marks. if b then Ok marks else Err NoHalt)) (halts-last 0 (block_code 0 tree))
            ∙ ap (λ (r : Result Marks VerifyFault). r >>= (λ marks. if true then Ok marks else Err NoHalt)) p.passed;
      },
    )
