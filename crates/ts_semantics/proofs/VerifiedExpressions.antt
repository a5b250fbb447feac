-- The pass over an expression raises the depth by one, and needs no more than the expression does.
use Rattle.std.proofs.Common.{◌≡◌, ℕ, suc, ◌+◌, ◌≤◌, ℤ, pos, negsuc, List, [], ◌∷◌, ◌++◌, Bool, true, false, Option, None, Some, refl, ap, ◌∙◌, arith}
use Rattle.std.specs.Option.{option_map_or}
use Rattle.std.specs.Prelude.{◌&&◌, ◌==◌, not, nat_lt, if◌then◌else◌, slice_get}
use Rattle.std.proofs.lemmas.Bool.{and_parts, eqb-true}
use Rattle.mate_num.specs.declared.id.BufId.{BufId}
use Rattle.mate_num.specs.declared.id.FunId.{FunId}
use Rattle.mate_num.specs.declared.shape.Shape.{Shape}
use Rattle.mate_num.specs.declared.shape.FunShape.{FunShape}
use Rattle.mate_code.specs.declared.instr.Instr.{Instr}
use Rattle.mate_code.specs.declared.instr.Instr.TheVariants as instr
use Rattle.mate_code.specs.Flow.{flow_of, pops_of, pushes_of, is_in_range}
use Rattle.mate_code.specs.declared.flow.Flow.TheVariants.{Next}
use Rattle.mate_code.specs.Instr.{size_of}
use Rattle.mate_code.specs.Run.{Code}
use Rattle.mate_code.specs.Verification.{Depth, Marks}
use Rattle.ts_checked.specs.Expression.{Expression, Arguments, no_arguments, argument, Num, Shared, Private, Item, Size, MsgItem, MsgSize, Call, SendBuf, Neg, Not, Two}
use Rattle.ts_checked.specs.Right.{is_buffer, takes, sends, is_call, is_send_of, is_right_expr, are_right, argument_count}
use Rattle.ts_checked.specs.declared.bin_op.BinOp.{BinOp}
use Rattle.ts_checked.specs.declared.bin_op.BinOp.TheVariants as op
use Rattle.ts_semantics.specs.Translation.{size_of_instrs, number_code, operator_code, expr_code, args_code, expr_need, args_need, expr_size}
use Rattle.ts_semantics.proofs.PlaceLemmas.{bytes_of-append, size_of-operator_code}
use Rattle.ts_semantics.proofs.VerifiedPass.{Over, AreBlank, over_nothing, over_one, over_then, over_to, over_push, blank_less, blank_later, blank_takes}

-- an instruction takes so many values and leaves so many, names nothing that isn't there, and goes on at the next place
pub record IsPlain (shape : Shape) (i : Instr) (pops pushes : ℕ) : Type 0 where
  pub next : flow_of i ≡ Next
  pub in_range : is_in_range shape i ≡ true
  pub pops_are : pops_of shape i ≡ pops
  pub pushes_are : pushes_of i ≡ pushes

-- it is passed at a place of a depth with its operands
pub plain_one : {shape : Shape} {code : Code} {marks : Marks} {place limit : ℕ} {i : Instr} (pops pushes below : ℕ) → IsPlain shape i pops pushes
    → marks place ≡ Depth (below + pops) → below + pushes ≤ 16 → AreBlank marks place limit → place + size_of i ≤ limit
    → Over shape code marks (i ∷ []) place (place + size_of i) (below + pushes)
plain_one {shape} {code} {marks} {place} {limit} {i} pops pushes below plain here room blank le =
    let p = plain.pops_are in
    let q = plain.pushes_are in
    over_one (below + pushes) plain.next plain.in_range here (omega arith) (omega arith) room (blank_takes (below + pushes) (place + size_of i) blank (omega arith) le)

-- and behind others
pub plain_push : {shape : Shape} {code : Code} {marks : Marks} {is : List Instr} {place mid limit : ℕ} {i : Instr} (pops pushes below : ℕ) → IsPlain shape i pops pushes
    → place ≤ mid → Over shape code marks is place mid (below + pops) → below + pushes ≤ 16 → AreBlank marks place limit → mid + size_of i ≤ limit
    → Over shape code marks (is ++ i ∷ []) place (mid + size_of i) (below + pushes)
plain_push {shape} {code} {marks} {is} {place} {mid} {limit} {i} pops pushes below plain le o room blank fits =
    let p = plain.pops_are in
    let q = plain.pushes_are in
    over_push i (below + pushes) le o plain.next plain.in_range (omega arith) (omega arith) room (blank_takes (below + pushes) (mid + size_of i) blank (omega arith) fits)

-- ---- the instructions of expressions

pub number_is_plain : (shape : Shape) (n : ℤ) → IsPlain shape (number_code n) 0 1
number_is_plain shape (pos n) = by (nat_lt n 256) where
  by : (b : Bool) → IsPlain shape (if b then instr.PushB n else instr.PushW (pos n)) 0 1
  by true = record { next = refl; in_range = refl; pops_are = refl; pushes_are = refl }
  by false = record { next = refl; in_range = refl; pops_are = refl; pushes_are = refl }
number_is_plain shape (negsuc n) = record { next = refl; in_range = refl; pops_are = refl; pushes_are = refl }

operator_is_plain : (shape : Shape) (o : BinOp) → IsPlain shape (operator_code o) 2 1
operator_is_plain shape op.Or = record { next = refl; in_range = refl; pops_are = refl; pushes_are = refl }
operator_is_plain shape _ = record { next = refl; in_range = refl; pops_are = refl; pushes_are = refl }

takes-args : (o : Option FunShape) (count : ℕ) → takes o count ≡ true → option_map_or (λ (f : FunShape). f.args) o 0 ≡ count
takes-args None count e = absurd cc
takes-args (Some f) count e = eqb-true f.args count (and_parts (not f.send) (f.args == count) e).1

call_is_plain : (shape : Shape) (f : FunId) (count : ℕ) → is_call shape f count ≡ true → IsPlain shape (instr.Fun f) count 1
call_is_plain shape f count e =
    record { next = refl; in_range = refl; pops_are = takes-args (slice_get shape.functions.items f.0) count e; pushes_are = refl }

send_is_plain : (shape : Shape) (f : FunId) (p : BufId) → is_send_of shape f p ≡ true → IsPlain shape (instr.FunBuf f p) 0 1
send_is_plain shape f p e =
    record { next = refl; in_range = (and_parts (sends (slice_get shape.functions.items f.0)) (is_buffer shape p) e).1; pops_are = refl; pushes_are = refl }

-- an expression needs room for its value
pub need_is_some : (e : Expression) → 1 ≤ expr_need e
need_is_some (Item p e) = need_is_some e
need_is_some (MsgItem e) = need_is_some e
need_is_some (Neg e) = need_is_some e
need_is_some (Not e) = need_is_some e
need_is_some (Two o l r) = let h = need_is_some l in omega arith
need_is_some _ = omega arith

-- ---- expressions

module _ (shape : Shape) (code : Code) where
  -- an expression that is one instruction
  leaf : {marks : Marks} (place depth : ℕ) {i : Instr} → IsPlain shape i 0 1 → depth + 1 ≤ 16 → marks place ≡ Depth depth
      → AreBlank marks place (place + (size_of i + 0)) → Over shape code marks (i ∷ []) place (place + (size_of i + 0)) (suc depth)
  leaf {marks} place depth {i} plain room here blank =
      let e : depth ≡ depth + 0 = omega arith in
      over_to (omega arith) (omega arith) (plain_one 0 1 depth plain (here ∙ ap Depth e) room blank (omega arith))

  -- one with an instruction behind its part
  unary : {marks : Marks} (place depth : ℕ) {is : List Instr} {i : Instr} → IsPlain shape i 1 1 → depth + 1 ≤ 16
      → Over shape code marks is place (place + size_of_instrs is) (suc depth)
      → AreBlank marks place (place + size_of_instrs (is ++ i ∷ [])) → Over shape code marks (is ++ i ∷ []) place (place + size_of_instrs (is ++ i ∷ [])) (suc depth)
  unary {marks} place depth {is} {i} plain room o blank =
      let size : size_of_instrs (is ++ i ∷ []) ≡ size_of_instrs is + (size_of i + 0) = bytes_of-append is (i ∷ []) in
      over_to (omega arith) (omega arith) (plain_push 1 1 depth plain (omega arith) (over_to refl (omega arith) o) room blank (omega arith))

  -- the part before it has less room to be blank
  blank_part : {marks : Marks} (place : ℕ) (is js : List Instr) → AreBlank marks place (place + size_of_instrs (is ++ js)) → AreBlank marks place (place + size_of_instrs is)
  blank_part place is js blank = let size = bytes_of-append is js in blank_less (place + size_of_instrs is) (omega arith) blank

  mutual
    pub over_expr : (calls : Bool) (e : Expression) {marks : Marks} (place depth : ℕ) → is_right_expr shape calls e ≡ true → depth + expr_need e ≤ 16
        → marks place ≡ Depth depth → AreBlank marks place (place + expr_size e) → Over shape code marks (expr_code e) place (place + expr_size e) (suc depth)
    over_expr calls (Num n) place depth right room here blank = leaf place depth (number_is_plain shape n) room here blank
    over_expr calls (Shared v) place depth right room here blank =
        leaf place depth record { next = refl; in_range = right; pops_are = refl; pushes_are = refl } room here blank
    over_expr calls (Private i) place depth right room here blank =
        leaf place depth record { next = refl; in_range = right; pops_are = refl; pushes_are = refl } room here blank
    over_expr calls (Item p e) place depth right room here blank =
        let h = and_parts (is_buffer shape p) (is_right_expr shape calls e) right in
        let n = need_is_some e in
        unary place depth record { next = refl; in_range = h.0; pops_are = refl; pushes_are = refl } (omega arith)
        (over_expr calls e place depth h.1 room here (blank_part place (expr_code e) (instr.BGet p ∷ []) blank)) blank
    over_expr calls (Size p) place depth right room here blank =
        leaf place depth record { next = refl; in_range = right; pops_are = refl; pushes_are = refl } room here blank
    over_expr calls (MsgItem e) place depth right room here blank =
        let n = need_is_some e in
        unary place depth record { next = refl; in_range = refl; pops_are = refl; pushes_are = refl } (omega arith)
        (over_expr calls e place depth right room here (blank_part place (expr_code e) (instr.MsgGet ∷ []) blank)) blank
    over_expr calls MsgSize place depth right room here blank =
        leaf place depth record { next = refl; in_range = refl; pops_are = refl; pushes_are = refl } room here blank
    over_expr calls (Call f args) place depth right room here blank =
        let h = and_parts (calls && is_call shape f (argument_count args)) (are_right shape calls args) right in
        let k = and_parts calls (is_call shape f (argument_count args)) h.0 in
        let count : ℕ = argument_count args in
        let size : size_of_instrs (args_code args ++ instr.Fun f ∷ []) ≡ size_of_instrs (args_code args) + 1 = bytes_of-append (args_code args) (instr.Fun f ∷ []) in
        let e : depth ≡ depth + 0 = omega arith in
        over_to (omega arith) (omega arith)
        (plain_push count 1 depth (call_is_plain shape f count k.1) (omega arith)
        (over_to refl (omega arith) (over_args calls args place depth 0 h.1 (omega arith) (here ∙ ap Depth e) (blank_part place (args_code args) (instr.Fun f ∷ []) blank)))
        (omega arith) blank (omega arith))
    over_expr calls (SendBuf f p) place depth right room here blank =
        leaf place depth (send_is_plain shape f p (and_parts calls (is_send_of shape f p) right).1) room here blank
    over_expr calls (Neg e) place depth right room here blank =
        let n = need_is_some e in
        unary place depth record { next = refl; in_range = refl; pops_are = refl; pushes_are = refl } (omega arith)
        (over_expr calls e place depth right room here (blank_part place (expr_code e) (instr.Neg ∷ []) blank)) blank
    over_expr calls (Not e) place depth right room here blank =
        let n = need_is_some e in
        unary place depth record { next = refl; in_range = refl; pops_are = refl; pushes_are = refl } (omega arith)
        (over_expr calls e place depth right room here (blank_part place (expr_code e) (instr.Not ∷ []) blank)) blank
    over_expr calls (Two o l r) {marks} place depth right room here blank =
        let h = and_parts (is_right_expr shape calls l) (is_right_expr shape calls r) right in
        let mid : ℕ = place + expr_size l in
        let size = bytes_of-append (expr_code l) (expr_code r ++ operator_code o ∷ []) in
        let size' = bytes_of-append (expr_code r) (operator_code o ∷ []) in
        let one = size_of-operator_code o in
        let n = need_is_some l in
        let first = over_expr calls l place depth h.0 (omega arith) here (blank_less mid (omega arith) blank) in
        let blank' = blank_later (omega arith) first blank in
        let second = over_expr calls r mid (suc depth) h.1 (omega arith) first.here (blank_less (mid + expr_size r) (omega arith) blank') in
        over_to (omega arith) (omega arith)
        (over_then (omega arith) (omega arith) first
        (plain_push 2 1 depth (operator_is_plain shape o) (omega arith) (over_to refl (omega arith) second) (omega arith) blank' (omega arith)))

    pub over_args : (calls : Bool) (es : Arguments) {marks : Marks} (place base below : ℕ) → are_right shape calls es ≡ true → base + args_need below es ≤ 16
        → marks place ≡ Depth (base + below) → AreBlank marks place (place + size_of_instrs (args_code es))
        → Over shape code marks (args_code es) place (place + size_of_instrs (args_code es)) (base + below + argument_count es)
    over_args calls no_arguments place base below right room here blank = over_to (omega arith) (omega arith) (over_nothing here)
    over_args calls (argument e es) {marks} place base below right room here blank =
        let h = and_parts (is_right_expr shape calls e) (are_right shape calls es) right in
        let mid : ℕ = place + expr_size e in
        let size = bytes_of-append (expr_code e) (args_code es) in
        let first = over_expr calls e place (base + below) h.0 (omega arith) here (blank_less mid (omega arith) blank) in
        let blank' = blank_later (omega arith) first blank in
        let d : suc (base + below) ≡ base + suc below = omega arith in
        let second = over_args calls es mid base (suc below) h.1 (omega arith) (first.here ∙ ap Depth d) (blank_less (mid + size_of_instrs (args_code es)) (omega arith) blank') in
        over_to (omega arith) (omega arith) (over_then (omega arith) (omega arith) first second)
