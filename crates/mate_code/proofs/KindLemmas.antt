-- A kind's row begins as those of its instructions, and an opcode gives the instruction of its kind.
use Rattle.std.proofs.Common.{◌≡◌, ℕ, zero, suc, ◌+◌, ltb, Bool, true, false, cond, List, [], ◌∷◌, ◌++◌, length, drop, Option, None, Some, Result, Ok, Err, refl, ap, sym, ◌∙◌, rules}
use Rattle.std.specs.List.{slice_get}
use Rattle.mate_code.specs.declared.kind.Kind.{Kind}
use Rattle.mate_code.specs.declared.kind.OperandForm.{OperandForm}
use Rattle.mate_code.specs.declared.row.Opcode.{Opcode}
use Rattle.mate_code.specs.declared.instr.Instr.{Instr}
use Rattle.mate_code.specs.declared.instr.Instr.TheVariants.{Halt, PushW, PushB, GetS, SetS, GetP, SetP, Add, Sub, Mul, Div, Mod, Neg, Not, And, Or, Eq, Ne, Lt, Gt, Le, Ge, Jz, Jmp, Back, Drop, MsgGet, MsgSize, BGet, BSet, BAdd, BTake, BSize, BClear, Fun, FunBuf}
use Rattle.mate_code.specs.declared.decoding.DecodeFault.{DecodeFault}
use Rattle.mate_code.specs.declared.decoding.DecodeFault.TheVariants.{CutShort}
use Rattle.mate_code.specs.Kind.{kind_of, instr_of, kind_row, form_of}
use Rattle.mate_code.specs.Instr.{size_of}
use Rattle.mate_code.specs.Row.{Row, row_of, width_of}
use Rattle.mate_code.specs.Table.{Layout, base_instrs, base_kinds, buffer_instrs, buffer_kinds, function_instr, function_instrs, function_kind, function_kinds, instrs_in, kinds_of, kind_at}
use Rattle.mate_code.specs.Code.{operand_at, instr_made, instr_at, with_kind}

-- what the bytes of an instruction have of its row
abbrev pub written : Row → Opcode × OperandForm
written r = (r.opcode, r.form)

pub row-kind : (i : Instr) → written (kind_row (kind_of i)) ≡ written (row_of i)
row-kind Halt = refl
row-kind _ = refl

pub size_of-kind : (i : Instr) → size_of i ≡ 1 + width_of (form_of (kind_of i))
size_of-kind i = ap (λ (w : Opcode × OperandForm). 1 + width_of w.1) (sym (row-kind i))

-- ---- by its kind

-- what is made of an operand is the instruction of the kind
abbrev Makes : Option (ℕ → Instr) → Option Kind → Type 0
Makes None None = Unit {0}
Makes (Some make) (Some k) = (n : ℕ) → make n ≡ instr_of k n
Makes _ _ = ⊥

abbrev AllMake : List (ℕ → Instr) → List Kind → Type 0
AllMake [] [] = Unit {0}
AllMake (make ∷ more) (k ∷ ks) = ((n : ℕ) → make n ≡ instr_of k n) × AllMake more ks
AllMake _ _ = ⊥

makes_at : (is : List (ℕ → Instr)) (ks : List Kind) (j : ℕ) → AllMake is ks → Makes (slice_get is j) (slice_get ks j)
makes_at [] [] j all = tt
makes_at [] (k ∷ ks) j all = absurd all
makes_at (i ∷ is) [] j all = absurd all
makes_at (i ∷ is) (k ∷ ks) zero all = all.0
makes_at (i ∷ is) (k ∷ ks) (suc j) all = makes_at is ks j all.1

both_make : (is js : List (ℕ → Instr)) (ks ls : List Kind) → AllMake is ks → AllMake js ls → AllMake (is ++ js) (ks ++ ls)
both_make [] js [] ls all more = more
both_make [] js (k ∷ ks) ls all more = absurd all
both_make (i ∷ is) js [] ls all more = absurd all
both_make (i ∷ is) js (k ∷ ks) ls all more = (all.0, both_make is js ks ls all.1 more)

base_make : AllMake base_instrs base_kinds
base_make = search rules

group_make : (buffer : Bool) → AllMake (cond buffer buffer_instrs []) (cond buffer buffer_kinds [])
group_make true = search rules
group_make false = tt

function_makes : (f : ℕ) (send : Bool) (n : ℕ) → function_instr f send n ≡ instr_of (function_kind f send) n
function_makes f false n = refl
function_makes f true n = refl

functions_make : (f : ℕ) (sends : List Bool) → AllMake (function_instrs f sends) (function_kinds f sends)
functions_make f [] = tt
functions_make f (send ∷ sends) = (function_makes f send, functions_make (suc f) sends)

all_make : (t : Layout) → AllMake (instrs_in t) (kinds_of t)
all_make t =
    both_make base_instrs (cond t.buffer buffer_instrs [] ++ function_instrs 0 t.sends) base_kinds (cond t.buffer buffer_kinds [] ++ function_kinds 0 t.sends) base_make
    (both_make (cond t.buffer buffer_instrs []) (function_instrs 0 t.sends) (cond t.buffer buffer_kinds []) (function_kinds 0 t.sends) (group_make t.buffer) (functions_make 0 t.sends))

made_by_kind : (place : ℕ) (o : Option (ℕ → Instr)) (p : Option Kind) (bytes : List ℕ) → Makes o p → instr_made place o bytes ≡ with_kind place p bytes
made_by_kind place None None bytes same = refl
made_by_kind place None (Some k) bytes same = absurd same
made_by_kind place (Some make) None bytes same = absurd same
made_by_kind place (Some make) (Some k) bytes same =
    let form : (row_of (make 0)).form ≡ form_of k = ap (λ (i : Instr). (row_of i).form) (same 0) in
    let in_form : OperandForm → Result (Instr × List ℕ) DecodeFault =
    λ f. cond (ltb (length bytes) (width_of f)) (Err (CutShort place)) (Ok (make (operand_at f bytes), drop (width_of f) bytes)) in
    let of_instr : Instr → Result (Instr × List ℕ) DecodeFault =
    λ i. cond (ltb (length bytes) (width_of (form_of k))) (Err (CutShort place)) (Ok (i, drop (width_of (form_of k)) bytes)) in
    ap in_form form ∙ ap of_instr (same (operand_at (form_of k) bytes))

pub instr_at-kind : (t : Layout) (place opcode : ℕ) (bytes : List ℕ) → instr_at t place opcode bytes ≡ with_kind place (kind_at t opcode) bytes
instr_at-kind t place opcode bytes =
    made_by_kind place (slice_get (instrs_in t) opcode) (kind_at t opcode) bytes (makes_at (instrs_in t) (kinds_of t) opcode (all_make t))
