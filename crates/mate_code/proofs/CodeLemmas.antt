-- The bytes of instructions: how many they are, what decoding gives of them, and which bytes decode.
use Rattle.std.proofs.Common.{◌≡◌, ℕ, zero, suc, ◌+◌, ◌<◌, ◌≤◌, false, ltb, List, [], ◌∷◌, ◌++◌, length, get_or, take, drop, All, Option, Some, Ok, refl, ap, sym, ◌∙◌, arith, subst}
use Rattle.std.specs.Prelude.{sum_by}
use Rattle.std.specs.List.{AllByRecursion}
use Rattle.std.proofs.lemmas.Bool.{le-ltb}
use Rattle.std.proofs.lemmas.Nat.{from_be_bytes-to_be_bytes_2}
use Rattle.std.proofs.lemmas.List.{length-append, append-nil, take_more}
use Rattle.std.proofs.lemmas.List.Folds.{length-flat_map-take}
use Rattle.std.proofs.lemmas.Grind.{flat_map-append}
use Rattle.std.proofs.lemmas.List.Elements.{recursion_from_All, All-push}
use Rattle.std.proofs.lemmas.List.Concat.{flat_map-cons, length-flat_map}
use Rattle.mate_code.specs.declared.kind.OperandForm.{OperandForm}
use Rattle.mate_code.specs.declared.row.Opcode.{Opcode}
use Rattle.mate_code.specs.declared.kind.OperandForm.TheVariants.{Absent, Byte, Word, SignedWord}
use Rattle.mate_code.specs.declared.kind.Kind.{Kind}
use Rattle.mate_code.specs.declared.instr.Instr.{Instr}
use Rattle.mate_code.specs.Kind.{kind_of, instr_of, form_of}
use Rattle.mate_code.specs.Instr.{operand_of, size_of, FitsForm}
use Rattle.mate_code.specs.Row.{row_of, width_of}
use Rattle.mate_code.specs.Table.{Layout, IsInTable, opcode_in, opcode_of}
use Rattle.mate_code.specs.Code.{operand_bytes, instr_bytes, code_bytes, placed, operand_at, with_kind, instr_at, decoded_from, decoded, IsWritable}
use Rattle.mate_code.proofs.KindLemmas.{row-kind, instr_at-kind}
use Rattle.mate_code.proofs.OpcodeLemmas.{kind_at-opcode_of}

-- ---- lengths

pub length-operand_bytes : (form : OperandForm) (n : ℕ) → length (operand_bytes form n) ≡ width_of form
length-operand_bytes Absent n = refl
length-operand_bytes _ n = refl

pub length-instr_bytes : (t : Layout) (i : Instr) → length (instr_bytes t i) ≡ size_of i
length-instr_bytes t i = ap suc (length-operand_bytes (row_of i).form (operand_of i)) ∙ omega arith

pub length-code_bytes : (t : Layout) (instrs : List Instr) → length (code_bytes t instrs) ≡ sum_by size_of instrs
length-code_bytes t instrs =
    let sizes : (λ (i : Instr). length (instr_bytes t i)) ≡ (λ (i : Instr). size_of i) = λ j. λ i. length-instr_bytes t i j in
    length-flat_map (instr_bytes t) instrs ∙ ap (λ (f : Instr → ℕ). sum_by f instrs) sizes

-- ---- one instruction

operand_at-operand_bytes : (form : OperandForm) (n : ℕ) (rest : List ℕ) → FitsForm form n → operand_at form (operand_bytes form n ++ rest) ≡ n
operand_at-operand_bytes Absent n rest fits = sym fits
operand_at-operand_bytes Byte n rest fits = refl
operand_at-operand_bytes Word n rest fits = from_be_bytes-to_be_bytes_2 n fits
operand_at-operand_bytes SignedWord n rest fits = from_be_bytes-to_be_bytes_2 n fits

drop-operand_bytes : (form : OperandForm) (n : ℕ) (rest : List ℕ) → drop (width_of form) (operand_bytes form n ++ rest) ≡ rest
drop-operand_bytes Absent n rest = refl
drop-operand_bytes _ n rest = refl

with_kind-operand_bytes : (place : ℕ) (k : Kind) (n : ℕ) (rest : List ℕ) → FitsForm (form_of k) n → with_kind place (Some k) (operand_bytes (form_of k) n ++ rest) ≡ Ok (instr_of k n, rest)
with_kind-operand_bytes place k n rest fits =
    let len : length (operand_bytes (form_of k) n) ≡ width_of (form_of k) = length-operand_bytes (form_of k) n in
    let all : length (operand_bytes (form_of k) n ++ rest) ≡ length (operand_bytes (form_of k) n) + length rest = length-append (operand_bytes (form_of k) n) rest in
    let long : ltb (length (operand_bytes (form_of k) n ++ rest)) (width_of (form_of k)) ≡ false = le-ltb _ _ (omega arith) in
    rw (long, operand_at-operand_bytes (form_of k) n rest fits, drop-operand_bytes (form_of k) n rest) refl

by_kind : (t : Layout) (place : ℕ) (i : Instr) (rest : List ℕ) → IsInTable t (kind_of i) → IsWritable i → instr_at t place (opcode_of t (kind_of i)) (operand_bytes (form_of (kind_of i)) (operand_of i) ++ rest) ≡ Ok (i, rest)
by_kind t place i rest in_table writable =
    let bytes : List ℕ = operand_bytes (form_of (kind_of i)) (operand_of i) ++ rest in
    instr_at-kind t place (opcode_of t (kind_of i)) bytes
    ∙ ap (λ (o : Option Kind). with_kind place o bytes) (kind_at-opcode_of t (kind_of i) in_table)
    ∙ with_kind-operand_bytes place (kind_of i) (operand_of i) rest writable.fits
    ∙ ap (λ (x : Instr). Ok (x, rest)) writable.whole

-- an instruction's bytes give it again
instr_at-instr_bytes : (t : Layout) (place : ℕ) (i : Instr) (rest : List ℕ) → IsInTable t (kind_of i) → IsWritable i → instr_at t place (opcode_in t (row_of i).opcode) (operand_bytes (row_of i).form (operand_of i) ++ rest) ≡ Ok (i, rest)
instr_at-instr_bytes t place i rest in_table writable =
    subst (λ (w : Opcode × OperandForm). instr_at t place (opcode_in t w.0) (operand_bytes w.1 (operand_of i) ++ rest) ≡ Ok (i, rest)) (row-kind i) (by_kind t place i rest in_table writable)

-- ---- all instructions

-- instructions are decoded from their bytes, each at its place
pub decoded_from-code_bytes : (t : Layout) (instrs : List Instr) (count place : ℕ) → length instrs ≤ count → AllByRecursion (λ i. IsInTable t (kind_of i)) instrs → AllByRecursion IsWritable instrs → decoded_from count t place (code_bytes t instrs) ≡ Ok (placed place instrs)
unfolding decoded_from
decoded_from-code_bytes t [] count place short in_table writable = refl
decoded_from-code_bytes t (i ∷ instrs) zero place short in_table writable = absurd (omega arith)
decoded_from-code_bytes t (i ∷ instrs) (suc count) place short in_table writable =
    ap (decoded_from (suc count) t place) (flat_map-cons (instr_bytes t) i instrs)
    ∙ rw (instr_at-instr_bytes t place i (code_bytes t instrs) in_table.0 writable.0, decoded_from-code_bytes t instrs count (place + size_of i) (omega arith) in_table.1 writable.1) refl

length-code_bytes-le : (t : Layout) (instrs : List Instr) → length instrs ≤ length (code_bytes t instrs)
length-code_bytes-le t [] = omega arith
length-code_bytes-le t (i ∷ instrs) =
    let all : length (code_bytes t (i ∷ instrs)) ≡ length (instr_bytes t i) + length (code_bytes t instrs) =
    ap length (flat_map-cons (instr_bytes t) i instrs) ∙ length-append (instr_bytes t i) (code_bytes t instrs) in
    let others = length-code_bytes-le t instrs in
    let first : 1 ≤ length (instr_bytes t i) = omega arith in
    omega (arith, all, others, first)

pub decoded-code_bytes : (t : Layout) (instrs : List Instr) → All (λ i. IsInTable t (kind_of i)) instrs → All IsWritable instrs → decoded t (code_bytes t instrs) ≡ Ok (placed 0 instrs)
decoded-code_bytes t instrs in_table writable =
    decoded_from-code_bytes t instrs (length (code_bytes t instrs)) 0 (length-code_bytes-le t instrs) (recursion_from_All (λ i. IsInTable t (kind_of i)) instrs in_table) (recursion_from_All IsWritable instrs writable)

-- ---- one instruction more, as a loop takes them

pub code_bytes-take : (t : Layout) (instrs : List Instr) (i : ℕ) (d : Instr) → i < length instrs → code_bytes t (take (i + 1) instrs) ≡ code_bytes t (take i instrs) ++ instr_bytes t (get_or instrs i d)
code_bytes-take t instrs i d within =
    let x = get_or instrs i d in
    ap (code_bytes t) (take_more instrs i d within)
    ∙ flat_map-append (instr_bytes t) (take i instrs) (x ∷ [])
    ∙ ap (λ (bytes : List ℕ). code_bytes t (take i instrs) ++ bytes) (flat_map-cons (instr_bytes t) x [] ∙ append-nil (instr_bytes t x))

pub IsWritable-take : (instrs : List Instr) (i : ℕ) (d : Instr) → i < length instrs → All IsWritable (take i instrs) → IsWritable (get_or instrs i d) → All IsWritable (take (i + 1) instrs)
IsWritable-take instrs i d within before here =
    subst (λ (xs : List Instr). All IsWritable xs) (sym (take_more instrs i d within)) (All-push IsWritable (take i instrs) (get_or instrs i d) before here)

-- an instruction's bytes have room where all have
pub size_of-room : (t : Layout) (instrs : List Instr) (i : ℕ) (d : Instr) (code : List ℕ) (limit : ℕ) → i < length instrs → code ≡ code_bytes t (take i instrs) → sum_by size_of instrs ≤ limit → length code + size_of (get_or instrs i d) ≤ limit
size_of-room t instrs i d code limit within before total =
    let all = length-flat_map-take (instr_bytes t) instrs i d within in
    let size : length (instr_bytes t (get_or instrs i d)) ≡ size_of (get_or instrs i d) = length-instr_bytes t (get_or instrs i d) in
    let sum : length (code_bytes t instrs) ≡ sum_by size_of instrs = length-code_bytes t instrs in
    let so_far : length code ≡ length (code_bytes t (take i instrs)) = ap length before in
    omega (arith, all, size, sum, so_far)
