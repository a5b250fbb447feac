-- The texts of two tables and of two capsules.
use Rattle.std.proofs.Common.{◌≡◌, ℕ, List, [], ◌∷◌, map, length, codes, refl, ap, ap₂, ◌∙◌}
use Rattle.std.specs.Fmt.{digits}
use Rattle.std.specs.Prelude.{nat_lt}
use Rattle.hex.specs.Hex.{encode_with}
use Rattle.mate_num.specs.declared.shape.FunShape.{FunShape}
use Rattle.mate_code.specs.Run.{Code}
use Rattle.mate_code.specs.Table.{Layout, kinds_of}
use Rattle.mate_code.specs.declared.instr.Instr.TheVariants.{PushB, Drop, Halt}
use Rattle.vm_shape.specs.Shapes.{fun_shape}
use Rattle.vm_shape.specs.Limits.{Parts}
use Rattle.vm_shape.specs.Whole.{parts_of, builtin_parts}
use Rattle.vm_shape.specs.declared.description.Description.{Description}
use Rattle.vm_shape.specs.declared.function.Function.{Function}
use Rattle.opcode_gen.specs.TableText.{table_rows, table_text}
use Rattle.capsule_codec.specs.Image.{CapsuleParts}
use Rattle.opcode_gen.specs.CapsuleText.{capsule_text}
use Rattle.callers_code.specs.Listings.{base_table, table_with_send, sending}

-- the table depends on the functions, and on whether there are buffers
abbrev rows : List Function → List (List ℕ) → List ℕ
rows fs bs =
    let layout : Layout = record { buffer = nat_lt 0 (length bs); sends = map (λ (f : FunShape). f.send) (map fun_shape fs) } in
    table_rows (map (λ (f : Function). f.name) fs) (kinds_of layout)

pub table_of_builtin : (d : Description) → parts_of d ≡ builtin_parts → table_text d ≡ base_table
unfolding digits encode_with
table_of_builtin d is = ap₂ rows (ap (λ (p : Parts). p.functions) is) (ap (λ (p : Parts). p.buffers) is)

pub table_of_sending : (d : Description) → d.buffers.items ≡ codes "p" ∷ [] → d.functions.items ≡ sending ∷ [] → table_text d ≡ table_with_send
unfolding digits encode_with
table_of_sending d buffers functions = ap₂ rows functions buffers

halt_text : (d : Description) → parts_of d ≡ builtin_parts
    → capsule_text d (record { vm_id = 1; handler = 0; version = 2; code = 0 ∷ [] }) ((0, Halt) ∷ []) ≡ codes "capsule main 2 1\n0 HALT\nlocks\n"
unfolding digits
halt_text d is =
    let handlers = ap (λ (p : Parts). p.handlers) is in
    let shared = ap (λ (p : Parts). p.shared) is in
    let buffers = ap (λ (p : Parts). p.buffers) is in
    let devices = ap (λ (p : Parts). p.devices) is in simp (handlers, shared, buffers, devices) refl

pub text_of_halt : (d : Description) (c : CapsuleParts) (code : Code) → parts_of d ≡ builtin_parts
    → c ≡ record { vm_id = 1; handler = 0; version = 2; code = 0 ∷ [] } → code ≡ (0, Halt) ∷ [] → capsule_text d c code ≡ codes "capsule main 2 1\n0 HALT\nlocks\n"
text_of_halt d c code is c_is code_is = ap₂ (capsule_text d) c_is code_is ∙ halt_text d is

push_text : (d : Description) → parts_of d ≡ builtin_parts
    → capsule_text d (record { vm_id = 1; handler = 0; version = 1; code = 2 ∷ 7 ∷ 25 ∷ 0 ∷ [] }) ((0, PushB 7) ∷ (2, Drop) ∷ (3, Halt) ∷ [])
    ≡ codes "capsule main 1 4\n0 PUSHB 7\n2 DROP\n3 HALT\nlocks\n"
unfolding digits
push_text d is =
    let handlers = ap (λ (p : Parts). p.handlers) is in
    let shared = ap (λ (p : Parts). p.shared) is in
    let buffers = ap (λ (p : Parts). p.buffers) is in
    let devices = ap (λ (p : Parts). p.devices) is in simp (handlers, shared, buffers, devices) refl

pub text_of_push : (d : Description) (c : CapsuleParts) (code : Code) → parts_of d ≡ builtin_parts
    → c ≡ record { vm_id = 1; handler = 0; version = 1; code = 2 ∷ 7 ∷ 25 ∷ 0 ∷ [] } → code ≡ (0, PushB 7) ∷ (2, Drop) ∷ (3, Halt) ∷ []
    → capsule_text d c code ≡ codes "capsule main 1 4\n0 PUSHB 7\n2 DROP\n3 HALT\nlocks\n"
text_of_push d c code is c_is code_is = ap₂ (capsule_text d) c_is code_is ∙ push_text d is
