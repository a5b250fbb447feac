use Rattle.std.proofs.Common.{◌≡◌, ◌∷◌, ◌++◌, List, ℕ, take, get_or, All, refl, ap, sym, subst, ◌∙◌, arith}
use Rattle.std.proofs.lemmas.List.{take_all}
use Rattle.mate_code.specs.declared.instr.Instr.{Instr}
use Rattle.mate_code.specs.declared.instr.Instr.TheVariants.{Halt}
use Rattle.mate_code.specs.Kind.{kind_of, form_of}
use Rattle.mate_code.specs.Instr.{operand_of}
use Rattle.mate_code.specs.declared.kind.OperandForm.{OperandForm}
use Rattle.mate_code.specs.declared.row.Opcode.{Opcode}
use Rattle.mate_code.specs.Table.{opcode_in, opcode_of}
use Rattle.mate_code.specs.Code.{operand_bytes, instr_bytes, code_bytes, decoded, IsWritable}
use Rattle.mate_code.proofs.KindLemmas.{row-kind}
use Rattle.mate_code.proofs.CodeLemmas.{length-code_bytes, decoded-code_bytes, code_bytes-take, IsWritable-take, size_of-room}
use Rattle.mate_code.proofs.encoding.encode.Goals as goal

pub returns-then-size-clause-too_long : goal.returns-then-size-clause-too_long
returns-then-size-clause-too_long c =
    let size = length-code_bytes c.args.table.now c.args.instrs.now in
    (λ _. omega (arith, size), λ _. refl)

pub returns-then-size-clause-size : goal.returns-then-size-clause-size
returns-then-size-clause-size c = c.total_size-size.ensures ∙ sym (length-code_bytes c.args.table.now c.args.instrs.now)

pub put-requires : goal.put-requires
put-requires c =
    size_of-room c.args.table.now c.args.instrs.now c.loop-instr.instr-index Halt c.loop-instr.code.items 1040 c.loop-instr-test.true c.loop-instr.invariant.bytes (omega arith)

pub loop-instr-preserved : goal.loop-instr-preserved
loop-instr-preserved c =
    let t = c.args.table.now in
    let instrs = c.args.instrs.now in
    let i = get_or instrs c.loop-instr.instr-index Halt in
    let opcode = c.opcode.ensures ∙ ap (opcode_of t) c.kind.ensures in
    record {
      bytes =
          c.put.ensures.bytes
          ∙ ap (λ (n : ℕ). c.loop-instr.code.items ++ n ∷ operand_bytes (form_of (kind_of i)) (operand_of i)) opcode
          ∙ ap (λ (w : Opcode × OperandForm). c.loop-instr.code.items ++ opcode_in t w.0 ∷ operand_bytes w.1 (operand_of i)) (row-kind i)
          ∙ ap (λ (bytes : List ℕ). bytes ++ instr_bytes t i) c.loop-instr.invariant.bytes
          ∙ sym (code_bytes-take t instrs c.loop-instr.instr-index Halt c.loop-instr-test.true);
      writable = IsWritable-take instrs c.loop-instr.instr-index Halt c.loop-instr-test.true c.loop-instr.invariant.writable c.put.ensures.writable;
    }

pub returns-clause-too_long : goal.returns-clause-too_long
returns-clause-too_long c =
    let size = length-code_bytes c.args.table.now c.args.instrs.now in
    (λ no. absurd cc, λ above. absurd (omega (arith, size, above)))

pub returns-clause-again : goal.returns-clause-again
returns-clause-again c =
    let t = c.args.table.now in
    let instrs = c.args.instrs.now in
    let whole : take c.loop-instr.instr-index instrs ≡ instrs = take_all c.loop-instr.instr-index instrs c.loop-instr-test.false in
    ap (decoded t) (c.loop-instr.invariant.bytes ∙ ap (code_bytes t) whole)
    ∙ decoded-code_bytes t instrs c.requires (subst (λ (xs : List Instr). All IsWritable xs) whole c.loop-instr.invariant.writable)
