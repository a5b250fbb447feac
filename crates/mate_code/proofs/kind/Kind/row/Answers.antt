use Rattle.std.proofs.Common.{◌∙◌, ap, refl, arith}
use Rattle.mate_code.specs.declared.kind.OperandForm.{OperandForm}
use Rattle.mate_code.specs.declared.kind.OperandForm.TheVariants.{Absent, Byte, Word, SignedWord}
use Rattle.mate_code.specs.Instr.{FitsForm}
use Rattle.mate_code.specs.Kind.{form_of}
use Rattle.mate_code.specs.Row.{row_of}
use Rattle.mate_code.proofs.kind.Kind.row.Goals as goal

-- 0 is an operand of each form
zero-fits : (form : OperandForm) → FitsForm form 0
zero-fits Absent = refl
zero-fits Byte = omega arith
zero-fits Word = omega arith
zero-fits SignedWord = omega arith

pub of-requires : goal.of-requires
of-requires c = zero-fits (form_of c.args.self)

pub returns : goal.returns
returns c = c.row.ensures ∙ ap row_of c.of.ensures
