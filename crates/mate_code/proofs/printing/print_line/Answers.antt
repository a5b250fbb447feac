use Rattle.std.proofs.Common.{◌∙◌, ap}
use Rattle.mate_files.proofs.PenLemmas.{◌⟫◌, Prints-by}
use Rattle.mate_code.specs.declared.kind.OperandForm.{OperandForm}
use Rattle.mate_code.specs.Kind.{kind_of, form_of, kind_name}
use Rattle.mate_code.specs.Listing.{operand_text}
use Rattle.mate_code.proofs.printing.print_line.Goals as goal

pub returns : goal.returns
returns g c =
    let name = c.name.ensures ∙ ap (kind_name c.args.desc_names.now) c.kind-kind.ensures in
    let form = c.form.ensures ∙ ap form_of c.kind-kind.ensures in
    let operand = ap (λ (f : OperandForm). operand_text f c.operand.result) form ∙ ap (operand_text (form_of (kind_of c.args.instr))) c.operand.ensures.value in
    c.number.ensures ⟫ c.text.ensures ⟫ Prints-by name c.text-2.ensures ⟫ Prints-by operand c.print_operand.ensures ⟫ c.text-3.ensures
