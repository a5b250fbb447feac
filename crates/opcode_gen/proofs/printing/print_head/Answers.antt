use Rattle.std.proofs.Common.{◌∙◌, ap, decimal}
use Rattle.mate_files.proofs.PenLemmas.{◌⟫◌, Prints-by}
use Rattle.opcode_gen.proofs.printing.print_head.Goals as goal

pub returns : goal.returns
returns g c =
    c.text.ensures ⟫ Prints-by (c.as_str.ensures.value ∙ c.handler_name.ensures) c.text-2.ensures ⟫ c.text-3.ensures ⟫ c.number.ensures ⟫ c.text-4.ensures
    ⟫ Prints-by (ap decimal c.len.ensures.value) c.number-2.ensures ⟫ c.text-5.ensures
