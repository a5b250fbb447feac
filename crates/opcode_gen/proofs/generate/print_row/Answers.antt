use Rattle.std.proofs.Common.{◌∙◌, ap, decimal}
use Rattle.mate_files.proofs.PenLemmas.{◌⟫◌, Prints-by}
use Rattle.mate_code.specs.Row.{width_of}
use Rattle.opcode_gen.proofs.generate.print_row.Goals as goal

pub returns : goal.returns
returns g c =
    let width = c.width.ensures ∙ ap width_of c.form.ensures in
    c.hex_byte.ensures ⟫ c.text.ensures ⟫ Prints-by c.name.ensures c.text-2.ensures ⟫ c.text-3.ensures ⟫ Prints-by (ap decimal width) c.number.ensures ⟫ c.text-4.ensures
