use Rattle.mate_files.proofs.PenLemmas.{◌⟫◌, Prints-by}
use Rattle.opcode_gen.proofs.lock_line.print_name.Goals as goal

pub returns : goal.returns
returns g c = c.text.ensures ⟫ Prints-by c.as_str.ensures.value c.text-2.ensures
