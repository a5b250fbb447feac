use Rattle.mate_files.proofs.PenLemmas.{◌⟫◌, Prints-by}
use Rattle.command_refusals.proofs.line_ends.print_numbered_name.Goals as goal

pub returns : goal.returns
returns g c = c.text.ensures ⟫ Prints-by c.as_str.ensures.value c.text-2.ensures ⟫ c.print_numbered.ensures
