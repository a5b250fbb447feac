use Rattle.mate_files.proofs.PenLemmas.{◌⟫◌, Prints-by}
use Rattle.command_refusals.proofs.script_cause.print_line.Goals as goal

pub returns : goal.returns
returns g c = c.number.ensures ⟫ c.text.ensures ⟫ Prints-by c.words_of.ensures c.text-2.ensures
