use Rattle.mate_files.proofs.PenLemmas.{◌⟫◌, Prints-by}
use Rattle.command_refusals.proofs.refutation.print_node.Goals as goal

pub returns : goal.returns
returns g c = c.text.ensures ⟫ c.number.ensures ⟫ c.text-2.ensures ⟫ Prints-by c.word.ensures c.text-3.ensures ⟫ c.text-4.ensures
