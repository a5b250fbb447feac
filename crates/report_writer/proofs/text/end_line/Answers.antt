use Rattle.mate_files.proofs.PenLemmas.{◌⟫◌, Prints-by}
use Rattle.report_writer.proofs.text.end_line.Goals as goal

pub returns : goal.returns
returns g c = Prints-by c.end_word.ensures c.text.ensures ⟫ c.number.ensures ⟫ c.number-2.ensures ⟫ c.number-3.ensures ⟫ c.text-2.ensures
