use Rattle.mate_files.proofs.PenLemmas.{◌⟫◌}
use Rattle.report_writer.proofs.summary.count_line.Goals as goal

pub returns : goal.returns
returns g c = c.text.ensures ⟫ c.number.ensures ⟫ c.text-2.ensures
