use Rattle.mate_files.proofs.PenLemmas.{◌⟫◌}
use Rattle.report_writer.proofs.words.number.Goals as goal

pub returns : goal.returns
returns g c = c.text.ensures ⟫ c.number.ensures
