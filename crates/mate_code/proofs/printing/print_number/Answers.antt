use Rattle.mate_files.proofs.PenLemmas.{◌⟫◌}
use Rattle.mate_code.proofs.printing.print_number.Goals as goal

pub returns : goal.returns
returns g c = c.text.ensures ⟫ c.number.ensures
