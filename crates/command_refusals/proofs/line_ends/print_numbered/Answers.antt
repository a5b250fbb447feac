use Rattle.mate_files.proofs.PenLemmas.{◌⟫◌}
use Rattle.command_refusals.proofs.line_ends.print_numbered.Goals as goal

pub returns : goal.returns
returns g c = c.text.ensures ⟫ c.number.ensures ⟫ c.text-2.ensures
