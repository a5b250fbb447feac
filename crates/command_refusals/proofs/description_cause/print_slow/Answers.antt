use Rattle.mate_files.proofs.PenLemmas.{◌⟫◌}
use Rattle.command_refusals.proofs.description_cause.print_slow.Goals as goal

pub returns : goal.returns
returns g c = c.text.ensures ⟫ c.number.ensures ⟫ c.text-2.ensures ⟫ c.number-2.ensures ⟫ c.text-3.ensures
