use Rattle.mate_files.proofs.PenLemmas.{◌⟫◌}
use Rattle.command_refusals.proofs.cause.bad_expansion.Goals as goal

pub returns : goal.returns
returns g c = c.text.ensures ⟫ c.text-2.ensures ⟫ c.text-3.ensures ⟫ c.print.ensures
