use Rattle.mate_files.proofs.PenLemmas.{◌⟫◌}
use Rattle.command_refusals.proofs.refusal.bad_description.Goals as goal

pub returns : goal.returns
returns g c = c.text.ensures ⟫ c.print.ensures
