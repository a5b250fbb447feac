use Rattle.mate_files.proofs.PenLemmas.{◌⟫◌}
use Rattle.command_documents.proofs.answer.print_refused.Goals as goal

pub returns : goal.returns
returns g c = c.text.ensures ⟫ c.print.ensures
