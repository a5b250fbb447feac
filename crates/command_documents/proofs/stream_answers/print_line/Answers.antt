use Rattle.mate_files.proofs.PenLemmas.{◌⟫◌}
use Rattle.command_documents.proofs.stream_answers.print_line.Goals as goal

pub returns : goal.returns
returns g c = c.number.ensures ⟫ c.text.ensures ⟫ c.print.ensures
