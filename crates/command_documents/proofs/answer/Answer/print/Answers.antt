use Rattle.std.proofs.Common.{◌∙◌, ap, sym, ℕ, List, codes}
use Rattle.mate_files.proofs.PenLemmas.{Prints-by}
use Rattle.command_refusals.specs.LineEnds.{numbered_name_line}
use Rattle.command_documents.specs.FeedLines.{answer_words}
use Rattle.command_documents.proofs.answer.Answer.print.Goals as goal

pub returns-in-Installed : goal.returns-in-Installed
returns-in-Installed g c =
    Prints-by (ap (λ (name : List ℕ). numbered_name_line (codes "install ") name c.in-Installed.version) c.handler_name.ensures ∙ ap (answer_words c.args.desc.now) (sym c.in-Installed.is))
    c.print_numbered_name.ensures
