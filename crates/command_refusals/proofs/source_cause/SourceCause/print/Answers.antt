use Rattle.std.proofs.Common.{ap, sym}
use Rattle.mate_files.proofs.PenLemmas.{Prints-by}
use Rattle.command_refusals.specs.SourceCauses.{source_words}
use Rattle.command_refusals.proofs.source_cause.SourceCause.print.Goals as goal

pub returns-in-Undeclared : goal.returns-in-Undeclared
returns-in-Undeclared g c = Prints-by (ap source_words (sym c.in-Undeclared.is)) c.print_numbered_name.ensures
