use Rattle.std.proofs.Common.{ap, sym}
use Rattle.mate_files.proofs.PenLemmas.{Prints-by}
use Rattle.command_refusals.specs.ExpansionCauses.{expansion_words}
use Rattle.command_refusals.proofs.expansion_cause.ExpansionCause.print.Goals as goal

pub returns-in-NoProc : goal.returns-in-NoProc
returns-in-NoProc g c = Prints-by (ap expansion_words (sym c.in-NoProc.is)) c.print_numbered_name.ensures

pub returns-in-Again : goal.returns-in-Again
returns-in-Again g c = Prints-by (ap expansion_words (sym c.in-Again.is)) c.print_numbered_name-in-Again.ensures
