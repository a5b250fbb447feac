use Rattle.ts_syntax.proofs.PrintLemmas.{◌⋙◌}
use Rattle.ts_syntax.proofs.printer.Printer.assignment.Goals as goal

pub returns : goal.returns
returns g c = c.name.ensures ⋙ c.assigned.ensures
