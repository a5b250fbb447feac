use Rattle.command_refusals.proofs.refutation.Refutation.print.Goals as goal

pub returns-in-Line : goal.returns-in-Line
returns-in-Line g c = rw c.in-Line.is c.print_numbered.ensures
