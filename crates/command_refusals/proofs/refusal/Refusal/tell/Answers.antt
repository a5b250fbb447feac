use Rattle.mate_files.proofs.PenLemmas.{Puts-finished}
use Rattle.command_refusals.proofs.refusal.Refusal.tell.Goals as goal

pub returns : goal.returns
returns g c = Puts-finished c.new-pen.ensures c.finish.ensures c.print.ensures
