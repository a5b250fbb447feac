-- The step is told.
use Rattle.node_calls.proofs.SeenLemmas.{RestsAgain-void}
use Rattle.node_calls.proofs.showing.void_in.Goals as goal

pub returns-clause-again : goal.returns-clause-again
returns-clause-again c = RestsAgain-void c.args.description.now c.args.parts.now c.tell.new.log c.args.at c.requires.rests c.requires.timely c.args.cause c.tell.ensures.pushed c.tell.ensures.spare
