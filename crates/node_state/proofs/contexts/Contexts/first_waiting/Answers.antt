use Rattle.node_state.proofs.ContextLemmas.{none-more}
use Rattle.node_state.proofs.contexts.Contexts.first_waiting.Goals as goal

pub loop-place-preserved : goal.loop-place-preserved
loop-place-preserved c = none-more c.args.self.now.pending c.loop-place.place c.asked.result c.loop-place.invariant c.asked.ensures c.if-is_some.ensures
