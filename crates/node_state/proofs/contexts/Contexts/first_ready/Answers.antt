-- The ring's contexts are those of the node.
use Rattle.node_state.proofs.ContextLemmas.{first-small}
use Rattle.node_state.proofs.contexts.Contexts.first_ready.Goals as goal

pub returns-clause-small : goal.returns-clause-small
returns-clause-small c = first-small c.args.self.now.ring c.first.result c.len-len.ensures.contexts c.first.ensures
