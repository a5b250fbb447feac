-- Whoever is granted its locks waited for them.
use Rattle.node_state.proofs.ContextLemmas.{waited-set, waited-small, Starts-from}
use Rattle.node_state.proofs.contexts.Contexts.grant.Goals as goal

pub ready-requires-clause-absent : goal.ready-requires-clause-absent
ready-requires-clause-absent c =
    let h = c.in_ok-ctx.ensures in
    c.requires.absent c.in_ok-ctx.ctx h.granted.claim.set (waited-set c.args.self.now.locks c.grant.new.self c.in_ok-ctx.ctx h.granted h.contexts)

pub ready-requires-clause-context : goal.ready-requires-clause-context
ready-requires-clause-context c =
    let h = c.in_ok-ctx.ensures in
    waited-small c.args.self.now.locks c.grant.new.self c.in_ok-ctx.ctx h.granted h.contexts

pub returns-clause-small : goal.returns-clause-small
returns-clause-small c =
    let h = c.in_ok-ctx.ensures in
    waited-small c.args.self.now.locks c.grant.new.self c.in_ok-ctx.ctx h.granted h.contexts

pub returns-clause-granted : goal.returns-clause-granted
returns-clause-granted c =
    let h = c.in_ok-ctx.ensures in
    Starts-from c.args.self.now c.grant.new.self c.ready.new.self c.in_ok-ctx.ctx h.granted h.contexts c.ready.ensures.last c.ready.ensures.held
