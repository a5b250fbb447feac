-- The ready context is taken out of the ring, and put back last, unless it is the only one.
use Rattle.std.proofs.Common.{arith}
use Rattle.node_state.proofs.ContextLemmas.{GivesWay-from, GivesWay-only}
use Rattle.node_state.proofs.contexts.Contexts.give_way.Goals as goal

pub returns-then-len-gt1 : goal.returns-then-len-gt1
returns-then-len-gt1 c = GivesWay-from c.args.self.now c.remove.new.self c.ready.new.self c.args.last c.remove.ensures.rest c.remove.ensures.held c.ready.ensures.last c.ready.ensures.held c.requires.ready

pub returns-else-len-gt1 : goal.returns-else-len-gt1
returns-else-len-gt1 c =
    let count = c.len.ensures.count in
    let few = c.if-len-gt1.false in
    GivesWay-only c.args.self.now c.args.last (omega (arith, count, few)) c.requires.ready
