-- The invocation is queued, and that is told.
use Rattle.std.proofs.Common.{arith}
use Rattle.node_state.proofs.PostLemmas.{in-machine}
use Rattle.node_calls.proofs.PostingLemmas.{idle-first, IsQueued-made}
use Rattle.node_calls.proofs.posting.queue.Goals as goal

pub overflow_add-parts : goal.overflow_add-parts
overflow_add-parts c = let numbers = c.requires.can.rests.order.keeps.numbers in let few = c.requires.few in omega (arith, numbers, few)

pub post-requires-clause-context : goal.post-requires-clause-context
post-requires-clause-context c = c.requires.can.first.small

pub post-requires-clause-free : goal.post-requires-clause-free
post-requires-clause-free c = idle-first c.args.description.now c.args.parts.now c.args.handler c.args.ctx c.requires.can.rests c.requires.can.first

pub tell-requires-clause-room : goal.tell-requires-clause-room
tell-requires-clause-room c = c.requires.room

pub returns-clause-queued : goal.returns-clause-queued
returns-clause-queued c =
    IsQueued-made c.args.description.now c.args.parts.now c.post.new.self c.tell.new.log c.args.at c.args.handler c.args.ctx c.args.payload.now c.fill.new.copy c.fill-2.new.copy c.args.locks c.new.result c.requires.can c.requires.timely
    c.fill.ensures c.fill-2.ensures c.new.ensures.value c.new.ensures.fits c.post.ensures.becomes c.post.ensures.locks c.post.ensures.ring c.tell.ensures.pushed c.tell.ensures.spare

pub returns-clause-gone : goal.returns-clause-gone
returns-clause-gone c = c.tell.ensures.gone

pub post-requires-clause-seat : goal.post-requires-clause-seat
post-requires-clause-seat c =
    let can = c.requires.can in
    let there = (in-machine c.args.description.now c.args.handler c.args.ctx can.first.context).1 in
    let seats = can.rests.order.keeps.seats in
    omega (arith, there, seats)
