-- There is room for as many as there are handlers.
use Rattle.std.proofs.Common.{ap, arith}
use Rattle.node_state.specs.Programs.{HeldPrograms}
use Rattle.node_state.proofs.HandlerLemmas.{either-length}
use Rattle.node_state.proofs.handlers.Handlers.make_room.Goals as goal

pub returns-clause-room : goal.returns-clause-room
returns-clause-room c =
    let n = c.self.inside in
    let long = either-length c.reserve.new.self.items n.shared.items in
    let shared = c.len.ensures in
    let own = c.len-2.ensures in
    let made = n.own.ok.0 in
    let handlers = n.shared.ok.0 in
    let within = c.self.invariant.within in
    let len = c.in_ok-reserve.ensures.len in
    let room = c.in_ok-reserve.ensures.ok in
    omega (arith, long, shared, own, made, handlers, within, len, room)

pub returns-clause-more : goal.returns-clause-more
returns-clause-more c =
    let was = ap (λ (v : HeldPrograms). v.room) c.self.view_is in
    let more = c.reserve.ensures.capacity in
    omega (arith, was, more)
