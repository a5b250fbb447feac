-- The call is taken out, and the context goes last into the ring.
use Rattle.std.proofs.Common.{◌≡◌, Some, refl}
use Rattle.std.proofs.lemmas.Int.{to_z-of_z}
use Rattle.std.specs.Int.{w16}
use Rattle.mate_code.specs.Effect.{push}
use Rattle.node_state.specs.declared.seat.Seat.{Seat}
use Rattle.node_state.specs.At.{seat_at}
use Rattle.node_state.proofs.ContextLemmas.{IsAnswered-from, taken-call}
use Rattle.node_state.proofs.executing.answer.Goals as goal

pub returns : goal.returns
returns c =
    let s = c.at_mut-seat.result.now in
    let now : Seat = record s { machine = c.resume.new.machine } in
    let place : c.from-place.result ≡ c.args.ctx.0 = c.from-place.ensures in
    let is : seat_at c.args.contexts.now.seats c.args.ctx ≡ Some s = rw place at c.at_mut-seat.ensures.seat in
    let pushed : c.resume.new.machine ≡ push c.args.value s.machine = rw (to_z-of_z w16 c.args.value c.ranges.value) at c.resume.ensures.pushed in
    let taken = taken-call c.args.contexts.now.pending c.answer.new.self c.args.ctx c.answer.result c.answer.ensures.answered c.answer.ensures.ok c.answer.ensures.err in
    IsAnswered-from c.args.contexts.now c.answer.new.self c.ready.new.self c.args.ctx c.args.value s now c.from-place.result place is record { inv = refl; handler = refl } refl pushed
    taken.0 taken.1 c.ready.ensures.last c.ready.ensures.held
