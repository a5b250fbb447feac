-- The seat has its machine as the run leaves it.
use Rattle.std.proofs.Common.{◌≡◌, ℕ, ◌+◌, Some, refl, sym, ap}
use Rattle.node_state.specs.declared.seat.Seat.{Seat}
use Rattle.node_state.specs.At.{seat_at}
use Rattle.node_state.proofs.ContextLemmas.{HasTurn-from}
use Rattle.node_calls.proofs.running.turn.Goals as goal

pub returns : goal.returns
returns c =
    let s = c.at_mut-seat.result.now in
    let now : Seat = record s { machine = c.run-ran.new.machine; count = s.count + c.from.result } in
    let place : c.from-place.result ≡ c.args.ctx.0 = c.from-place.ensures in
    let is : seat_at c.args.contexts.now.seats c.args.ctx ≡ Some s = rw place at c.at_mut-seat.ensures.seat in
    let counted : s.count + c.from.result ≡ s.count + c.run-ran.result.instructions = ap (λ (n : ℕ). s.count + n) c.from.ensures in
    HasTurn-from _ c.args.contexts.now c.args.heap.now c.run-ran.new.heap c.args.ctx c.args.n c.run-ran.result s now c.in-Some.held.now c.from-place.result
    place is (sym c.in-Some.ensures) record { inv = refl; handler = refl } counted c.run-ran.ensures
