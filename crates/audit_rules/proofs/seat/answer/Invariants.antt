use Rattle.std.proofs.Common.{◌≡◌, ◌++◌, map, take, drop}
use Rattle.audit_rules.specs.Views.{answered_at}
use Rattle.audit_rules.proofs.seat.answer.Given as goal

abbrev pub invariant-loop-seat : goal.invariant-loop-seat
invariant-loop-seat l = l.seat-items ≡ map (answered_at l.number l.value) (take l.seat-index l.fn.seats) ++ drop l.seat-index l.fn.seats
