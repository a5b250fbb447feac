use Rattle.std.proofs.Common.{◌≡◌, ◌++◌, map, take, drop}
use Rattle.audit_rules.specs.Views.{come_to}
use Rattle.audit_rules.proofs.seat.move_to.Given as goal

abbrev pub invariant-loop-seat : goal.invariant-loop-seat
invariant-loop-seat l = l.seat-items ≡ map (come_to l.number l.phase) (take l.seat-index l.fn.seats) ++ drop l.seat-index l.fn.seats
