use Rattle.std.specs.Prelude.{◌≡◌, ◌++◌, map, take, drop}
use Rattle.radio_sim.specs.Wires.{turned_wire}
use Rattle.radio_sim.proofs.wire.Wires.turn.Given as goal

abbrev pub invariant-loop-wire : goal.invariant-loop-wire
invariant-loop-wire l = l.wire-items ≡ map turned_wire (take l.wire-index l.initial.wire-items) ++ drop l.wire-index l.initial.wire-items
