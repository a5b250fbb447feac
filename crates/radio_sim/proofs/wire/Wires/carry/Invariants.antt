use Rattle.std.specs.Prelude.{take}
use Rattle.radio_sim.proofs.WireLemmas.{Carried}
use Rattle.radio_sim.proofs.wire.Wires.carry.Given as goal

abbrev pub invariant-loop-wire : goal.invariant-loop-wire
invariant-loop-wire l = Carried l.sending l.packet (take l.wire-index l.wire-items) l.initial.air l.air l.initial.carried.items l.carried.items
