use Rattle.std.specs.Prelude.{◌≡◌, length, take}
use Rattle.radio_sim.specs.Sending.{AreLeaving}
use Rattle.radio_sim.proofs.radio.wires_of.Given as goal

abbrev pub invariant-loop-position : goal.invariant-loop-position
invariant-loop-position l = record {
  nodes : length l.wires.items ≡ 256;
  leaving : AreLeaving l.random (take l.position l.links) l.wires.items;
}
