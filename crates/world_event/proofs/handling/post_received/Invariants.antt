use Rattle.std.proofs.Common.{◌≡◌}
use Rattle.node_open.specs.View.{heard_of, Tells}
use Rattle.node_open.specs.Calls.{Pacing}
use Rattle.node_state.specs.Meaning.{machine_in}
use Rattle.world_rules.specs.Run.{Occasions}
use Rattle.world_event.specs.Handling.{receivers_below}
use Rattle.world_event.proofs.handling.post_received.Given as goal

abbrev pub invariant-loop-h : goal.invariant-loop-h
invariant-loop-h l = record {
  tells : Tells l.initial.mote.node l.mote.node l.at (Pacing (Occasions (machine_in l.desc) l.payload (receivers_below l.desc l.h) (heard_of l.initial.mote.node)));
  same : l.mote ≡ record l.initial.mote { node = l.mote.node };
}
