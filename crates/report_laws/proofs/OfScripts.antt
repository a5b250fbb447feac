-- The world of a right script has one report.
use Rattle.std.proofs.Common.{ℕ}
use Rattle.vm_shape.specs.declared.description.Description.{Description}
use Rattle.mate_journal.specs.Machine.{Meaning, HeldProgram}
use Rattle.script_steps.specs.declared.world.World.{World as Script}
use Rattle.script_steps.specs.World.{IsRightWorld}
use Rattle.world_rules.specs.World.{World, world_of}
use Rattle.world_rules.specs.State.{state}
use Rattle.world_laws.proofs.Points.{among-next}
use Rattle.world_laws.proofs.Placed.{HasEnds, placed-node, run-placed, script-ends}
use Rattle.report_laws.specs.OneReport.{EventsAreOfNodes, WorldHasOneReport}
use Rattle.report_laws.proofs.OneReport.{one-report}

pub events-of-nodes : (w : World) → HasEnds w → EventsAreOfNodes w
events-of-nodes w ends m before come = placed-node w m.cause ends (run-placed w before ends come.0 m.time m.cause (among-next (state w before) m.time m.cause come.1.next))

-- the events of a right script's world are of its nodes
pub nodes-of-script : (d : Description) (meaning : Meaning) (script : Script) (programs : ℕ → HeldProgram) → IsRightWorld d script → EventsAreOfNodes (world_of d meaning script programs)
nodes-of-script d meaning script programs right = events-of-nodes (world_of d meaning script programs) (script-ends d meaning script programs right)

pub one-of-script : (d : Description) (meaning : Meaning) (script : Script) (programs : ℕ → HeldProgram) → IsRightWorld d script → WorldHasOneReport (world_of d meaning script programs)
one-of-script d meaning script programs right =
    one-report (world_of d meaning script programs) (nodes-of-script d meaning script programs right)
