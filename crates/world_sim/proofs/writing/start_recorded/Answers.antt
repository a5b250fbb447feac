use Rattle.std.proofs.Common.{arith}
use Rattle.world_runs.proofs.RecordingLemmas.{start-before}
use Rattle.world_sim.proofs.writing.start_recorded.Goals as goal

pub add_event-requires-clause-node : goal.add_event-requires-clause-node
add_event-requires-clause-node c =
    let some = c.requires.world.nodes_low in
    let count = (c.in_ok-sim.ensures.stands c.args.programs.now).nodes in
    omega (arith, some, count)

pub add_event-requires-clause-before : goal.add_event-requires-clause-before
add_event-requires-clause-before c =
    start-before c.in_ok-record.record c.in_ok-sim.sim c.args.world.now.nodes c.in_ok-record.ensures (c.in_ok-sim.ensures.stands c.args.programs.now).nodes c.requires.world.nodes_low c.in_ok-sim.ensures.whole c.in_ok-sim.ensures.empty

pub returns : goal.returns
returns c = record { stands = c.in_ok-sim.ensures.stands c.args.programs.now; whole = c.in_ok-sim.ensures.whole; recorded = c.in_ok-add_event.ensures; ranges = c.in_ok-sim.ensures.ranges }
