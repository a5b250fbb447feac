use Rattle.std.proofs.Common.{length, arith}
use Rattle.world_run_laws.specs.Coming.{code_world}
use Rattle.world_state.proofs.RangeLemmas.{left-ranges}
use Rattle.world_state.proofs.KeepingLemmas.{few-after, few-stand, left-stands}
use Rattle.world_runs.proofs.HandLemmas.{at-hand-now}
use Rattle.world_runs.proofs.CountingLemmas.{tallied-left, tallied-before, may-count}
use Rattle.world_runs.proofs.counting.count_step.Goals as goal

pub count_event-requires-clause-node : goal.count_event-requires-clause-node
count_event-requires-clause-node c =
    let a = c.in_ok-node.ensures.adds in
    (at-hand-now c.args.at.event c.in_ok-node.node c.args.sim.now a.mid c.step.new.sim a.lets_go a.adds).low

pub count_event-requires-clause-count : goal.count_event-requires-clause-count
count_event-requires-clause-count c =
    let a = c.in_ok-node.ensures.adds in
    let n = length c.args.desc.now.handlers.items in
    (tallied-before n c.args.tally.now c.args.sim.now a.mid c.step.new.sim c.in_ok-node.node c.args.at.event a.lets_go a.adds c.requires.counted).count

pub count_event-requires-clause-few : goal.count_event-requires-clause-few
count_event-requires-clause-few c =
    let a = c.in_ok-node.ensures.adds in
    let n = length c.args.desc.now.handlers.items in
    let w = code_world c.args.desc.now c.args.world.now c.args.programs.now in
    let low = (at-hand-now c.args.at.event c.in_ok-node.node c.args.sim.now a.mid c.step.new.sim a.lets_go a.adds).low in
    let nodes = c.in_ok-node.ensures.stands.nodes in
    may-count n c.args.tally.now c.args.sim.now a.mid c.step.new.sim c.in_ok-node.node c.args.at.event a.lets_go a.adds c.requires.counted c.requires.small
    (few-stand w c.args.event.now c.args.at c.args.sim.now c.in_ok-node.node a.lets_go.before c.requires.stands (omega (arith, low, nodes)) a.lets_go.found)

pub leave-requires-clause-node : goal.leave-requires-clause-node
leave-requires-clause-node c =
    let a = c.in_ok-node.ensures.adds in
    (at-hand-now c.args.at.event c.in_ok-node.node c.args.sim.now a.mid c.step.new.sim a.lets_go a.adds).low

pub leave-requires-clause-few : goal.leave-requires-clause-few
leave-requires-clause-few c = λ room.
    let a = c.in_ok-node.ensures.adds in
    let stands = c.in_ok-node.ensures.stands in
    let low = (at-hand-now c.args.at.event c.in_ok-node.node c.args.sim.now a.mid c.step.new.sim a.lets_go a.adds).low in
    let nodes = stands.nodes in
    few-after (code_world c.args.desc.now c.args.world.now c.args.programs.now) c.args.at.event c.step.new.sim c.in_ok-node.node stands (omega (arith, low, nodes)) room

pub returns-clause-stands : goal.returns-clause-stands
returns-clause-stands c =
    let a = c.in_ok-node.ensures.adds in
    let low = (at-hand-now c.args.at.event c.in_ok-node.node c.args.sim.now a.mid c.step.new.sim a.lets_go a.adds).low in
    left-stands c.step.new.sim c.leave.new.self c.in_ok-node.node (code_world c.args.desc.now c.args.world.now c.args.programs.now) c.args.at.event c.leave.ensures.leaves low c.in_ok-node.ensures.stands

pub returns-clause-kept : goal.returns-clause-kept
returns-clause-kept c = c.leave.ensures.kept (c.in_ok-node.ensures.kept c.requires.kept)

pub returns-clause-ranges : goal.returns-clause-ranges
returns-clause-ranges c = left-ranges c.step.new.sim c.leave.new.self c.in_ok-node.node c.leave.ensures.leaves (c.in_ok-node.ensures.ranges c.requires.ranges)

pub returns-clause-counted : goal.returns-clause-counted
returns-clause-counted c =
    let a = c.in_ok-node.ensures.adds in
    let n = length c.args.desc.now.handlers.items in
    tallied-left n c.count_event.new.tally c.step.new.sim c.leave.new.self c.in_ok-node.node c.leave.ensures.leaves
    (c.count_event.ensures.counted n (tallied-before n c.args.tally.now c.args.sim.now a.mid c.step.new.sim c.in_ok-node.node c.args.at.event a.lets_go a.adds c.requires.counted))
