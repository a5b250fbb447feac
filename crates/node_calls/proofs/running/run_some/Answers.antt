-- The ready invocation can execute, and each instruction that goes on keeps what the node keeps.
use Rattle.std.proofs.Common.{◌<◌, ◌^◌, arith}
use Rattle.vm_shape.proofs.DescriptionLemmas.{bounds_of}
use Rattle.node_calls.specs.Pacing.{most}
use Rattle.node_calls.proofs.RunningLemmas.{CanExecute-ready, RunsFor-from}
use Rattle.node_calls.proofs.running.run_some.Goals as goal

pub turn-requires : goal.turn-requires
turn-requires c =
    let d = c.args.description.now in
    let high = (bounds_of d).turns_high in
    let low : most d < 2 ^ 63 = omega (arith, high) in
    CanExecute-ready d c.args.parts.now c.args.ctx c.requires.order.keeps c.requires.ready c.requires.small low

pub returns-clause-runs : goal.returns-clause-runs
returns-clause-runs c = RunsFor-from c.args.description.now c.args.parts.now c.turn.new.contexts c.turn.new.heap c.args.ctx c.args.n c.turn.result c.requires.order c.requires.ready c.turn.ensures
