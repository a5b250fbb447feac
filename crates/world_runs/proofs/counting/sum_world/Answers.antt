use Rattle.std.proofs.Common.{length, sym, ◌∙◌, subst, arith}
use Rattle.report_writer.specs.Summary.{IsNewTally}
use Rattle.world_state.specs.Telling.{LogsAreKept}
use Rattle.world_runs.proofs.CountingLemmas.{start-tallied, start-few}
use Rattle.world_runs.proofs.counting.sum_world.Goals as goal

pub count_event-requires-clause-node : goal.count_event-requires-clause-node
count_event-requires-clause-node c =
    let some = c.requires.world.nodes_low in
    let count = (c.in_ok-sim.ensures.stands c.args.programs.now).nodes in
    omega (arith, some, count)

pub count_event-requires-clause-count : goal.count_event-requires-clause-count
count_event-requires-clause-count c = c.in_ok-tally.ensures.count ∙ sym (c.in_ok-sim.ensures.stands c.args.programs.now).nodes

pub count_event-requires-clause-few : goal.count_event-requires-clause-few
count_event-requires-clause-few c = start-few c.len.result c.args.world.now.nodes c.in_ok-tally.tally c.in_ok-tally.ensures

pub sum_started-requires-clause-starts : goal.sum_started-requires-clause-starts
sum_started-requires-clause-starts c =
    let n = length c.args.desc.now.handlers.items in
    let new = subst (λ k. IsNewTally k c.args.world.now.nodes c.in_ok-tally.tally) c.len.ensures.value c.in_ok-tally.ensures in
    record {
      stands = c.in_ok-sim.ensures.stands c.args.programs.now;
      kept = subst LogsAreKept c.as_slice.ensures.value c.logs_are_kept.ensures;
      ranges = c.in_ok-sim.ensures.ranges;
      counted = c.count_event.ensures.counted n
          (start-tallied n c.args.world.now.nodes c.in_ok-tally.tally c.in_ok-sim.sim new (c.in_ok-sim.ensures.stands c.args.programs.now).nodes c.in_ok-sim.ensures.whole c.in_ok-sim.ensures.empty);
      small = c.count_event.ensures.small;
    }
