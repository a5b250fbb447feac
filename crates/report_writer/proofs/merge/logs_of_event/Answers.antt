use Rattle.std.proofs.Common.{◌+◌, length}
use Rattle.mate_files.proofs.PenLemmas.{Prints-nil, Prints-by}
use Rattle.report_writer.proofs.MergeLemmas.{Prints-log, entry_lines-all, cuts-start, cuts-next, cuts-left, cut-here, cuts-all, has-cursor, rises-here}
use Rattle.report_writer.proofs.merge.logs_of_event.Goals as goal

pub loop-node-init : goal.loop-node-init
loop-node-init g c = record {
  done = cuts-start (c.args.event + 1) c.args.logs.now c.args.cursors.now;
  left = λ k d p q. c.requires.cut k d q;
  prints = Prints-nil;
}

pub bounds-cursors-node : goal.bounds-cursors-node
bounds-cursors-node g c =
    has-cursor c.loop-node.node (length c.args.logs.now) (length c.args.cursors.now) (length c.loop-node.cursors) c.loop-node.auto.cursors c.requires.same c.loop-node-test.true

pub bounds-cursors-node-in-loop-node : goal.bounds-cursors-node-in-loop-node
bounds-cursors-node-in-loop-node g c =
    has-cursor c.loop-node.node (length c.args.logs.now) (length c.args.cursors.now) (length c.loop-node.cursors) c.loop-node.auto.cursors c.requires.same c.loop-node-test.true

pub log_of_event-requires-clause-ordered : goal.log_of_event-requires-clause-ordered
log_of_event-requires-clause-ordered g c =
    rises-here c.args.logs.now c.loop-node.node c.index-logs-node.result c.loop-node-test.true c.index-logs-node.is c.requires.ordered

pub log_of_event-requires-clause-cut : goal.log_of_event-requires-clause-cut
log_of_event-requires-clause-cut g c =
    cut-here c.args.event c.args.logs.now c.loop-node.cursors c.loop-node.node c.index-logs-node.result c.loop-node-test.true c.index-logs-node.is c.loop-node.invariant.left

pub loop-node-preserved : goal.loop-node-preserved
loop-node-preserved g c = record {
  done = cuts-next (c.args.event + 1) c.args.logs.now c.loop-node.cursors c.loop-node.node c.index-logs-node.result c.log_of_event.result c.loop-node-test.true
      (has-cursor c.loop-node.node (length c.args.logs.now) (length c.args.cursors.now) (length c.loop-node.cursors) c.loop-node.auto.cursors c.requires.same c.loop-node-test.true)
      c.index-logs-node.is c.log_of_event.ensures.cut c.loop-node.invariant.done;
  left = cuts-left c.args.event c.args.logs.now c.loop-node.cursors c.loop-node.node c.log_of_event.result c.loop-node.invariant.left;
  prints = Prints-log c.args.desc.now c.args.event c.args.logs.now c.loop-node.node c.index-logs-node.result c.loop-node-test.true c.index-logs-node.is
      c.loop-node.invariant.prints c.log_of_event.ensures.prints;
}

pub returns-clause-prints : goal.returns-clause-prints
returns-clause-prints g c = Prints-by (entry_lines-all c.args.desc.now c.args.event c.args.logs.now c.loop-node.node c.loop-node-test.false) c.loop-node.invariant.prints

pub returns-clause-cut : goal.returns-clause-cut
returns-clause-cut g c = cuts-all (c.args.event + 1) c.args.logs.now c.loop-node.cursors c.loop-node.node c.loop-node-test.false c.loop-node.invariant.done
