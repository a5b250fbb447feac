use Rattle.std.proofs.Common.{◌+◌, ◌*◌, ◌^◌, length, arith}
use Rattle.report_writer.proofs.SummaryLemmas.{node-summary, node-small}
use Rattle.report_writer.specs.Summary.{IsOfNode}
use Rattle.node_runs.specs.Counting.{Sums}
use Rattle.report_writer.proofs.TallyLemmas.{up-to}
use Rattle.node_runs.proofs.CountingLemmas.{if_ok}
use Rattle.node_runs.proofs.counting.summary_of.Goals as goal

pub count_kept-requires : goal.count_kept-requires
count_kept-requires c = up-to (2 ^ 56) (2 ^ 63) c.args.tally (omega arith) c.requires

pub returns : goal.returns
returns c =
    let t = c.count_kept.new.tally in
    let v = c.args.node.now in
    if_ok c.of_node.result (IsOfNode t c.args.events c.args.whole) (Sums v c.args.tally c.args.events c.args.whole)
    (λ s is. record {
      small = node-small t c.args.events c.args.whole s is (up-to (2 ^ 56 + 2 ^ 57) (3 * 2 ^ 56) t (omega arith) (c.count_kept.ensures.up (2 ^ 56) c.requires));
      of = λ d counted. node-summary d t c.args.events c.args.whole s v.log is (c.count_kept.ensures.tallies (length d.handlers.items) counted);
    }) c.of_node.ensures
