use Rattle.std.proofs.Common.{◌≡◌, ◌<◌, ◌+◌, ℕ, List, length, get_or, ap, sym, subst, ◌∙◌, arith}
use Rattle.std.specs.Prelude.{Option, IfSome, All, slice_get}
use Rattle.std.specs.Option.{option_map}
use Rattle.mate_journal.specs.Log.{Log}
use Rattle.mate_journal.specs.declared.air.Aired.{Aired}
use Rattle.mate_journal.specs.declared.entry.Stamped.{Stamped}
use Rattle.report_writer.specs.Text.{events_end}
use Rattle.mate_journal.specs.Tidy.{entry_event, EventsRise}
use Rattle.report_writer.specs.Progress.{air_event, IsGreatest}
use Rattle.report_writer.proofs.TextLemmas.{below_end}
use Rattle.report_writer.proofs.MergeLemmas.{LeftUpTo, greatest-start, greatest-next, greatest-end, below_end-air, head-below, lesser-below}
use Rattle.report_writer.proofs.merge.next_event.Goals as goal

pub loop-node-init : goal.loop-node-init
loop-node-init c =
    let report = c.args.report.now in
    let is = c.air_head-next.ensures ∙ ap (λ (xs : List Aired). option_map air_event (slice_get xs c.args.air)) c.air.ensures in record {
      first = greatest-start report c.args.air c.args.cursors.now c.air_head-next.result c.requires.ordered.air is;
      end = head-below air_event (events_end report) report.air c.args.air c.air_head-next.result (below_end-air report) is;
    }

pub loop-node-preserved : goal.loop-node-preserved
loop-node-preserved c =
    let report = c.args.report.now in
    let node = c.loop-node.node in
    let log = c.log-item.result in
    let within : node < length report.nodes = omega (arith, c.loop-node-test.true, ap length c.nodes-log-items.ensures) in
    let is = c.log-item.is ∙ ap (λ (ls : List Log). get_or ls node log) c.nodes-log-items.ensures in
    let rises = subst (λ (l : Log). EventsRise entry_event 0 l.entries) (sym is) (c.requires.ordered.logs node log within) in
    let below = subst (λ (l : Log). All (λ (e : Stamped). entry_event e < events_end report) l.entries) (sym is) (below_end report node log within) in
    let greatest = greatest-next report c.args.air c.args.cursors.now node log c.loop-node.next c.log_head.result within is rises c.log_head.ensures c.loop-node.invariant.first in
    let head = head-below entry_event (events_end report) log.entries (get_or c.args.cursors.now node 0) c.log_head.result below c.log_head.ensures in record {
      first = subst (λ (o : Option ℕ). IsGreatest o (LeftUpTo report c.args.air c.args.cursors.now (node + 1))) (sym c.lesser-next.ensures) greatest;
      end = subst (λ (o : Option ℕ). IfSome o (λ (k : ℕ). k < events_end report)) (sym c.lesser-next.ensures)
          (lesser-below (events_end report) c.loop-node.next c.log_head.result c.loop-node.invariant.end head);
    }

pub returns-clause-first : goal.returns-clause-first
returns-clause-first c =
    let all : c.loop-node.node ≡ length c.args.report.now.nodes = omega (arith, ap length c.nodes-log-items.ensures) in
    greatest-end c.args.report.now c.args.air c.args.cursors.now c.loop-node.node c.loop-node.next all c.loop-node.invariant.first
