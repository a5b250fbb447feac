use Rattle.std.proofs.Common.{length, ap}
use borrow.Author.Count.{falls}
use Rattle.std.specs.Prelude.{flat_map}
use Rattle.mate_files.proofs.PenLemmas.{Prints-by}
use Rattle.report_writer.specs.Text.{entry_line}
use Rattle.mate_journal.specs.Tidy.{entry_event}
use Rattle.report_writer.proofs.PrintLemmas.{Prints-push, Prints-none}
use Rattle.report_writer.proofs.EventLemmas.{Runs-start, Runs-next, at_event-start, at_event-next, at_event-cut, at_event-end, IsCut-stop, IsCut-end, within-same, item-same, behind-same}
use Rattle.report_writer.proofs.merge.log_of_event.Goals as goal

pub loop-next-init : goal.loop-next-init
loop-next-init g c = record {
  runs = Runs-start entry_event c.args.event c.args.log.now.entries c.args.from c.requires.cut;
  prints = Prints-none (entry_line c.args.desc.now c.args.log.now c.args.node) _ (at_event-start entry_event c.args.event c.args.log.now.entries c.args.from c.requires.cut);
}

pub loop-next-preserved : goal.loop-next-preserved
loop-next-preserved g c =
    let entries = c.args.log.now.entries in
    let item = c.index-entries-next.result in
    let within = within-same c.entries-entries.result.now entries c.loop-next.next c.entries-entries.ensures c.loop-next-test.true in
    let is = item-same c.entries-entries.result.now entries c.loop-next.next item c.entries-entries.ensures c.index-entries-next.is in record {
      runs = Runs-next entry_event c.args.event entries c.loop-next.next item c.loop-next.invariant.runs within is c.if-stamped-event.false;
      prints = Prints-push (entry_line c.args.desc.now c.args.log.now c.args.node) _ _ item (at_event-next entry_event c.args.event entries c.loop-next.next item within is c.if-stamped-event.false)
          c.loop-next.invariant.prints c.entry_line.ensures;
    }

pub returns-then-stamped-event-clause-cut : goal.returns-then-stamped-event-clause-cut
returns-then-stamped-event-clause-cut g c =
    let entries = c.args.log.now.entries in
    let item = c.index-entries-next.result in
    let within = within-same c.entries-entries.result.now entries c.loop-next.next c.entries-entries.ensures c.loop-next-test.true in
    let is = item-same c.entries-entries.result.now entries c.loop-next.next item c.entries-entries.ensures c.index-entries-next.is in
    IsCut-stop entry_event c.args.event entries c.loop-next.next item c.requires.ordered c.loop-next.invariant.runs within is c.if-stamped-event.true

pub returns-then-stamped-event-clause-prints : goal.returns-then-stamped-event-clause-prints
returns-then-stamped-event-clause-prints g c =
    let entries = c.args.log.now.entries in
    let item = c.index-entries-next.result in
    let within = within-same c.entries-entries.result.now entries c.loop-next.next c.entries-entries.ensures c.loop-next-test.true in
    let is = item-same c.entries-entries.result.now entries c.loop-next.next item c.entries-entries.ensures c.index-entries-next.is in
    let cut = IsCut-stop entry_event c.args.event entries c.loop-next.next item c.requires.ordered c.loop-next.invariant.runs within is c.if-stamped-event.true in
    Prints-by (ap (flat_map (entry_line c.args.desc.now c.args.log.now c.args.node)) (at_event-cut entry_event c.args.event entries c.loop-next.next cut)) c.loop-next.invariant.prints

pub loop-next-smaller : goal.loop-next-smaller
loop-next-smaller g c =
    falls (length c.args.log.now.entries) c.loop-next.next (within-same c.entries-entries.result.now c.args.log.now.entries c.loop-next.next c.entries-entries.ensures c.loop-next-test.true)

pub returns-clause-cut : goal.returns-clause-cut
returns-clause-cut g c =
    let entries = c.args.log.now.entries in
    IsCut-end entry_event c.args.event entries c.loop-next.next c.loop-next.invariant.runs
    (behind-same c.entries-entries.result.now entries c.loop-next.next c.entries-entries.ensures c.loop-next-test.false)

pub returns-clause-prints : goal.returns-clause-prints
returns-clause-prints g c =
    let entries = c.args.log.now.entries in
    let behind = behind-same c.entries-entries.result.now entries c.loop-next.next c.entries-entries.ensures c.loop-next-test.false in
    Prints-by (ap (flat_map (entry_line c.args.desc.now c.args.log.now c.args.node)) (at_event-end entry_event c.args.event entries c.loop-next.next behind)) c.loop-next.invariant.prints
