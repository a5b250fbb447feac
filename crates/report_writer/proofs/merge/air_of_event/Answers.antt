use Rattle.std.proofs.Common.{ap}
use Rattle.std.specs.Prelude.{flat_map}
use Rattle.mate_files.proofs.PenLemmas.{Prints-by}
use Rattle.report_writer.specs.Text.{air_line}
use Rattle.report_writer.specs.Progress.{air_event}
use Rattle.report_writer.proofs.PrintLemmas.{Prints-push, Prints-none}
use Rattle.report_writer.proofs.EventLemmas.{Runs-start, Runs-next, at_event-start, at_event-next, at_event-cut, at_event-end, IsCut-stop, IsCut-end}
use Rattle.report_writer.proofs.merge.air_of_event.Goals as goal

pub loop-next-init : goal.loop-next-init
loop-next-init g c = record {
  runs = Runs-start air_event c.args.event c.args.air.now c.args.from c.requires.cut;
  prints = Prints-none air_line _ (at_event-start air_event c.args.event c.args.air.now c.args.from c.requires.cut);
}

pub loop-next-preserved : goal.loop-next-preserved
loop-next-preserved g c =
    let item = c.index-air-next.result in record {
      runs = Runs-next air_event c.args.event c.args.air.now c.loop-next.next item c.loop-next.invariant.runs c.loop-next-test.true c.index-air-next.is c.if-aired-event.false;
      prints = Prints-push air_line _ _ item (at_event-next air_event c.args.event c.args.air.now c.loop-next.next item c.loop-next-test.true c.index-air-next.is c.if-aired-event.false)
          c.loop-next.invariant.prints c.air_line.ensures;
    }

pub returns-then-aired-event-clause-cut : goal.returns-then-aired-event-clause-cut
returns-then-aired-event-clause-cut g c =
    IsCut-stop air_event c.args.event c.args.air.now c.loop-next.next c.index-air-next.result c.requires.ordered c.loop-next.invariant.runs c.loop-next-test.true c.index-air-next.is c.if-aired-event.true

pub returns-then-aired-event-clause-prints : goal.returns-then-aired-event-clause-prints
returns-then-aired-event-clause-prints g c =
    let cut = IsCut-stop air_event c.args.event c.args.air.now c.loop-next.next c.index-air-next.result c.requires.ordered c.loop-next.invariant.runs c.loop-next-test.true c.index-air-next.is c.if-aired-event.true in
    Prints-by (ap (flat_map air_line) (at_event-cut air_event c.args.event c.args.air.now c.loop-next.next cut)) c.loop-next.invariant.prints

pub returns-clause-cut : goal.returns-clause-cut
returns-clause-cut g c = IsCut-end air_event c.args.event c.args.air.now c.loop-next.next c.loop-next.invariant.runs c.loop-next-test.false

pub returns-clause-prints : goal.returns-clause-prints
returns-clause-prints g c =
    Prints-by (ap (flat_map air_line) (at_event-end air_event c.args.event c.args.air.now c.loop-next.next c.loop-next-test.false)) c.loop-next.invariant.prints
