use Rattle.mate_files.proofs.PenLemmas.{Prints-nil, Prints-next_item, Prints-all}
use Rattle.report_writer.specs.Text.{air_line}
use Rattle.report_writer.proofs.text.air_lines.Goals as goal

pub loop-aired-init : goal.loop-aired-init
loop-aired-init g c = Prints-nil

pub loop-aired-preserved : goal.loop-aired-preserved
loop-aired-preserved g c =
    Prints-next_item air_line c.args.air.now c.loop-aired.aired-index c.aired-item.result c.loop-aired-test.true c.aired-item.is c.loop-aired.invariant c.air_line.ensures

pub returns : goal.returns
returns g c = Prints-all air_line c.args.air.now c.loop-aired.aired-index c.loop-aired-test.false c.loop-aired.invariant
