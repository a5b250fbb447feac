use Rattle.mate_files.proofs.PenLemmas.{Prints-nil, Prints-next_item, Prints-all}
use Rattle.report_writer.specs.Text.{entry_line}
use Rattle.report_writer.proofs.text.entry_lines.Goals as goal

pub loop-stamped-init : goal.loop-stamped-init
loop-stamped-init g c = Prints-nil

pub loop-stamped-preserved : goal.loop-stamped-preserved
loop-stamped-preserved g c =
    Prints-next_item (entry_line c.args.desc.now c.args.log.now c.args.node) c.args.entries.now c.loop-stamped.stamped-index c.stamped-item.result
    c.loop-stamped-test.true c.stamped-item.is c.loop-stamped.invariant c.entry_line.ensures

pub returns : goal.returns
returns g c =
    Prints-all (entry_line c.args.desc.now c.args.log.now c.args.node) c.args.entries.now c.loop-stamped.stamped-index c.loop-stamped-test.false c.loop-stamped.invariant
