use Rattle.std.proofs.Common.{ap}
use Rattle.std.specs.Prelude.{flat_map}
use Rattle.mate_files.proofs.PenLemmas.{◌⟫◌, Puts-finished, Prints-by}
use Rattle.report_writer.specs.Text.{entry_line}
use Rattle.report_writer.proofs.EventLemmas.{rest-from}
use Rattle.report_writer.proofs.PieceLemmas.{lines-piece}
use Rattle.report_writer.proofs.text.write_event.Goals as goal

pub returns-clause-writes : goal.returns-clause-writes
returns-clause-writes g c =
    Puts-finished c.new-pen.ensures c.finish.ensures
    (c.air_lines.ensures
    ⟫ Prints-by (ap (flat_map (entry_line c.args.desc.now c.args.log.now c.args.node)) (rest-from c.entries.result.now c.args.log.now.entries c.args.from c.entries.ensures))
    c.entry_lines.ensures)

pub returns-clause-makes_up : goal.returns-clause-makes_up
returns-clause-makes_up g c = λ before after adds. lines-piece c.args.desc.now before after c.args.air.now c.args.log.now c.args.from c.args.node adds
