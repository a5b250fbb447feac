use Rattle.std.proofs.Common.{ap, ◌∙◌, length}
use Rattle.std.specs.Prelude.{flat_map}
use Rattle.mate_files.proofs.PenLemmas.{◌⟫◌, Puts-finished, Prints-by}
use Rattle.mate_journal.specs.Tidy.{below}
use Rattle.report_writer.specs.Text.{end_word}
use Rattle.report_writer.specs.Brief.{newest_line}
use Rattle.report_writer.proofs.whole_summary.brief.Goals as goal

pub returns : goal.returns
returns g c =
    let d = c.args.desc.now in
    Puts-finished c.new-pen.ensures c.finish.ensures
    (c.count_lines.ensures ⟫ Prints-by (ap (λ logs. flat_map (newest_line d logs) (below (length d.handlers.items))) c.nodes.ensures) c.newest_lines.ensures
    ⟫ Prints-by (c.end_word.ensures ∙ ap end_word c.whole.ensures) c.text.ensures ⟫ c.text-2.ensures)
