use Rattle.std.proofs.Common.{ap, length}
use Rattle.std.specs.Prelude.{flat_map}
use Rattle.mate_files.proofs.PenLemmas.{◌⟫◌, Puts-finished, Prints-by}
use Rattle.mate_journal.specs.Tidy.{below}
use Rattle.report_writer.specs.Summary.{newest_line_counted}
use Rattle.report_writer.proofs.summary.Summary.write.Goals as goal

pub returns : goal.returns
returns g c =
    let d = c.args.desc.now in
    Puts-finished c.new-pen.ensures c.finish.ensures
    (c.count_lines.ensures ⟫ Prints-by (ap (λ nodes. flat_map (newest_line_counted d nodes) (below (length d.handlers.items))) c.as_slice.ensures.value) c.newest_lines.ensures
    ⟫ Prints-by c.end_word.ensures c.text.ensures ⟫ c.text-2.ensures)
