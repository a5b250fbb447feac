use Rattle.mate_files.proofs.PenLemmas.{◌⟫◌}
use Rattle.report_writer.proofs.summary.text_of_counts.Goals as goal

pub returns : goal.returns
returns g c =
    c.count_line.ensures ⟫ c.count_line-2.ensures ⟫ c.count_line-3.ensures ⟫ c.count_line-4.ensures ⟫ c.count_line-5.ensures ⟫ c.count_line-6.ensures
    ⟫ c.count_line-7.ensures ⟫ c.count_line-8.ensures ⟫ c.count_line-9.ensures ⟫ c.count_line-10.ensures ⟫ c.count_line-11.ensures
