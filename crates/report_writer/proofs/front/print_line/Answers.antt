use Rattle.std.proofs.Common.{◌∙◌}
use Rattle.mate_files.proofs.PenLemmas.{Prints-by}
use Rattle.report_writer.proofs.front.print_line.Goals as goal

pub returns : goal.returns
returns g c = Prints-by (c.as_slice.ensures ∙ c.stamp_in_front.ensures.is) c.bytes.ensures
