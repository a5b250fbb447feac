use Rattle.report_line_reader.proofs.WrittenLines.{line_is_read}
use Rattle.report_line_reader.proofs.laws.written_line_is_read.Goals as goal

pub returns : goal.returns
returns c = λ d l right ranges. (line_is_read d l right ranges).is
