use Rattle.report_line_reader.proofs.WordsLemmas.{left_over}
use Rattle.report_line_reader.proofs.words.Words.is_empty.Goals as goal

pub returns : goal.returns
returns c = left_over c.self.inside.over c.self.inside.rest.now c.args.self.now c.self.view_is
