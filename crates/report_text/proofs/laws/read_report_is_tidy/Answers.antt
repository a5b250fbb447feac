use Rattle.report_text.proofs.TidyLemmas.{read_tidy}
use Rattle.report_text.proofs.laws.read_report_is_tidy.Goals as goal

pub returns : goal.returns
returns c = λ d bytes r a. read_tidy d bytes r a
