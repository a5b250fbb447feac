use Rattle.report_text.proofs.BackLemmas.{result_text}
use Rattle.report_text.proofs.TidyLemmas.{result_tidy}
use Rattle.report_text.proofs.TripLemmas.{gives_back}
use Rattle.report_text.proofs.text.read.Goals as goal

pub returns-clause-tidy : goal.returns-clause-tidy
returns-clause-tidy c = result_tidy c.args.desc.now c.args.bytes.now c.read_lines.result c.read_lines.ensures

pub returns-clause-same : goal.returns-clause-same
returns-clause-same c = result_text c.args.desc.now c.args.bytes.now c.read_lines.result c.read_lines.ensures

pub returns-clause-back : goal.returns-clause-back
returns-clause-back c = λ r tidy ranges is. gives_back c.args.desc.now c.args.bytes.now c.read_lines.result c.requires c.read_lines.ensures r tidy ranges is
