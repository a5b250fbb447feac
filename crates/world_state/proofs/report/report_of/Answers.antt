use Rattle.std.proofs.Common.{sym, ap, subst, List, All}
use Rattle.mate_journal.specs.Log.{Log}
use Rattle.node_state.specs.Meaning.{machine_in}
use Rattle.node_open.specs.Journal.{KeepsJournal}
use Rattle.world_state.proofs.report.report_of.Goals as goal

pub returns-clause-keeps : goal.returns-clause-keeps
returns-clause-keeps c = λ d are. subst (λ (ls : List Log). All (KeepsJournal d (machine_in d)) ls) (sym (ap (λ r. r.nodes) c.new-report.ensures)) (c.logs_in-logs.ensures.keeps d are)
