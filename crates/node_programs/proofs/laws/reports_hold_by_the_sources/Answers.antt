use Rattle.std.proofs.Common.{sym, subst}
use Rattle.mate_journal.specs.Machine.{Meaning}
use Rattle.mate_journal.specs.NodeReport.{IsNodeReport}
use Rattle.node_programs.proofs.MeaningLemmas.{meaning_by-right}
use Rattle.node_programs.proofs.laws.reports_hold_by_the_sources.Goals as goal

pub returns : goal.returns
returns c = λ d ps steps how r right holds. subst (λ (meaning : Meaning). IsNodeReport d meaning steps how r) (sym (meaning_by-right d ps right)) holds
