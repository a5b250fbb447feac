use Rattle.std.proofs.Common.{sym, subst}
use Rattle.mate_journal.specs.Machine.{Meaning}
use Rattle.node_programs.specs.ScriptSteps.{program_at}
use Rattle.node_programs.proofs.MeaningLemmas.{meaning_by-right}
use Rattle.world_rules.specs.World.{world_of}
use Rattle.world_rules.specs.Report.{IsWorldReport}
use Rattle.world_run_laws.proofs.states.worlds_hold_by_their_sources.Goals as goal

-- right programs mean by their sources what their code means, so the two worlds are one
pub returns : goal.returns
returns c = λ d script ps how r are holds.
    subst (λ (meaning : Meaning). IsWorldReport (world_of d meaning script (program_at ps)) how r) (sym (meaning_by-right d ps are.programs)) holds
