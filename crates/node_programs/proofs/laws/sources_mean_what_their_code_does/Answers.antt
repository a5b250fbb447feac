use Rattle.node_programs.proofs.MeaningLemmas.{meaning_by-right}
use Rattle.node_programs.proofs.laws.sources_mean_what_their_code_does.Goals as goal

pub returns : goal.returns
returns c = meaning_by-right
