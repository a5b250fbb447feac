use Rattle.command_laws.proofs.DerivedLemmas.{expansion_is_derived}
use Rattle.command_laws.proofs.expanded_texts.derivation_law.Goals as goal

pub returns : goal.returns
returns c = expansion_is_derived
