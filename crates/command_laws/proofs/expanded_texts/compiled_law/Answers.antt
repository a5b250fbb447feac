use Rattle.command_laws.proofs.CompiledLemmas.{compiles_as_source}
use Rattle.command_laws.proofs.expanded_texts.compiled_law.Goals as goal

pub returns : goal.returns
returns c = compiles_as_source c.text_law.ensures.means
