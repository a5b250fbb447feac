use Rattle.script_reader.proofs.SoundLemmas.{sound_source}
use Rattle.script_reader.proofs.laws.sources_law.Goals as goal

pub returns : goal.returns
returns c = sound_source
