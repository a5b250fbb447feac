use Rattle.capsule_codec.proofs.ImageLemmas.{capsule_again, capsule_is}
use Rattle.capsule_codec.proofs.laws.one_image.Goals as goal

pub returns-clause-again : goal.returns-clause-again
returns-clause-again c = capsule_again

pub returns-clause-only : goal.returns-clause-only
returns-clause-only c = capsule_is
