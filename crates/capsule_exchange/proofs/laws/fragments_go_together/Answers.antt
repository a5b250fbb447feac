use Rattle.capsule_exchange.proofs.LawLemmas.{together, one_image}
use Rattle.capsule_exchange.proofs.laws.fragments_go_together.Goals as goal

pub returns-clause-together : goal.returns-clause-together
returns-clause-together c = together

pub returns-clause-image : goal.returns-clause-image
returns-clause-image c = one_image
