use Rattle.capsule_exchange.proofs.SummaryLemmas.{images_same}
use Rattle.capsule_exchange.proofs.exchange.Exchange.hear.Goals as goal

pub invariant_of-self : goal.invariant_of-self
invariant_of-self c = images_same c.self.inside.progress c.hear-consistent.new.self c.self.inside.images.items c.hear-consistent.ensures.images c.hear-consistent.ensures.handlers c.self.invariant
