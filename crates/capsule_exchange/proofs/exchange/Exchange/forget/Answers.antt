use Rattle.capsule_exchange.proofs.SummaryLemmas.{images_same}
use Rattle.capsule_exchange.proofs.exchange.Exchange.forget.Goals as goal

pub invariant_of-self : goal.invariant_of-self
invariant_of-self c = images_same c.self.inside.progress c.forget.new.self c.self.inside.images.items c.forget.ensures.images c.forget.ensures.handlers c.self.invariant
