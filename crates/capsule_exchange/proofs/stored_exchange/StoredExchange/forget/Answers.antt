use Rattle.std.proofs.Common.{sym, subst}
use Rattle.capsule_exchange.specs.Images.{AreImagesOf}
use Rattle.capsule_exchange.specs.Knowledge.{Knowledge}
use Rattle.capsule_exchange.proofs.SummaryLemmas.{images_same}
use Rattle.capsule_exchange.proofs.stored_exchange.StoredExchange.forget.Goals as goal

pub invariant_of-self : goal.invariant_of-self
invariant_of-self c =
    let images = c.self.inside.images.items in
    images_same c.as_mut.result.now c.forget.new.self images c.forget.ensures.images c.forget.ensures.handlers (subst (λ (k : Knowledge). AreImagesOf k images) (sym c.as_mut.ensures.value) c.self.invariant)
