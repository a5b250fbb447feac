use Rattle.std.proofs.Common.{◌<◌, length, refl, subst, sym, ◌∙◌}
use Rattle.capsule_exchange.specs.Images.{AreImagesOf}
use Rattle.capsule_exchange.specs.Knowledge.{Knowledge}
use Rattle.capsule_exchange.specs.Steps.{state_at, installs}
use Rattle.capsule_exchange.proofs.SummaryLemmas.{images_put}
use Rattle.capsule_exchange.proofs.stored_exchange.StoredExchange.installed.Goals as goal

pub invariant_of-self : goal.invariant_of-self
invariant_of-self c =
    let old = c.as_mut.result.now in
    let images = c.self.inside.images.items in
    let within = subst (λ (k : Knowledge). c.args.handler.0 < length k.handlers) (sym (c.as_mut.ensures.value ∙ c.self.view_is)) c.requires.handler in
    images_put old c.installed.new.self c.self.inside.images.len images c.as_mut_slice.result.now c.args.handler.0 c.from.result (installs c.args.version c.args.image.now (state_at old.handlers c.args.handler.0)) c.args.image.now c.in_ok-kept.kept
    c.self.inside.images.ok.0 c.as_mut_slice.ensures.value c.from.ensures within c.installed.ensures.state refl c.in_ok-kept.ensures (subst (λ (k : Knowledge). AreImagesOf k images) (sym c.as_mut.ensures.value) c.self.invariant)
