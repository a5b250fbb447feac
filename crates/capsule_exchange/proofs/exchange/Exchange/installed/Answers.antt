use Rattle.std.proofs.Common.{◌<◌, length, refl, subst, sym}
use Rattle.capsule_exchange.specs.Knowledge.{Knowledge}
use Rattle.capsule_exchange.specs.Steps.{state_at, installs}
use Rattle.capsule_exchange.proofs.SummaryLemmas.{images_put}
use Rattle.capsule_exchange.proofs.exchange.Exchange.installed.Goals as goal

pub invariant_of-self : goal.invariant_of-self
invariant_of-self c =
    let within = subst (λ (k : Knowledge). c.args.handler.0 < length k.handlers) (sym c.self.view_is) c.requires.handler in
    images_put c.self.inside.progress c.installed.new.self (length c.self.inside.images.items) c.self.inside.images.items c.as_mut_slice.result.now c.args.handler.0 c.from.result (installs c.args.version c.args.image.now (state_at c.self.inside.progress.handlers c.args.handler.0)) c.args.image.now c.copy_of.result
    refl c.as_mut_slice.ensures.value c.from.ensures within c.installed.ensures.state refl c.copy_of.ensures c.self.invariant
