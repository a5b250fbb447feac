-- A context that is not in the ring finds room in it, since a node has 16 contexts.
use Rattle.std.proofs.Common.{◌≡◌, ◌++◌, ◌∷◌, [], ap, ◌∙◌}
use Rattle.circular_buffer.specs.Buffer.{Buffer}
use Rattle.mate_num.specs.declared.id.ContextId.{ContextId}
use Rattle.context_sched.proofs.RingLemmas.{pushed, AreContexts-pushed, Changes-push}
use Rattle.context_sched.proofs.ring.Ring.ready.Goals as goal

pub returns-clause-last : goal.returns-clause-last
returns-clause-last c =
    let old = c.self.inside.ready in
    pushed c.args.self.now old.items c.args.ctx old.capacity c.push_back.new.self.items c.self.view_is c.self.invariant.1 c.requires.context c.self.invariant.0 c.requires.absent (ap (λ (b : Buffer ContextId). b.items) c.push_back.ensures.items)

pub returns-clause-held : goal.returns-clause-held
returns-clause-held c = Changes-push c.args.self.now c.push_back.new.self.items c.args.ctx (returns-clause-last c)

pub invariant_of-self : goal.invariant_of-self
invariant_of-self c =
    let old = c.self.inside.ready in
    let e : c.push_back.new.self.items ≡ c.args.self.now ++ c.args.ctx ∷ [] = pushed c.args.self.now old.items c.args.ctx old.capacity c.push_back.new.self.items c.self.view_is c.self.invariant.1 c.requires.context c.self.invariant.0 c.requires.absent (ap (λ (b : Buffer ContextId). b.items) c.push_back.ensures.items) in
    (AreContexts-pushed c.args.self.now old.items c.args.ctx c.push_back.new.self.items c.self.view_is c.requires.context c.self.invariant.0 c.requires.absent e, ap (λ (b : Buffer ContextId). b.capacity) c.push_back.ensures.items ∙ c.self.invariant.1)
