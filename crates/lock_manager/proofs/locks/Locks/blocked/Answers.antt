use Rattle.std.proofs.Common.{◌≡◌, List, ◌∙◌, ap, subst}
use Rattle.lock_manager.specs.declared.claim.Waiter.{Waiter}
use Rattle.lock_manager.specs.Claims.{Claims, blocked_of}
use Rattle.lock_manager.specs.Counts.{waiting_number}
use Rattle.lock_manager.proofs.CountLemmas.{number-is}
use Rattle.lock_manager.proofs.locks.Locks.blocked.Goals as goal

pub returns-clause-number : goal.returns-clause-number
returns-clause-number c =
    let inside = c.self.inside in
    let P : Claims → Type 0 = λ s. c.number_of.result ≡ blocked_of s.started s.waiting c.args.ctx in
    subst P c.self.view_is (c.number_of.ensures ∙ ap (λ (ws : List Waiter). waiting_number ws c.args.ctx) c.as_slice.ensures.value ∙ number-is inside.started.items inside.waiting.items c.args.ctx c.self.invariant.counts)
