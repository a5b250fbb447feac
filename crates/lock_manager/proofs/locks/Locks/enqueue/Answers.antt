-- A context that neither waits nor is started finds room, and its number counts all that are before it.
use Rattle.std.proofs.Common.{◌≡◌, ◌+◌, List, ◌∙◌, ap, subst, lit<, arith}
use Rattle.lock_manager.specs.declared.claim.Claim.{Claim}
use Rattle.lock_manager.specs.declared.claim.Waiter.{Waiter}
use Rattle.lock_manager.specs.Claims.{Claims, against, Enqueues}
use Rattle.lock_manager.specs.Counts.{claims_of}
use Rattle.lock_manager.proofs.LockLemmas.{IsNew, IsNew-seen, room_for, AreLocks-enqueue, Enqueues-from, seen}
use Rattle.lock_manager.proofs.locks.Locks.enqueue.Goals as goal

pub push-requires : goal.push-requires
push-requires c =
    let inside = c.self.inside in
    let claim : Claim = record { ctx = c.args.ctx; set = c.args.set } in
    let fresh : IsNew inside.waiting.items inside.started.items claim = IsNew-seen inside.waiting.items inside.started.items claim c.args.self.now c.self.view_is c.requires.context c.requires.not_waiting c.requires.not_started in
    (lit< tt, room_for inside.waiting.items inside.started.items claim c.self.invariant fresh)

pub invariant_of-self : goal.invariant_of-self
invariant_of-self c =
    let ws = c.self.inside.waiting.items in
    let ss = c.self.inside.started.items in
    let claim : Claim = record { ctx = c.args.ctx; set = c.args.set } in
    let w : Waiter = record { claim = claim; blocked = c.count.result + c.count_waiting.result } in
    let fresh : IsNew ws ss claim = IsNew-seen ws ss claim c.args.self.now c.self.view_is c.requires.context c.requires.not_waiting c.requires.not_started in
    let a : c.count.result ≡ against claim.set ss = c.count.ensures ∙ ap (against claim.set) c.as_slice.ensures.value in
    let b : c.count_waiting.result ≡ against claim.set (claims_of ws) = c.count_waiting.ensures ∙ ap (λ (l : List Waiter). against claim.set (claims_of l)) c.as_slice-2.ensures.value in
    AreLocks-enqueue ws c.push.new.self.items ss w c.push.ensures.items c.self.invariant fresh (omega arith)

pub returns : goal.returns
returns c =
    let ws = c.self.inside.waiting.items in
    let ss = c.self.inside.started.items in
    let claim : Claim = record { ctx = c.args.ctx; set = c.args.set } in
    let w : Waiter = record { claim = claim; blocked = c.count.result + c.count_waiting.result } in
    let fresh : IsNew ws ss claim = IsNew-seen ws ss claim c.args.self.now c.self.view_is c.requires.context c.requires.not_waiting c.requires.not_started in
    let P : Claims → Type 0 = λ old. Enqueues old (seen c.push.new.self.items ss) c.args.ctx c.args.set in
    subst P c.self.view_is (Enqueues-from ws c.push.new.self.items ss w c.push.ensures.items fresh)
