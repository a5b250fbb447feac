-- The first waiter with the number 0 conflicts with nothing ahead of it, and each one before it has a number above 0.
use Rattle.std.proofs.Common.{◌≡◌, ◌<◌, suc, Option, Some, None, length, eqb, take, drop, ◌∙◌, sym, ap, subst, lit<, arith}
use Rattle.std.specs.List.{position}
use Rattle.std.specs.Option.{MatchOption}
use Rattle.mate_num.specs.declared.id.ContextId.{ContextId}
use Rattle.lock_manager.specs.declared.claim.Waiter.{Waiter}
use Rattle.lock_manager.specs.Claims.{Claims, Grants, GrantsNone}
use Rattle.lock_manager.proofs.LockLemmas.{seen, read-taken, no_waiter, room_to_start, IsFirstFree-from_position, AreLocks-grant, Grants-from, GrantsNone-from}
use Rattle.lock_manager.proofs.locks.Locks.grant.Goals as goal

pub returns-in_err-place-clause-granted : goal.returns-in_err-place-clause-granted
returns-in_err-place-clause-granted c =
    let now = c.args.self.now in
    let none : position (λ (w : Waiter). eqb w.blocked 0) c.self.inside.waiting.items ≡ None =
    ap (position (λ (w : Waiter). eqb w.blocked 0)) (sym c.as_slice.ensures.value) ∙ sym c.first_free.ensures ∙ c.in_err-place.was in
    let P : Claims → Type 0 = λ s. GrantsNone s s in
    let Q : Option ContextId → Type 0 = λ o. MatchOption o (GrantsNone now now) (λ ctx. Grants now now ctx) in
    subst Q (sym c.from_residual.ensures) (subst P c.self.view_is (GrantsNone-from c.self.inside.waiting.items c.self.inside.started.items none c.self.invariant))

pub push-requires : goal.push-requires
push-requires c =
    let some : 0 < length c.self.inside.waiting.items = (let n = c.remove.ensures.len in omega arith) in
    (lit< tt, room_to_start c.self.inside.waiting.items c.self.inside.started.items c.self.invariant some)

pub invariant_of-self : goal.invariant_of-self
invariant_of-self c =
    let ws = c.self.inside.waiting.items in
    let p = c.in_ok-place.place in
    let w = c.remove.result in
    let found : position (λ (v : Waiter). eqb v.blocked 0) ws ≡ Some p =
    ap (position (λ (v : Waiter). eqb v.blocked 0)) (sym c.as_slice.ensures.value) ∙ sym c.first_free.ensures ∙ c.in_ok-place.was in
    let pushed = rw (read-taken (λ (v : Waiter). eqb v.blocked 0) ws c.as_slice-2.result.now p w no_waiter c.as_slice-2.ensures.value found c.remove.ensures.value) at c.push.ensures.items in
    AreLocks-grant ws c.remove.new.self.items (take p ws) (drop (suc p) ws) w c.self.inside.started.items c.push.new.self.items
    (IsFirstFree-from_position ws p w found c.remove.ensures.value) c.remove.ensures.items pushed c.self.invariant

pub returns-clause-granted : goal.returns-clause-granted
returns-clause-granted c =
    let ws = c.self.inside.waiting.items in
    let p = c.in_ok-place.place in
    let w = c.remove.result in
    let found : position (λ (v : Waiter). eqb v.blocked 0) ws ≡ Some p =
    ap (position (λ (v : Waiter). eqb v.blocked 0)) (sym c.as_slice.ensures.value) ∙ sym c.first_free.ensures ∙ c.in_ok-place.was in
    let read = read-taken (λ (v : Waiter). eqb v.blocked 0) ws c.as_slice-2.result.now p w no_waiter c.as_slice-2.ensures.value found c.remove.ensures.value in
    let pushed = rw read at c.push.ensures.items in
    let P : Claims → Type 0 = λ old. Grants old (seen c.remove.new.self.items c.push.new.self.items) w.claim.ctx in
    rw read (subst P c.self.view_is (Grants-from ws c.remove.new.self.items (take p ws) (drop (suc p) ws) w c.self.inside.started.items c.push.new.self.items
    (IsFirstFree-from_position ws p w found c.remove.ensures.value) c.remove.ensures.items pushed c.self.invariant))
