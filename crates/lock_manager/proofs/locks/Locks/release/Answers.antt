-- The released claim was counted by each waiter that conflicts with it, so that number is above 0 and falls by one.
use Rattle.std.proofs.Common.{◌≡◌, true, ◌<◌, suc, List, map, take, drop, length, IsTrue, ◌∙◌, sym, ap, subst}
use Rattle.std.specs.List.{All, position, refill}
use Rattle.std.specs.Option.{is_some}
use Rattle.lock_manager.specs.declared.claim.Waiter.{Waiter}
use Rattle.lock_manager.specs.Conflict.{conflict}
use Rattle.lock_manager.specs.Claims.{Claims, is_of, set_of, Releases}
use Rattle.lock_manager.specs.Counts.{lowered}
use Rattle.lock_manager.proofs.LockLemmas.{seen, read-taken, no_claim, IsClaimAt, IsClaimAt-from_position, above-released, AreLocks-release, Releases-from, refill-map, found-started}
use Rattle.lock_manager.proofs.locks.Locks.release.Goals as goal

pub lower-requires : goal.lower-requires
lower-requires c =
    let ss = c.self.inside.started.items in
    let p = c.in-Some.place in
    let a = c.remove.result in
    let found = ap (position (is_of c.args.ctx)) (sym c.as_slice.ensures.value) ∙ sym c.place_of.ensures ∙ c.in-Some.is in
    let read = read-taken (is_of c.args.ctx) ss c.as_slice-2.result.now p a no_claim c.as_slice-2.ensures.value found c.remove.ensures.value in
    let at : IsClaimAt ss c.args.ctx (take p ss) a (drop (suc p) ss) =
    IsClaimAt-from_position ss c.args.ctx p a found c.remove.ensures.value in
    let P : List Waiter → Type 0 = λ ws. All (λ w. IsTrue (conflict w.claim.set a.set) → 0 < w.blocked) ws in
    rw read (subst P (sym c.as_mut_slice.ensures.value) (above-released c.self.inside.waiting.items ss (take p ss) (drop (suc p) ss) c.args.ctx a at c.self.invariant))

pub invariant_of-self : goal.invariant_of-self
invariant_of-self c =
    let ws = c.self.inside.waiting.items in
    let ss = c.self.inside.started.items in
    let p = c.in-Some.place in
    let a = c.remove.result in
    let found = ap (position (is_of c.args.ctx)) (sym c.as_slice.ensures.value) ∙ sym c.place_of.ensures ∙ c.in-Some.is in
    let read = read-taken (is_of c.args.ctx) ss c.as_slice-2.result.now p a no_claim c.as_slice-2.ensures.value found c.remove.ensures.value in
    let at : IsClaimAt ss c.args.ctx (take p ss) a (drop (suc p) ss) =
    IsClaimAt-from_position ss c.args.ctx p a found c.remove.ensures.value in
    let f : Waiter → Waiter = lowered a.set in
    let lowers : c.lower.new.waiters ≡ map f c.as_mut_slice.result.now = rw read at c.lower.ensures in
    let e : c.lower.new.waiters ≡ map f ws = lowers ∙ ap (λ (l : List Waiter). map f l) c.as_mut_slice.ensures.value in
    AreLocks-release ws (refill (length ws) ws c.lower.new.waiters) ss c.remove.new.self.items (take p ss) (drop (suc p) ss) c.args.ctx a at c.remove.ensures.items (refill-map f ws c.lower.new.waiters e) c.self.invariant

pub returns : goal.returns
returns c =
    let ws = c.self.inside.waiting.items in
    let ss = c.self.inside.started.items in
    let p = c.in-Some.place in
    let a = c.remove.result in
    let found = ap (position (is_of c.args.ctx)) (sym c.as_slice.ensures.value) ∙ sym c.place_of.ensures ∙ c.in-Some.is in
    let read = read-taken (is_of c.args.ctx) ss c.as_slice-2.result.now p a no_claim c.as_slice-2.ensures.value found c.remove.ensures.value in
    let at : IsClaimAt ss c.args.ctx (take p ss) a (drop (suc p) ss) =
    IsClaimAt-from_position ss c.args.ctx p a found c.remove.ensures.value in
    let f : Waiter → Waiter = lowered a.set in
    let lowers : c.lower.new.waiters ≡ map f c.as_mut_slice.result.now = rw read at c.lower.ensures in
    let e : c.lower.new.waiters ≡ map f ws = lowers ∙ ap (λ (l : List Waiter). map f l) c.as_mut_slice.ensures.value in
    let vs = refill (length ws) ws c.lower.new.waiters in
    let P : Claims → Type 0 = λ old. Releases old (seen vs c.remove.new.self.items) c.args.ctx in
    subst P c.self.view_is (Releases-from ws vs ss c.remove.new.self.items (take p ss) (drop (suc p) ss) c.args.ctx a at c.remove.ensures.items (refill-map f ws c.lower.new.waiters e) c.self.invariant)

pub unreachable-requires : goal.unreachable-requires
unreachable-requires c =
    let P : Claims → Type 0 = λ s. is_some (set_of s.started c.args.ctx) ≡ true in
    found-started c.self.inside.started.items c.args.ctx
    (ap (position (is_of c.args.ctx)) (sym c.as_slice.ensures.value) ∙ sym c.place_of.ensures ∙ c.in_default.is)
    (subst P (sym c.self.view_is) c.requires)
