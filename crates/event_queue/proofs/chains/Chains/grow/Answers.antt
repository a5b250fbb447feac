use Rattle.std.proofs.Common.{◌≡◌, List, ℕ, length, subst, rules}
use Rattle.event_queue.specs.Links.{LinksLast}
use Rattle.event_queue.proofs.LinkLemmas.{linked-push, alone-push, grows}
use Rattle.event_queue.proofs.chains.Chains.grow.Goals as goal

pub append-requires-clause-linked : goal.append-requires-clause-linked
append-requires-clause-linked c = rw c.in_ok-push.ensures.items (linked-push _ _ c.self.invariant.linked)

pub append-requires-clause-alone : goal.append-requires-clause-alone
append-requires-clause-alone c =
    let is : c.len-place.result ≡ length c.self.inside.next.items = search rules in
    rw c.in_ok-push.ensures.items (alone-push _ _ _ c.self.invariant.linked is)

pub returns : goal.returns
returns c =
    let is : c.len-place.result ≡ length c.self.inside.next.items = search rules in
    grows c.self.inside.next.items c.self.inside.heads.items _ _ _ _ _ c.self.view_is is
    (subst (λ (xs : List ℕ). LinksLast xs c.self.inside.heads.items c.append.new.next.items c.append.new.heads.items c.args.list c.len-place.result) c.in_ok-push.ensures.items c.append.ensures)
