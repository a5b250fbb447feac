use Rattle.std.proofs.Common.{◌<◌, length, arith}
use Rattle.event_queue.proofs.LinkLemmas.{lists_seen, first_seen, first_below_total}
use Rattle.event_queue.proofs.chains.Chains.first.Goals as goal

pub returns-clause-value : goal.returns-clause-value
returns-clause-value c =
    first_seen _ _ _ _ c.index-head.result.now c.self.view_is (omega (arith, lists_seen _ _ _ c.self.view_is, c.requires)) c.index-head.ensures c.if-head-eq0.false

pub returns-clause-below : goal.returns-clause-below
returns-clause-below c =
    let within : c.args.list < length c.self.inside.heads.items = omega (arith, lists_seen _ _ _ c.self.view_is, c.requires) in
    first_below_total c.self.inside.next.items c.self.inside.heads.items c.args.self.now c.args.list c.index-head.result.now c.self.view_is c.self.invariant.linked within c.index-head.ensures c.if-head-eq0.false
