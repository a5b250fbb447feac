use Rattle.std.proofs.Common.{◌<◌, ◌≡◌, length, arith}
use Rattle.std.proofs.lemmas.Bool.{eqb-true}
use Rattle.event_queue.proofs.LinkLemmas.{lists_seen, others_seen}
use Rattle.event_queue.proofs.chains.Chains.has_all.Goals as goal

pub returns : goal.returns
returns c = λ all.
    let within : c.args.list < length c.self.inside.heads.items = omega (arith, lists_seen _ _ _ c.self.view_is, c.requires) in
    let len : c.index.result.now.len ≡ length c.self.inside.next.items = omega (arith, c.len.ensures, eqb-true c.index.result.now.len c.len.result all) in
    others_seen c.self.inside.next.items c.self.inside.heads.items c.args.self.now c.args.list c.index.result.now c.self.view_is c.self.invariant within c.index.ensures len
