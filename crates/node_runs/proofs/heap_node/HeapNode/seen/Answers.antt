use Rattle.std.proofs.Common.{◌≡◌, subst}
use Rattle.node_open.specs.View.{HasPlaces}
use Rattle.node_open.proofs.CallLemmas.{places-told}
use Rattle.node_runs.proofs.KeptLemmas.{ranges-told-as, goes-on-as}
use Rattle.node_runs.proofs.heap_node.HeapNode.seen.Goals as goal

pub returns-clause-ranges : goal.returns-clause-ranges
returns-clause-ranges c =
    let first : c.args.self.now ≡ c.deref.result.now = cc in
    let old : c.args.self.now ≡ c.deref_mut.result.now = cc in
    let last : c.seen.new.self ≡ c.deref-2.result.now = cc in
    ranges-told-as c.args.self.now c.deref.result.now c.deref_mut.result.now c.seen.new.self c.deref-2.result.now first old last c.kept.result.now c.kept-2.result.now c.of-size.result c.args.at _ c.kept.ensures.keeps c.kept-2.ensures.keeps
    c.kept.ensures.kept c.of-size.ensures c.seen.ensures c.kept-2.ensures.kept c.log_is_in_range_from.ensures

pub returns-clause-goes_on : goal.returns-clause-goes_on
returns-clause-goes_on c =
    let first : c.args.self.now ≡ c.deref.result.now = cc in
    let old : c.args.self.now ≡ c.deref_mut.result.now = cc in
    let last : c.seen.new.self ≡ c.deref-2.result.now = cc in
    goes-on-as c.args.self.now c.deref.result.now c.deref_mut.result.now c.seen.new.self c.deref-2.result.now first old last c.args.at _ c.kept.ensures.keeps c.kept-2.ensures.keeps c.seen.ensures

pub invariant_of-self : goal.invariant_of-self
invariant_of-self c =
    let e : c.self.inside.node.value ≡ c.deref_mut.result.now = cc in
    record { places = places-told c.deref_mut.result.now c.seen.new.self c.args.at _ (subst HasPlaces e c.self.invariant.places) c.seen.ensures }
