-- The place is there, and has the program.
use Rattle.std.proofs.Common.{ℕ, List, Option, None, Some, length, length-set, set, ap, ◌∙◌, arith}
use Rattle.node_state.specs.declared.handlers.Held.{Held}
use Rattle.node_state.specs.Programs.{HeldPrograms}
use Rattle.node_state.proofs.HandlerLemmas.{either-length, either-install, with-programs}
use Rattle.node_state.proofs.handlers.Handlers.install.Goals as goal

pub reach-requires : goal.reach-requires
reach-requires c =
    let place = c.from-place.ensures in
    let below = c.requires.room in
    let room = ap (λ (v : HeldPrograms). v.room) c.self.view_is in
    omega (arith, place, below, room)

pub index_mut-requires-2 : goal.index_mut-requires-2
index_mut-requires-2 c =
    let n = c.self.inside in
    let long = either-length n.own.items n.shared.items in
    let same = ap (λ (v : HeldPrograms). length v.programs) c.self.view_is in
    let place = c.from-place.ensures in
    let below = c.requires.handler in
    let size = n.shared.ok.0 in
    omega (arith, long, same, place, below, size)

pub invariant_of-self : goal.invariant_of-self
invariant_of-self c =
    let n = c.self.inside in
    let long = either-length n.own.items n.shared.items in
    let same = ap (λ (v : HeldPrograms). length v.programs) c.self.view_is in
    let place = c.from-place.ensures in
    let below = c.requires.handler in
    let few = c.reach.ensures.few in
    let within = c.self.invariant.within in
    let own = length-set c.reach.new.own.items c.from-place.result (Some c.args.held) in
    let shared = length-set n.shared.items c.from-place.result None in
    record { within = omega (arith, long, same, place, below, few, within, own, shared) }

pub returns : goal.returns
returns c =
    let n = c.self.inside in
    let x = c.args.held in
    let place = c.from-place.result in
    let reached = c.reach.ensures.reached in
    with-programs c.args.self.now _ _ _ _
    (either-install c.reach.new.own.items n.shared.items place x (omega (arith, reached))
    ∙ ap (λ (l : List (Option Held)). set l place (Some x)) (c.reach.ensures.same n.shared.items)
    ∙ ap (λ (v : HeldPrograms). set v.programs place (Some x)) c.self.view_is
    ∙ ap (λ (k : ℕ). set c.args.self.now.programs k (Some x)) c.from-place.ensures)
    c.reach.ensures.capacity (ap (λ (v : HeldPrograms). v.room) c.self.view_is)
