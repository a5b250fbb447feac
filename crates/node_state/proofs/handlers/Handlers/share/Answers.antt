-- The place has none of its own, and the shared one.
use Rattle.std.proofs.Common.{ℕ, List, Option, Some, length, set, ap, ◌∙◌, arith}
use Rattle.node_state.specs.declared.handlers.Held.{Held}
use Rattle.node_state.specs.Programs.{HeldPrograms, held_either}
use Rattle.node_state.proofs.HandlerLemmas.{either-length, either-share, with-programs}
use Rattle.node_state.proofs.handlers.Handlers.share.Goals as goal

pub index_mut-requires : goal.index_mut-requires
index_mut-requires c =
    let n = c.self.inside in
    let long = either-length n.own.items n.shared.items in
    let same = ap (λ (v : HeldPrograms). length v.programs) c.self.view_is in
    let place = c.from-place.ensures in
    let below = c.requires in
    let size = n.shared.ok.0 in
    omega (arith, long, same, place, below, size)

pub returns : goal.returns
returns c =
    let n = c.self.inside in
    let x = c.args.program in
    let place = c.from-place.result in
    with-programs c.args.self.now _ _ _ _
    (ap (λ (own : List (Option Held)). held_either own (set n.shared.items place (Some x))) c.leave.ensures.items
    ∙ either-share n.own.items n.shared.items place x
    ∙ ap (λ (v : HeldPrograms). set v.programs place (Some x)) c.self.view_is
    ∙ ap (λ (k : ℕ). set c.args.self.now.programs k (Some x)) c.from-place.ensures)
    c.leave.ensures.capacity (ap (λ (v : HeldPrograms). v.room) c.self.view_is)
