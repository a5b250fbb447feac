-- The copy is written where the own program is, or installed.
use Rattle.std.proofs.Common.{ℕ, List, Option, Some, set, ap, ◌∙◌, arith}
use Rattle.node_state.specs.declared.handlers.Held.{Held}
use Rattle.node_state.specs.Programs.{HeldPrograms, held_either}
use Rattle.node_state.proofs.HandlerLemmas.{own-below, either-replace, with-programs}
use Rattle.node_state.proofs.handlers.Handlers.install_copy.Goals as goal

pub copy_own-requires-clause-place : goal.copy_own-requires-clause-place
copy_own-requires-clause-place c =
    let n = c.self.inside in
    let below = own-below n.own.items c.from-place.result _ c.in-Some.ensures in
    let size = n.own.ok.0 in
    omega (arith, below, size)

pub returns-in-Some : goal.returns-in-Some
returns-in-Some c =
    let n = c.self.inside in
    let copy : Held = record (c.args.held.now) { version = c.args.version; image = record { items = c.args.image.now } } in
    with-programs c.args.self.now _ _ _ _
    (ap (λ (own : List (Option Held)). held_either own n.shared.items) c.copy_own.ensures.items
    ∙ either-replace n.own.items n.shared.items c.from-place.result _ copy c.self.invariant.within c.in-Some.ensures
    ∙ ap (λ (v : HeldPrograms). set v.programs c.from-place.result (Some copy)) c.self.view_is
    ∙ ap (λ (k : ℕ). set c.args.self.now.programs k (Some copy)) c.from-place.ensures)
    c.copy_own.ensures.capacity (ap (λ (v : HeldPrograms). v.room) c.self.view_is)

pub returns-in-None : goal.returns-in-None
returns-in-None c =
    c.install.ensures
    ∙ ap (λ (x : Held). let h : HeldPrograms = record (c.args.self.now) { programs = set c.args.self.now.programs c.args.handler.0 (Some x) } in h) c.renewed_copy.ensures
