-- The own program changes where it is.
use Rattle.std.proofs.Common.{ℕ, List, Option, None, get_or, set, ap, ◌∙◌, arith}
use Rattle.arrayvec.specs.ArrayVec.{ArrayVec}
use Rattle.node_state.specs.declared.handlers.Held.{Held}
use Rattle.node_state.specs.Programs.{HeldPrograms, held_either, renewed}
use Rattle.node_state.proofs.HandlerLemmas.{own-below, either-renew, with-programs}
use Rattle.node_state.proofs.handlers.Handlers.renew.Goals as goal

pub renew_own-requires-clause-place : goal.renew_own-requires-clause-place
renew_own-requires-clause-place c =
    let n = c.self.inside in
    let below = own-below n.own.items c.from-place.result _ c.in-Some.ensures in
    let size = n.own.ok.0 in
    omega (arith, below, size)

pub returns-in-Some : goal.returns-in-Some
returns-in-Some c =
    let n = c.self.inside in
    let version = c.args.version in
    let image : ArrayVec ℕ = record { items = c.args.image.now } in
    with-programs c.args.self.now _ _ _ _
    (ap (λ (own : List (Option Held)). held_either own n.shared.items) c.renew_own.ensures.items
    ∙ either-renew n.own.items n.shared.items c.from-place.result _ version image c.self.invariant.within c.in-Some.ensures
    ∙ ap (λ (v : HeldPrograms). set v.programs c.from-place.result (renewed version image (get_or v.programs c.from-place.result None))) c.self.view_is
    ∙ ap (λ (k : ℕ). set c.args.self.now.programs k (renewed version image (get_or c.args.self.now.programs k None))) c.from-place.ensures)
    c.renew_own.ensures.capacity (ap (λ (v : HeldPrograms). v.room) c.self.view_is)
