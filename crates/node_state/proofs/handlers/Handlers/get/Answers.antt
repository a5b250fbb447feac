-- The handler's own program, or else the shared one.
use Rattle.std.proofs.Common.{ℕ, Option, None, get_or, sym, ap, ◌∙◌}
use Rattle.std.specs.Option.{option_or}
use Rattle.node_state.specs.declared.handlers.Held.{Held}
use Rattle.node_state.specs.Programs.{HeldPrograms}
use Rattle.node_state.proofs.HandlerLemmas.{either-at}
use Rattle.node_state.proofs.handlers.Handlers.get.Goals as goal

pub returns-in-Some : goal.returns-in-Some
returns-in-Some c =
    let n = c.self.inside in
    let place = c.from-place.result in
    let shared : Option Held = get_or n.shared.items place None in
    sym (either-at n.own.items n.shared.items place c.self.invariant.within ∙ ap (λ (o : Option Held). option_or o shared) (sym c.in-Some.ensures))
    ∙ ap (λ (v : HeldPrograms). get_or v.programs place None) c.self.view_is
    ∙ ap (λ (k : ℕ). get_or c.args.self.now.programs k None) c.from-place.ensures

pub returns-in-None : goal.returns-in-None
returns-in-None c =
    let n = c.self.inside in
    let place = c.from-place.result in
    let shared : Option Held = get_or n.shared.items place None in
    c.shared_at.ensures
    ∙ sym (either-at n.own.items n.shared.items place c.self.invariant.within ∙ ap (λ (o : Option Held). option_or o shared) (sym c.in-None.ensures))
    ∙ ap (λ (v : HeldPrograms). get_or v.programs place None) c.self.view_is
    ∙ ap (λ (k : ℕ). get_or c.args.self.now.programs k None) c.from-place.ensures
