use Rattle.std.proofs.Common.{◌≡◌, ℕ, List, get_or, sym, ap, ◌∙◌}
use Rattle.capsule_exchange.specs.declared.handler_state.HandlerState.{HandlerState}
use Rattle.capsule_exchange.specs.Knowledge.{Knowledge}
use Rattle.capsule_exchange.proofs.KnowledgeLemmas.{held_is}
use Rattle.capsule_exchange.proofs.progress.Progress.held.Goals as goal

pub returns-clause-version : goal.returns-clause-version
returns-clause-version c = λ n hs was.
    let h = c.args.handler.0 in
    let state = c.index-as_slice-from.result in
    let read : state ≡ get_or c.args.self.now.handlers h state =
    c.index-as_slice-from.is
    ∙ ap (λ (k : ℕ). get_or c.as_slice.result.now k state) c.from.ensures
    ∙ ap (λ (ss : List HandlerState). get_or ss h state) c.as_slice.ensures.value
    ∙ ap (λ (k : Knowledge). get_or k.handlers h state) c.self.view_is in
    ap (λ (s : HandlerState). s.held) (sym c.index-as_slice-from.is) ∙ held_is c.args.self.now c.args.handler state c.requires read n hs was
