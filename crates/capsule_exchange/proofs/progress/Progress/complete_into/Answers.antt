use Rattle.std.proofs.Common.{◌≡◌, ℕ, List, get_or, ap, subst, ◌∙◌}
use Rattle.std.specs.Prelude.{Some, None, if◌then◌else◌}
use Rattle.capsule_exchange.specs.declared.handler_state.HandlerState.{HandlerState}
use Rattle.capsule_exchange.specs.Knowledge.{Knowledge}
use Rattle.capsule_exchange.specs.Sound.{AreSound}
use Rattle.capsule_exchange.proofs.AnswerLemmas.{collected_is}
use Rattle.capsule_exchange.proofs.progress.Progress.complete_into.Goals as goal

pub returns-clause-image : goal.returns-clause-image
returns-clause-image c =
    let h = c.args.handler.0 in
    let state = c.index-as_slice-from.result in
    let sound = subst (λ (k : Knowledge). AreSound k.handlers) c.self.view_is c.self.invariant.sound in
    let read : state ≡ get_or c.args.self.now.handlers h state =
    c.index-as_slice-from.is
    ∙ ap (λ (k : ℕ). get_or c.as_slice.result.now k state) c.from.ensures
    ∙ ap (λ (ss : List HandlerState). get_or ss h state) c.as_slice.ensures.value
    ∙ ap (λ (k : Knowledge). get_or k.handlers h state) c.self.view_is in
    collected_is c.args.self.now h state (if c.collect_into.result then Some c.collect_into.new.image else None) sound c.requires read c.collect_into.ensures.held
