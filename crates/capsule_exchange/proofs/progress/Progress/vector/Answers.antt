use Rattle.std.proofs.Common.{List, map, ap, ◌∙◌}
use Rattle.capsule_exchange.specs.declared.handler_state.HandlerState.{HandlerState}
use Rattle.capsule_exchange.specs.Knowledge.{Knowledge}
use Rattle.capsule_exchange.proofs.AnswerLemmas.{vector_told}
use Rattle.capsule_exchange.proofs.progress.Progress.vector.Goals as goal

pub returns-clause-value : goal.returns-clause-value
returns-clause-value c =
    let held = λ (ss : List HandlerState). map (λ (s : HandlerState). s.held) ss in
    vector_told c.args.self.now c.held_versions.result (c.held_versions.ensures ∙ ap held c.as_slice.ensures.value ∙ ap (λ (k : Knowledge). held k.handlers) c.self.view_is)
