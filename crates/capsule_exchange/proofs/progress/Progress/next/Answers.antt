use Rattle.std.proofs.Common.{List, ◌*◌, ◌<◌, length, subst, ap, ◌∙◌}
use Rattle.std.specs.Prelude.{is_some, IfSome, IsTrue}
use Rattle.capsule_exchange.specs.declared.handler_state.HandlerState.{HandlerState}
use Rattle.capsule_exchange.specs.Knowledge.{Knowledge}
use Rattle.capsule_exchange.specs.Steps.{next_in, is_marked_in}
use Rattle.capsule_exchange.proofs.AnswerLemmas.{next_is, next_some}
use Rattle.capsule_exchange.proofs.progress.Progress.next.Goals as goal

pub returns-clause-next : goal.returns-clause-next
returns-clause-next c =
    next_is c.args.self.now c.next_slot.result
    (c.next_slot.ensures.value ∙ ap (λ (ss : List HandlerState). next_in ss c.self.inside.last) c.as_slice.ensures.value ∙ ap (λ (k : Knowledge). next_in k.handlers k.last) c.self.view_is)

pub returns-clause-none : goal.returns-clause-none
returns-clause-none c = λ n before was.
    ap is_some
    (next_is c.args.self.now c.next_slot.result
    (c.next_slot.ensures.value ∙ ap (λ (ss : List HandlerState). next_in ss c.self.inside.last) c.as_slice.ensures.value ∙ ap (λ (k : Knowledge). next_in k.handlers k.last) c.self.view_is) n before was)
    ∙ next_some n before

pub returns-clause-marked : goal.returns-clause-marked
returns-clause-marked c =
    subst (λ (ss : List HandlerState). IfSome c.next_slot.result (λ slot. (slot < 22 * length ss) × IsTrue (is_marked_in ss slot)))
    (c.as_slice.ensures.value ∙ ap (λ (k : Knowledge). k.handlers) c.self.view_is) c.next_slot.ensures.marked
