use Rattle.std.proofs.Common.{List, length, ap}
use Rattle.std.specs.List.{find}
use Rattle.capsule_exchange.specs.declared.handler_state.HandlerState.{HandlerState}
use Rattle.capsule_exchange.specs.Happenings.{slots_from}
use Rattle.capsule_exchange.specs.Knowledge.{Knowledge}
use Rattle.capsule_exchange.specs.Steps.{is_marked_in}
use Rattle.capsule_exchange.proofs.AnswerLemmas.{any_is}
use Rattle.capsule_exchange.proofs.progress.Progress.marked.Goals as goal

pub returns : goal.returns
returns c =
    let first = λ (ss : List HandlerState). find (is_marked_in ss) (slots_from (length ss) 0) in
    any_is c.args.self.now (first c.self.inside.handlers.items) c.self.inside.summary.owes (ap (λ (k : Knowledge). first k.handlers) c.self.view_is) c.self.invariant.summed.owes
