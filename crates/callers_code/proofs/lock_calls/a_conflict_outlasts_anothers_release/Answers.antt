use Rattle.std.proofs.Common.{List, [], ◌∷◌, ◌∙◌, sym, ap}
use Rattle.lock_manager.specs.Claims.{blocked_of}
use Rattle.lock_manager.specs.declared.claim.Claim.{Claim}
use Rattle.callers_code.proofs.LockLemmas.{second_left, blocked_behind}
use Rattle.callers_code.proofs.lock_calls.a_conflict_outlasts_anothers_release.Goals as goal

pub returns : goal.returns
returns c = λ first second third started waiting own other is conflict.
    let r = c.release.ensures in
    let left = r.started ∙ second_left first second r.claim r.front r.back c.args.gone (sym started ∙ r.was) r.own other in
    c.blocked.ensures.number ∙ ap (λ (cs : List Claim). blocked_of cs c.release.new.self.waiting c.args.waiter) left
    ∙ ap (λ (cs : List Claim). blocked_of (second ∷ []) cs c.args.waiter) (r.waiting ∙ waiting) ∙ blocked_behind second third c.args.waiter is conflict
