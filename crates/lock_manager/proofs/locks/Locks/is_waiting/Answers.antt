use Rattle.std.proofs.Common.{ℕ, Option, ◌∙◌, ap}
use Rattle.std.specs.Option.{is_some}
use Rattle.lock_manager.proofs.CountLemmas.{is_some-blocked_of}
use Rattle.lock_manager.proofs.locks.Locks.is_waiting.Goals as goal

pub returns : goal.returns
returns c =
    let s = c.args.self.now in
    c.is_some.ensures ∙ ap (λ (o : Option ℕ). is_some o) c.blocked.ensures.number ∙ is_some-blocked_of s.started s.waiting c.args.ctx
