use Rattle.std.proofs.Common.{ℕ, length, get_or, arith}
use Rattle.std.proofs.lemmas.List.FromFn.{fill_by_all}
use Rattle.capsule_exchange.specs.Steps.{no_state, aimed, state_at}
use Rattle.capsule_exchange.proofs.handlers.aim_each.Goals as goal

pub returns : goal.returns
returns c =
    let states = c.args.states.now in
    let aimed_at = λ (k : ℕ). aimed (get_or c.args.versions.now k 0) (state_at states k) in
    fill_by_all aimed_at c.loop-h.states (length states) no_state c.loop-h.auto.states (λ k below. c.loop-h.invariant.done k (omega arith))
