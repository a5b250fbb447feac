use Rattle.std.proofs.Common.{◌≤◌, ℕ, [], sym, subst}
use Rattle.std.proofs.lemmas.Result.{IfOk-from_err}
use Rattle.world_air.proofs.ChangeLemmas.{adds-both}
use Rattle.world_event.proofs.pieces.schedule_timed.Goals as goal

pub schedule_begun-requires-clause-ahead : goal.schedule_begun-requires-clause-ahead
schedule_begun-requires-clause-ahead c = subst (λ (now : ℕ). now ≤ c.args.now) (sym c.in_ok-schedule_period.ensures.grows.now) c.requires.ahead

pub returns-in_err-schedule_period : goal.returns-in_err-schedule_period
returns-in_err-schedule_period c = IfOk-from_err _ _ c.from_residual.ensures.0

pub returns-in_err-schedule_begun : goal.returns-in_err-schedule_begun
returns-in_err-schedule_begun c = IfOk-from_err _ _ c.from_residual-in_err-schedule_begun.ensures.0

pub returns : goal.returns
returns c = adds-both c.args.radio.now c.schedule_period.new.radio c.schedule_begun.new.radio [] [] _ _ c.in_ok-schedule_period.ensures c.in_ok-schedule_begun.ensures
