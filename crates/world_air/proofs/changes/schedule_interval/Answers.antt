use Rattle.std.proofs.Common.{[], subst, sym, ◌≤◌, ℕ}
use Rattle.world_air.proofs.ChangeLemmas.{adds-both}
use Rattle.world_air.proofs.changes.schedule_interval.Goals as goal

pub schedule-requires-2 : goal.schedule-requires-2
schedule-requires-2 c = subst (λ (n : ℕ). n ≤ c.args.end) (sym c.in_ok-schedule.ensures.grows.now) c.requires.end

pub returns : goal.returns
returns c = adds-both c.args.radio.now c.schedule.new.radio c.schedule-2.new.radio [] [] _ _ c.in_ok-schedule.ensures c.in_ok-schedule-2.ensures
