use Rattle.std.proofs.Common.{[], rules, subst, sym}
use Rattle.trickle_timer.specs.Intervals.{Start}
use Rattle.trickle_timer.specs.Timer.{Timer, IsTimerOf}
use Rattle.trickle_timer.proofs.IntervalLemmas.{IsTimerOf-start}
use Rattle.trickle_timer.proofs.timer.Trickle.start.Goals as goal

pub returns-clause-stands : goal.returns-clause-stands
returns-clause-stands c = let s : Start = record { set = c.args.set; random = c.args.random; node = c.args.node; time = c.args.now } in
    let P : Timer → Type 0 = IsTimerOf s [] in
    subst P (sym (search rules)) (IsTimerOf-start s)
