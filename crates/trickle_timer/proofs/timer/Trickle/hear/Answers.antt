use Rattle.std.proofs.Common.{Bool, subst, sym, rules}
use Rattle.trickle_timer.specs.Intervals.{Inconsistent}
use Rattle.trickle_timer.specs.Timer.{packet_event, TimerContinues}
use Rattle.trickle_timer.proofs.IntervalLemmas.{Continues-after}
use Rattle.trickle_timer.proofs.timer.Trickle.hear.Goals as goal

pub returns-then-consistent-clause-next : goal.returns-then-consistent-clause-next
returns-then-consistent-clause-next c = Continues-after _ _ _ (search rules)

pub returns-else-consistent-clause-next : goal.returns-else-consistent-clause-next
returns-else-consistent-clause-next c =
    let P : Bool → Type 0 = λ b. TimerContinues c.args.self.now c.reset.new.self (record { event = packet_event b; time = c.args.now }) in
    subst P (sym c.if-consistent.false) (Continues-after _ _ (record { event = Inconsistent; time = c.args.now }) c.reset.ensures.next.next)
