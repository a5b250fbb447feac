use Rattle.std.proofs.Common.{◌≡◌, ◌+◌, ℕ, List, [], ◌∷◌, ◌∙◌, subst, arith}
use Rattle.std.proofs.lemmas.Result.{IfOk-from_err}
use Rattle.mate_journal.specs.declared.air.Air.TheVariants.{Interval}
use Rattle.event_queue.specs.declared.queue.Timed.{Timed}
use Rattle.radio_sim.specs.declared.shared_event.SharedEvent.{SharedEvent}
use Rattle.radio_sim.specs.declared.shared_event.SharedEvent.TheVariants.{Fire, Expire}
use Rattle.world_air.specs.Air.{aired_at}
use Rattle.world_air.specs.Changes.{AddsToAir}
use Rattle.world_air.specs.Starting.{beginning}
use Rattle.world_air.proofs.ChangeLemmas.{adds-both}
use Rattle.world_air.proofs.start.begin_node.Goals as goal

pub returns-in_err-note_interval : goal.returns-in_err-note_interval
returns-in_err-note_interval c = IfOk-from_err _ _ c.from_residual.ensures.0

pub schedule_interval-requires-clause-point : goal.schedule_interval-requires-clause-point
schedule_interval-requires-clause-point c =
    let now = c.in_ok-note_interval.ensures.grows.now ∙ c.requires in omega (arith, now)

pub schedule_interval-requires-clause-end : goal.schedule_interval-requires-clause-end
schedule_interval-requires-clause-end c =
    let now = c.in_ok-note_interval.ensures.grows.now ∙ c.requires in omega (arith, now)

pub returns-in_err-schedule_interval : goal.returns-in_err-schedule_interval
returns-in_err-schedule_interval c = IfOk-from_err _ _ c.from_residual-in_err-schedule_interval.ensures.0

pub schedule_periods-requires : goal.schedule_periods-requires
schedule_periods-requires c = c.in_ok-schedule_interval.ensures.grows.now ∙ c.in_ok-note_interval.ensures.grows.now ∙ c.requires

pub returns-in_err-schedule_periods : goal.returns-in_err-schedule_periods
returns-in_err-schedule_periods c = IfOk-from_err _ _ c.from_residual-in_err-schedule_periods.ensures.0

pub returns : goal.returns
returns c =
    let old = c.args.radio.now in
    let noted = c.note_interval.new.radio in
    let timed = c.schedule_interval.new.radio in
    let running = c.args.timer.now.running in
    let items : ℕ → ℕ → ℕ → List (Timed SharedEvent) = λ point begin length. record { time = point; item = Fire c.args.node } ∷ record { time = begin + length; item = Expire c.args.node } ∷ [] in
    let same : items c.point.result c.begin.result c.length-2.result ≡ items running.point running.begin running.length = λ i. items (c.point.ensures.value i) (c.begin.ensures.value i) (c.length-2.ensures.value i) in
    let first = subst (λ (n : ℕ). AddsToAir old noted (aired_at beginning c.args.node (Interval n) ∷ []) []) c.length.ensures.value c.in_ok-note_interval.ensures in
    let then = subst (λ (xs : List (Timed SharedEvent)). AddsToAir noted timed [] xs) same c.in_ok-schedule_interval.ensures in
    adds-both old noted c.schedule_periods.new.radio _ [] [] _ first (adds-both noted timed c.schedule_periods.new.radio [] [] _ _ then c.in_ok-schedule_periods.ensures)
