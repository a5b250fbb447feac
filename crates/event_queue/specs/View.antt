-- The plan and the wheel as a list in order of time. It follows the code.
use Rattle.std.specs.Prelude.{◌≡◌, ℕ, zero, suc, ◌<◌, ◌≤◌, List, [], ◌++◌, map, Option}
use Rattle.event_queue.specs.declared.queue.Timed.{Timed}
use Rattle.event_queue.specs.declared.wheel.Wheel.{Wheel}
use Rattle.event_queue.specs.Wheel.{wheel_due, IsWheel}
use Rattle.event_queue.specs.declared.plan.Plan.{Plan}
use Rattle.event_queue.specs.Plan.{planned_due, IsPlanAhead}
use Rattle.event_queue.specs.Agenda.{Agenda}

abbrev pub at_time : {T : Type 0} → ℕ → List T → List (Timed T)
at_time t xs = map (λ x. record { time = t; item = x }) xs

-- what comes before time n, in order, from what comes at each time
unfoldable pub in_order : {T : Type 0} → (ℕ → List T) → ℕ → List (Timed T)
in_order comes zero = []
in_order comes (suc n) = in_order comes n ++ at_time n (comes n)

-- what is due at a time: what is planned for it, and then what waits on the wheel
abbrev pub queue_due : {T : Type 0} → (T → Option ℕ) → (ℕ → T) → Plan → Wheel T → ℕ → List T
queue_due group numbered p w t = planned_due numbered p t ++ wheel_due group w t

abbrev pub agenda_at : {T : Type 0} → (ℕ → List T) → ℕ → ℕ → Agenda T
agenda_at due until now = record { until = until; now = now; items = in_order due (suc until) }

abbrev pub agenda_of : {T : Type 0} → (T → Option ℕ) → (ℕ → T) → ℕ → Plan → Wheel T → Agenda T
agenda_of group numbered until p w = agenda_at (queue_due group numbered p w) until w.at

-- the plan and the wheel are within `until`, and have nothing after it
pub record IsRightQueue {T : Type 0} (group : T → Option ℕ) (until : ℕ) (p : Plan) (w : Wheel T) : Type 0 where
  pub right : IsWheel group w
  pub below : until < 4194304
  pub ahead : w.at ≤ until
  pub none_after : (t : ℕ) → until < t → wheel_due group w t ≡ []
  pub plan : IsPlanAhead w.at until p
