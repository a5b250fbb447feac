-- What waits in a radio's queue, by the events that come of it.
use Rattle.std.specs.Prelude.{◌≡◌, ℕ, ◌<◌, ◌≤◌, List, [], ◌∷◌, ◌++◌, map, Option}
use Rattle.event_queue.specs.declared.queue.Timed.{Timed}
use Rattle.event_queue.specs.Agenda.{Agenda, due_at}
use Rattle.radio_sim.specs.declared.shared_event.SharedEvent.{SharedEvent}
use Rattle.radio_sim.specs.declared.shared_event.SharedEvent.TheVariants as event
use Rattle.radio_sim.specs.declared.waiting.Delivery.{Delivery}
use Rattle.radio_sim.specs.declared.waiting.Waiting.{Waiting}
use Rattle.radio_sim.specs.declared.waiting.Waiting.TheVariants as waiting
use Rattle.radio_sim.specs.Events.{group_of}

abbrev pub delivery_event : Delivery → SharedEvent
delivery_event d = event.Deliver d.link d.number d.bytes

-- the event that comes first, and the deliveries behind it
abbrev pub first_event : Waiting → SharedEvent
first_event (waiting.Planned line) = event.Planned line
first_event (waiting.Period node handler) = event.Period node handler
first_event (waiting.Fire node) = event.Fire node
first_event (waiting.Expire node) = event.Expire node
first_event (waiting.Pump node) = event.Pump node
first_event (waiting.Due node ctx inv value) = event.Due node ctx inv value
first_event (waiting.Flight f) = delivery_event f.first

abbrev pub later_deliveries : Waiting → List Delivery
later_deliveries (waiting.Planned line) = []
later_deliveries (waiting.Period node handler) = []
later_deliveries (waiting.Fire node) = []
later_deliveries (waiting.Expire node) = []
later_deliveries (waiting.Pump node) = []
later_deliveries (waiting.Due node ctx inv value) = []
later_deliveries (waiting.Flight f) = f.rest

abbrev pub events_of : Waiting → List SharedEvent
events_of w = first_event w ∷ map delivery_event (later_deliveries w)

abbrev pub waiting_group : Waiting → Option ℕ
waiting_group w = group_of (first_event w)

-- events at one time
abbrev pub all_at : ℕ → List SharedEvent → List (Timed SharedEvent)
all_at t es = map (λ e. record { time = t; item = e }) es

-- the events of all that waits
abbrev pub awaited : List (Timed Waiting) → List (Timed SharedEvent)
awaited [] = []
awaited (x ∷ xs) = all_at x.time (events_of x.item) ++ awaited xs

-- the deliveries that are left of the last transmission that came stand before all that waits in the queue
abbrev pub radio_agenda : List Delivery → Agenda Waiting → Agenda SharedEvent
radio_agenda coming q = record { until = q.until; now = q.now; items = all_at q.now (map delivery_event coming) ++ awaited q.items }

-- nothing in the queue comes before the time of the last item that came
pub record IsOnTime (q : Agenda Waiting) : Type 0 where
  pub in_time : q.now ≤ q.until
  pub none_before : (t : ℕ) → t < q.now → due_at t q.items ≡ []
