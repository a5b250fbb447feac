-- The pieces of what an event schedules, as items of the radio's agenda.
use Rattle.std.specs.Prelude.{ℕ, ◌+◌, Bool, true, false, List, [], ◌∷◌, Option, Some, None, slice_get}
use Rattle.std.specs.Option.{option_map_or}
use Rattle.mate_num.specs.declared.id.HandlerId.{HandlerId}
use Rattle.vm_shape.specs.declared.description.Description.{Description}
use Rattle.vm_shape.specs.declared.handler.Handler.{Handler}
use Rattle.event_queue.specs.declared.queue.Timed.{Timed}
use Rattle.radio_sim.specs.declared.shared_event.SharedEvent.{SharedEvent}
use Rattle.radio_sim.specs.declared.shared_event.SharedEvent.TheVariants as radio
use Rattle.trickle_timer.specs.Timer.{Timer}
use Rattle.world_rules.specs.World.{period_in}

-- the length of the interval that begins, if one does
abbrev pub length_of : Bool → Timer → Option ℕ
length_of false t = None
length_of true t = Some t.running.length

-- its point and its end
abbrev pub interval_items : Bool → ℕ → Timer → List (Timed SharedEvent)
interval_items false node t = []
interval_items true node t = record { time = t.running.point; item = radio.Fire node }
    ∷ record { time = t.running.begin + t.running.length; item = radio.Expire node } ∷ []

-- the period of a handler, if it is a timer's
abbrev pub handler_period : Description → HandlerId → Option ℕ
handler_period d h = option_map_or (λ (x : Handler). period_in x.kind) (slice_get d.handlers.items h.0) None

abbrev pub next_items : Option ℕ → ℕ → HandlerId → ℕ → List (Timed SharedEvent)
next_items None node h now = []
next_items (Some period) node h now = record { time = now + period; item = radio.Period node h } ∷ []

-- the next period after one that came
abbrev pub period_items : Description → SharedEvent → ℕ → List (Timed SharedEvent)
period_items d (radio.Planned line) now = []
period_items d (radio.Period node h) now = next_items (handler_period d h) node h now
period_items d (radio.Fire node) now = []
period_items d (radio.Expire node) now = []
period_items d (radio.Pump node) now = []
period_items d (radio.Due node c inv value) now = []
period_items d (radio.Deliver link number bytes) now = []

-- the pump that comes to be due
abbrev pub pump_items : Description → ℕ → ℕ → Bool → List (Timed SharedEvent)
pump_items d node now false = []
pump_items d node now true = record { time = now + d.radio.gap; item = radio.Pump node } ∷ []
